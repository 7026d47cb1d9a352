-- How the sections of a session are written into its journal.
use Rattle.std.specs.Prelude.{ℕ, ◌+◌, List, [], ◌∷◌}
use Rattle.journal_meaning.specs.Sections.{Purpose, Asks, Trims, Forces, SectionEntries}
use Rattle.journal_text.specs.declared.sections.SectionKind.{SectionKind}
use Rattle.journal_text.specs.declared.sections.SectionKind.TheVariants as kinds
use Rattle.journal_text.specs.declared.sections.Section.{Section as WrittenSection}
use Rattle.journal_text.specs.Spelling.{journal_lines}

abbrev pub kind_of : Purpose → SectionKind
kind_of (Asks batch) = kinds.Batch
kind_of Trims = kinds.Trim
kind_of (Forces batch) = kinds.Held

-- a section with its number
abbrev pub numbered_section : ℕ → SectionEntries → WrittenSection
numbered_section number section = record { kind = kind_of section.purpose; number = number; shards = section.lists }

-- sections with the numbers from this one on
abbrev pub numbered_from : ℕ → List SectionEntries → List WrittenSection
numbered_from number [] = []
numbered_from number (section ∷ sections) = numbered_section number section ∷ numbered_from (number + 1) sections

-- the text of the journal, for this many shards with room for this many cells
abbrev pub journal_text : ℕ → ℕ → List SectionEntries → List ℕ
journal_text shards cells sections = journal_lines shards cells (numbered_from 1 sections)
