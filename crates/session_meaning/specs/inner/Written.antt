-- Definitions for proofs and private functions, beside `Written`.
use Rattle.std.specs.Prelude.{ℕ, List, flat_map}
use Rattle.journal_meaning.specs.Sections.{SectionEntries}
use Rattle.journal_text.specs.Spelling.{section_lines}
use Rattle.session_meaning.specs.Written.{numbered_from}

-- the text of all sections of a session, after the journal's head
abbrev pub sections_text : List SectionEntries → List ℕ
sections_text sections = flat_map section_lines (numbered_from 1 sections)
