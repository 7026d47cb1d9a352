-- No text is that of two lists of sections.
use Rattle.std.specs.Prelude.{ℕ, ◌≡◌, List, ◌++◌}
use Rattle.std.specs.List.{AllByRecursion}
use Rattle.journal_text.specs.declared.sections.Section.{Section}
use Rattle.journal_text.specs.Spelling.{section_lines, journal_lines}
use Rattle.texts.specs.fields.Spelling.{IsNumber}
use Rattle.journal_text.specs.Written.{IsSection}

-- no text begins with the texts of two sections
abbrev pub OneSection : Type 0
OneSection = (a b : Section) (x y : List ℕ) → IsSection a → IsSection b → section_lines a ++ x ≡ section_lines b ++ y → (a ≡ b) × (x ≡ y)

-- no text is that of two journals
abbrev pub OneJournal : Type 0
OneJournal = (shards cells shards' cells' : ℕ) (a b : List Section) → IsNumber shards → IsNumber cells → IsNumber shards' → IsNumber cells' → AllByRecursion IsSection a → AllByRecursion IsSection b → journal_lines shards cells a ≡ journal_lines shards' cells' b → (shards ≡ shards') × (cells ≡ cells') × (a ≡ b)
