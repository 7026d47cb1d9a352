-- That the journal of a session is the text of its sections alone.
use Rattle.std.specs.Prelude.{◌≡◌, ℕ, ◌<◌, ◌≤◌, List}
use Rattle.std.specs.List.{AllByRecursion}
use Rattle.texts.specs.fields.Spelling.{IsNumber}
use Rattle.journal_text.specs.declared.sections.Section.{Section as WrittenSection}
use Rattle.journal_text.specs.Spelling.{journal_lines}
use Rattle.journal_text.specs.Written.{IsSection}
use Rattle.session_meaning.specs.Written.{numbered_from, journal_text}
use Rattle.session_meaning.specs.Session.{Setup, Course}

-- the memo has from 1 to 64 shards, and the number of cells for which each has room has a text
pub record HasMemo (setup : Setup) : Type 0 where
  pub some : 0 < setup.shards
  pub most : setup.shards ≤ 64
  pub capacity : IsNumber setup.capacity

-- All numbers in the sections are within the limits of a text, and no other head or sections have this text.
pub record HasOneJournal (setup : Setup) (course : Course) : Type 0 where
  pub written : AllByRecursion IsSection (numbered_from 1 course.sections)
  pub one : (shards cells : ℕ) (sections : List WrittenSection) → IsNumber shards → IsNumber cells → AllByRecursion IsSection sections
      → journal_lines shards cells sections ≡ journal_text setup.shards setup.capacity course.sections
      → (shards ≡ setup.shards) × (cells ≡ setup.capacity) × (sections ≡ numbered_from 1 course.sections)
