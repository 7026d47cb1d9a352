-- What the reader knows between two lines.
use Rattle.std.specs.Prelude.{◌≡◌, ℕ, ◌+◌, Bool, ◌||◌, List, [], ◌∷◌, ◌++◌, length, Option, Some, Result, ◌⊎◌}
use Rattle.std.specs.List.{list_all, list_any}
use Rattle.texts.specs.declared.line_faults.causes.LineFault.{LineFault}
use Rattle.texts.specs.line_faults.Reading.{Steps, TakesLine}
use Rattle.timing_file.specs.declared.TimingCause.{TimingCause}
use Rattle.timing_file.specs.declared.TimingCause.TheVariants.{OutOfMemory}
use Rattle.timing_file.specs.declared.statement.Subject.{Subject}
use Rattle.timing_file.specs.declared.reader.TimingReader.{TimingReader}
use Rattle.timing_file.specs.Forms.{Statement, CommonClock, NamedClock, Default, DefaultOf, DelayOf, InitOf, PinOf, ClockedBy, Line, Plain, Versioned}
use Rattle.timing_file.specs.Subjects.{same_subject, subject_of}
use Rattle.timing_file.specs.Timing.{Content, clock_row_of, row_of, is_blank, is_version, cause_of, cause_of_statement, content_of, statements_of}
use Rattle.timing_file.specs.inner.Views.{is_alike, subject_seen}

-- the content with one more statement, that of the line with the number n
abbrev pub with_statement : Content → ℕ → Statement → Content
with_statement c n (CommonClock clock) = record c { clock = Some clock }
with_statement c n (NamedClock name clock) = record c { clocks = c.clocks ++ clock_row_of n (NamedClock name clock) }
with_statement c n (Default delay) = record c { default = Some delay }
with_statement c n (DefaultOf kind delay) = record c { kinds = c.kinds ++ (kind, delay) ∷ [] }
with_statement c n (DelayOf name delay) = record c { rows = c.rows ++ row_of n (DelayOf name delay) }
with_statement c n (InitOf name value) = record c { rows = c.rows ++ row_of n (InitOf name value) }
with_statement c n (PinOf name place delay) = record c { rows = c.rows ++ row_of n (PinOf name place delay) }
with_statement c n (ClockedBy flop clock) = record c { rows = c.rows ++ row_of n (ClockedBy flop clock) }

-- whether a subject is among those seen
abbrev pub was_seen : List Subject → Subject → Bool
was_seen keys subject = list_any (is_alike subject) keys

-- the subject was seen too, and no other than before
abbrev pub AddsSubject : List Subject → List Subject → Subject → Type 0
AddsSubject old new subject = (q : Subject) → was_seen new q ≡ (is_alike q subject || was_seen old q)

-- the reader has read these lines, none of which is at fault
pub record HasRead (before : List Line) (r : TimingReader) : Type 0 where
  pub blank : list_all is_blank before ≡ r.is_empty
  pub version : list_any is_version before ≡ r.is_version_2
  pub content : r.stated ≡ content_of before
  pub seen : (q : Subject) → was_seen r.seen.keys q ≡ list_any (λ s. same_subject (subject_seen q) (subject_of s.statement)) (statements_of before)

-- the line is of a form with this statement
abbrev pub IsStatement : Line → Option Statement → Type 0
IsStatement line statement = (line ≡ Plain statement) ⊎ (line ≡ Versioned statement)

-- what the reader answers to the statement of a line that the file may have
abbrev pub StepsStatement : List Line → Line → Option Statement → ℕ → TimingReader → Result (Unit {0}) (LineFault TimingCause) → Type 0
StepsStatement before line statement number r answer = Steps OutOfMemory (cause_of_statement before statement) (HasRead (before ++ line ∷ []) r) number answer

-- a reader that has read the lines before the one with this number answers to its statement so
abbrev pub ReadsStatement : TimingReader → TimingReader → ℕ → Option Statement → Result (Unit {0}) (LineFault TimingCause) → Type 0
ReadsStatement old new number statement answer = (before : List Line) (line : Line) → HasRead before old → length before + 1 ≡ number → IsStatement line statement → StepsStatement before line statement number new answer

-- and to the line so
abbrev pub Reads : TimingReader → TimingReader → ℕ → Line → Result (Unit {0}) (LineFault TimingCause) → Type 0
Reads old new number line answer = TakesLine OutOfMemory cause_of HasRead old new number line answer
