-- What a timing file says, or its first line at fault.
use Rattle.std.specs.Prelude.{ℕ, Bool, true, false, List, [], ◌∷◌, map, Option, Some, None, Result, Ok, if◌then◌else◌, slice_get, unwrap_or}
use Rattle.std.specs.List.{list_all, list_any, flat_map}
use Rattle.gate_values.specs.declared.Kind.{Kind}
use Rattle.circuit_meaning.specs.declared.flip_flop.Clock.{Clock}
use Rattle.texts.specs.Text.{lines}
use Rattle.texts.specs.declared.line_faults.causes.LineFault.{LineFault}
use Rattle.texts.specs.line_faults.Faults.{first_fault, unless_fault}
use Rattle.texts.specs.line_faults.Rows.{rows_from}
use Rattle.timing_file.specs.declared.TimingCause.{TimingCause}
use Rattle.timing_file.specs.declared.TimingCause.TheVariants.{Syntax, Range, Twice}
use Rattle.timing_file.specs.declared.TimingRow.{TimingRow}
use Rattle.timing_file.specs.declared.TimingWhat.TheVariants.{Delay, Init, Pin, Clocked}
use Rattle.timing_file.specs.declared.ClockRow.{ClockRow}
use Rattle.timing_file.specs.Forms.{Statement, CommonClock, NamedClock, Default, DefaultOf, DelayOf, InitOf, PinOf, ClockedBy, Line, Blank, Other, Version, Plain, Versioned, line_of}
use Rattle.timing_file.specs.Subjects.{same_kind, same_subject, subject_of}

-- what the file says: the clock and the default without a name, the defaults of kinds, and the rows in the order of their lines
pub record Content : Type 0 where
  pub clock : Option Clock
  pub default : Option ℕ
  pub kinds : List (Kind × ℕ)
  pub rows : List TimingRow
  pub clocks : List ClockRow

abbrev pub kind_delay : Kind → List (Kind × ℕ) → Option ℕ
kind_delay kind [] = None
kind_delay kind (stated ∷ more) = if same_kind stated.0 kind then Some stated.1 else kind_delay kind more

-- the delay of a kind: that of its own line, else that of all kinds, else 1
abbrev pub default_of : Content → Kind → ℕ
default_of content kind = unwrap_or (kind_delay kind content.kinds) (unwrap_or content.default 1)

-- what the line with this number states
pub record NumberedStatement : Type 0 where
  pub line : ℕ
  pub statement : Statement

abbrev pub stated_at : ℕ → Option Statement → List NumberedStatement
stated_at n None = []
stated_at n (Some statement) = record { line = n; statement = statement } ∷ []

abbrev pub statements_at : ℕ → Line → List NumberedStatement
statements_at n Blank = []
statements_at n Other = []
statements_at n Version = []
statements_at n (Plain statement) = stated_at n statement
statements_at n (Versioned statement) = stated_at n statement

-- the statements of all lines, the first of which has the number 1
abbrev pub statements_of : List Line → List NumberedStatement
statements_of all = rows_from statements_at 1 all

abbrev pub is_blank : Line → Bool
is_blank Blank = true
is_blank Other = false
is_blank Version = false
is_blank (Plain statement) = false
is_blank (Versioned statement) = false

abbrev pub is_version : Line → Bool
is_version Blank = false
is_version Other = false
is_version Version = true
is_version (Plain statement) = false
is_version (Versioned statement) = false

-- an earlier statement has the subject of this one
abbrev pub is_repeated : List Line → Statement → Bool
is_repeated before statement = list_any (λ s. same_subject (subject_of statement) (subject_of s.statement)) (statements_of before)

abbrev pub cause_of_statement : List Line → Option Statement → Option TimingCause
cause_of_statement before None = Some Range
cause_of_statement before (Some statement) = if is_repeated before statement then Some Twice else None

-- the cause of a line after the lines before it, if it is at fault
abbrev pub cause_of : List Line → Line → Option TimingCause
cause_of before Blank = None
cause_of before Other = Some Syntax
cause_of before Version = if list_all is_blank before then None else Some Syntax
cause_of before (Plain statement) = cause_of_statement before statement
cause_of before (Versioned statement) = if list_any is_version before then cause_of_statement before statement else Some Syntax

abbrev pub clock_stated : Statement → List Clock
clock_stated (CommonClock clock) = clock ∷ []
clock_stated _ = []

abbrev pub default_stated : Statement → List ℕ
default_stated (Default delay) = delay ∷ []
default_stated _ = []

abbrev pub kind_stated : Statement → List (Kind × ℕ)
kind_stated (DefaultOf kind delay) = (kind, delay) ∷ []
kind_stated _ = []

abbrev pub row_of : ℕ → Statement → List TimingRow
row_of n (DelayOf name delay) = record { line = n; name = name; what = Delay delay } ∷ []
row_of n (InitOf name value) = record { line = n; name = name; what = Init value } ∷ []
row_of n (PinOf name place delay) = record { line = n; name = name; what = Pin place delay } ∷ []
row_of n (ClockedBy flop clock) = record { line = n; name = flop; what = Clocked clock } ∷ []
row_of n _ = []

abbrev pub clock_row_of : ℕ → Statement → List ClockRow
clock_row_of n (NamedClock name clock) = record { line = n; name = name; clock = clock } ∷ []
clock_row_of n _ = []

abbrev pub content_from : List NumberedStatement → Content
content_from all = record {
  clock = slice_get (flat_map (λ s. clock_stated s.statement) all) 0;
  default = slice_get (flat_map (λ s. default_stated s.statement) all) 0;
  kinds = flat_map (λ s. kind_stated s.statement) all;
  rows = flat_map (λ s. row_of s.line s.statement) all;
  clocks = flat_map (λ s. clock_row_of s.line s.statement) all;
}

abbrev pub content_of : List Line → Content
content_of all = content_from (statements_of all)

abbrev pub of_lines : List Line → Result Content (LineFault TimingCause)
of_lines all = unless_fault (first_fault cause_of [] all) (Ok (content_of all))

-- the content of a timing file, or its first line at fault
unfoldable pub timing_of : List ℕ → Result Content (LineFault TimingCause)
timing_of text = of_lines (map line_of (lines text))
