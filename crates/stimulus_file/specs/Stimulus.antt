-- What a stimulus file says, or its first line at fault.
use Rattle.std.specs.Prelude.{ℕ, Bool, true, false, ◌&&◌, ◌==◌, List, [], ◌∷◌, map, Option, Some, None, Result, Ok, Err, if◌then◌else◌, slice_get}
use Rattle.std.specs.List.{list_all, list_any, flat_map}
use Rattle.std.specs.Str.{bytes_eq}
use Rattle.gate_values.specs.declared.Value.{Value}
use Rattle.texts.specs.Text.{lines}
use Rattle.texts.specs.declared.line_faults.causes.LineFault.{LineFault}
use Rattle.texts.specs.line_faults.Faults.{at_no_line, first_fault, unless_fault}
use Rattle.texts.specs.line_faults.Rows.{rows_from}
use Rattle.stimulus_file.specs.declared.StimulusCause.{StimulusCause}
use Rattle.stimulus_file.specs.declared.StimulusCause.TheVariants.{Syntax, NoHorizon, Range, Twice}
use Rattle.stimulus_file.specs.Forms.{Line, Blank, Other, Horizon, Setting, line_of}

-- a setting: from the time on the input with this name has this value
pub record SetRow : Type 0 where
  pub line : ℕ
  pub name : List ℕ
  pub time : ℕ
  pub value : Value

-- what the file says: the horizon, and the settings in the order of their lines
pub record Content : Type 0 where
  pub horizon : ℕ
  pub sets : List SetRow

abbrev pub is_blank : Line → Bool
is_blank Blank = true
is_blank Other = false
is_blank (Horizon h) = false
is_blank (Setting name time value) = false

abbrev pub is_horizon : Line → Bool
is_horizon Blank = false
is_horizon Other = false
is_horizon (Horizon h) = true
is_horizon (Setting name time value) = false

-- a line that sets this name at this time
abbrev pub sets : List ℕ → ℕ → Line → Bool
sets name time Blank = false
sets name time Other = false
sets name time (Horizon h) = false
sets name time (Setting n None v) = false
sets name time (Setting n (Some t) v) = bytes_eq n name && t == time

-- the cause of a line after the lines before it, if it is at fault
abbrev pub cause_of : List Line → Line → Option StimulusCause
cause_of before Blank = None
cause_of before Other = Some Syntax
cause_of before (Horizon None) = Some Range
cause_of before (Horizon (Some h)) = if list_any is_horizon before then Some Twice else None
cause_of before (Setting name None value) = if list_all is_blank before then Some NoHorizon else Some Range
cause_of before (Setting name (Some t) value) = if list_all is_blank before then Some NoHorizon else (if list_any (sets name t) before then Some Twice else None)

-- the horizon that a line states
abbrev pub stated_horizon : Line → List ℕ
stated_horizon Blank = []
stated_horizon Other = []
stated_horizon (Horizon None) = []
stated_horizon (Horizon (Some h)) = h ∷ []
stated_horizon (Setting name time value) = []

-- the row of the line with the number n
abbrev pub row_of : ℕ → Line → List SetRow
row_of n Blank = []
row_of n Other = []
row_of n (Horizon h) = []
row_of n (Setting name None value) = []
row_of n (Setting name (Some t) value) = record { line = n; name = name; time = t; value = value } ∷ []

-- the rows of all lines, the first of which has the number 1
abbrev pub rows_of : List Line → List SetRow
rows_of all = rows_from row_of 1 all

abbrev pub horizon_of : List Line → Option ℕ
horizon_of all = slice_get (flat_map stated_horizon all) 0

-- a file without a horizon is refused at line 0
abbrev pub with_horizon : Option ℕ → List SetRow → Result Content (LineFault StimulusCause)
with_horizon None rows = Err (at_no_line NoHorizon)
with_horizon (Some h) rows = Ok (record { horizon = h; sets = rows })

abbrev pub of_lines : List Line → Result Content (LineFault StimulusCause)
of_lines all = unless_fault (first_fault cause_of [] all) (with_horizon (horizon_of all) (rows_of all))

-- the content of a stimulus file, or its first line at fault
unfoldable pub stimulus_of : List ℕ → Result Content (LineFault StimulusCause)
stimulus_of text = of_lines (map line_of (lines text))
