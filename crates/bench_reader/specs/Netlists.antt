-- What a netlist in the `.bench` form says, or its first fault.
use Rattle.std.specs.Prelude.{◌≡◌, ℕ, ◌+◌, ◌<◌, ◌≤◌, IsTrue, Bool, false, ◌||◌, nat_eq, nat_lt, List, [], ◌∷◌, ◌++◌, length, map, find, slice_index_or, position, sum_by, Option, Some, None, Result, Ok, if◌then◌else◌}
use Rattle.std.specs.List.{All, list_all, list_any, flat_map, position_or_len}
use Rattle.std.specs.Str.{bytes_eq}
use Rattle.indexmap.specs.IndexSet.{insert_all}
use Rattle.gate_values.specs.declared.Kind.{Kind}
use Rattle.gate_values.specs.Gates.{allows}
use Rattle.gate_values.specs.Spelling.{kind_of_word}
use Rattle.texts.specs.Text.{lines}
use Rattle.bench_reader.specs.declared.fault.BenchCause.{BenchCause}
use Rattle.bench_reader.specs.declared.fault.BenchCause.TheVariants.{Syntax, UnknownKind, PinCount, Twice, Undefined, NameLong, TooMany, OutOfMemory}
use Rattle.texts.specs.declared.line_faults.causes.LineFault.{LineFault}
use Rattle.texts.specs.line_faults.Faults.{at_line, at_no_line, first_fault, unless_fault}
use Rattle.bench_reader.specs.Lines.{Line, Blank, Malformed, Input, Output, Gate, line_of}

-- the names of a line, from left to right
abbrev pub names_in : Line → List (List ℕ)
names_in Blank = []
names_in Malformed = []
names_in (Input name) = name ∷ []
names_in (Output name) = name ∷ []
names_in (Gate name kind pins) = name ∷ pins

abbrev pub pins_in : Line → List (List ℕ)
pins_in Blank = []
pins_in Malformed = []
pins_in (Input name) = []
pins_in (Output name) = []
pins_in (Gate name kind pins) = pins

abbrev pub outputs_in : Line → List (List ℕ)
outputs_in Blank = []
outputs_in Malformed = []
outputs_in (Input name) = []
outputs_in (Output name) = name ∷ []
outputs_in (Gate name kind pins) = []

-- the name that a line defines as a gate
abbrev pub gates_in : Line → List (List ℕ)
gates_in Blank = []
gates_in Malformed = []
gates_in (Input name) = []
gates_in (Output name) = []
gates_in (Gate name kind pins) = name ∷ []

-- the name that a line defines as an input or a gate
abbrev pub defined_in : Line → List (List ℕ)
defined_in Blank = []
defined_in Malformed = []
defined_in (Input name) = name ∷ []
defined_in (Output name) = []
defined_in (Gate name kind pins) = name ∷ []

abbrev pub is_among : List (List ℕ) → List ℕ → Bool
is_among names name = list_any (bytes_eq name) names

-- the names of some lines, in the order of first appearance
abbrev pub names : List Line → List (List ℕ)
names all = insert_all bytes_eq [] (flat_map names_in all)

-- a name's place in a list
abbrev pub place : List (List ℕ) → List ℕ → ℕ
place names name = position_or_len (bytes_eq name) names

-- the number of a name: its place in the order of first appearance
abbrev pub number : List Line → List ℕ → ℕ
number all name = place (names all) name

-- a name may have 255 bytes
abbrev pub is_long : List ℕ → Bool
is_long name = nat_lt 255 (length name)

-- more names or pins than a netlist may have
abbrev pub exceeds : ℕ → ℕ → Bool
exceeds names pins = nat_lt 1048576 names || nat_lt 4194304 pins

abbrev pub is_crowded : List Line → Bool
is_crowded all = exceeds (length (names all)) (length (flat_map pins_in all))

-- the causes of a line of some form: a long name, then a second definition, then too many
abbrev pub cause_of_names : List Line → Line → Bool → Option BenchCause
cause_of_names before line twice =
    if list_any is_long (names_in line) then Some NameLong else (
    if twice then Some Twice else (
    if is_crowded (before ++ line ∷ []) then Some TooMany else None))

-- a gate line first by its kind and its pins; it may define no name that an earlier line defined
abbrev pub cause_of_gate : List Line → List ℕ → List ℕ → List (List ℕ) → Option Kind → Option BenchCause
cause_of_gate before name word pins None = Some UnknownKind
cause_of_gate before name word pins (Some kind) = if allows kind (length pins) then cause_of_names before (Gate name word pins) (is_among (flat_map defined_in before) name) else Some PinCount

-- the cause of a line, after the lines before it; an INPUT line may define a name that an earlier INPUT line defined
abbrev pub cause_of : List Line → Line → Option BenchCause
cause_of before Blank = None
cause_of before Malformed = Some Syntax
cause_of before (Input name) = cause_of_names before (Input name) (is_among (flat_map gates_in before) name)
cause_of before (Output name) = cause_of_names before (Output name) false
cause_of before (Gate name word pins) = cause_of_gate before name word pins (kind_of_word word)

-- an INPUT or gate line defines the name
abbrev pub is_defined : List Line → List ℕ → Bool
is_defined all name = is_among (flat_map defined_in all) name

-- the first line, counted from n, with a pin or output that no line of all defines
abbrev pub undefined_from : List Line → ℕ → List Line → Option (LineFault BenchCause)
undefined_from all n [] = None
undefined_from all n (line ∷ later) =
    if list_all (is_defined all) (pins_in line ++ outputs_in line) then undefined_from all (n + 1) later
    else Some (at_line n Undefined)

-- what drives a signal: the outside, or a gate or flip-flop of this kind with these pins
pub data NetlistDriver : Type 0 where
  Primary : NetlistDriver
  Driven : (kind : Kind) (pins : List ℕ) → NetlistDriver

-- what a netlist says: the names of its signals by their numbers, what drives each, and the outputs
pub record Content : Type 0 where
  pub names : List (List ℕ)
  pub rows : List NetlistDriver
  pub outputs : List ℕ

-- the fan-in of a signal
abbrev pub pins_of : NetlistDriver → List ℕ
pins_of Primary = []
pins_of (Driven kind pins) = pins

-- pins of a gate of this kind, among so many signals
pub record ArePins (signals : ℕ) (kind : Kind) (pins : List ℕ) : Type 0 where
  pub count : IsTrue (allows kind (length pins))
  pub signal : All (λ p. p < signals) pins

abbrev pub IsNetlistDriver : ℕ → NetlistDriver → Type 0
IsNetlistDriver signals Primary = Unit {0}
IsNetlistDriver signals (Driven kind pins) = ArePins signals kind pins

-- what holds of each netlist that is read
pub record IsNetlist (n : Content) : Type 0 where
  pub rows : length n.rows ≡ length n.names
  pub few : length n.names ≤ 1048576
  pub fits : All (IsNetlistDriver (length n.names)) n.rows
  pub pins : sum_by (λ d. length (pins_of d)) n.rows ≤ 4194304
  pub outputs : All (λ o. o < length n.names) n.outputs
  pub distinct : (id : ℕ) → id < length n.names → position (bytes_eq (slice_index_or n.names id [])) n.names ≡ Some id

-- the line is a gate line of the name
abbrev pub drives : List ℕ → Line → Bool
drives n line = is_among (gates_in line) n

abbrev pub driven_by : Option Kind → List ℕ → NetlistDriver
driven_by None pins = Primary
driven_by (Some kind) pins = Driven kind pins

-- what a gate line says of its signal, under this numbering of names
abbrev pub driver_in : (List ℕ → ℕ) → Line → NetlistDriver
driver_in number Blank = Primary
driver_in number Malformed = Primary
driver_in number (Input name) = Primary
driver_in number (Output name) = Primary
driver_in number (Gate name word pins) = driven_by (kind_of_word word) (map number pins)

abbrev pub driver_by : (List ℕ → ℕ) → Option Line → NetlistDriver
driver_by number None = Primary
driver_by number (Some line) = driver_in number line

-- what drives a name: its gate line, else the outside
abbrev pub driver_of : List Line → List ℕ → NetlistDriver
driver_of all name = driver_by (number all) (find (drives name) all)

abbrev pub content_of : List Line → Content
content_of all = record {
  names = names all;
  rows = map (driver_of all) (names all);
  outputs = insert_all nat_eq [] (map (number all) (flat_map outputs_in all));
}

-- the first line at fault, else the first with an undefined name, else what the lines say
abbrev pub of_lines : List Line → Result Content (LineFault BenchCause)
of_lines all = unless_fault (first_fault cause_of [] all) (unless_fault (undefined_from all 1 all) (Ok (content_of all)))

-- what a text says: its netlist, or why it is refused
unfoldable pub bench_of : List ℕ → Result Content (LineFault BenchCause)
bench_of text = of_lines (map line_of (lines text))

-- the one fault that says nothing of the text
abbrev pub out_of_memory : LineFault BenchCause
out_of_memory = at_no_line OutOfMemory
