-- The text of a dump, in this profile of VCD (IEEE 1364-2005, section 18).
use Rattle.std.specs.Prelude.{ℕ, ◌+◌, ◌==◌, ◌||◌, Bool, List, [], ◌∷◌, ◌++◌, map, filter, flat_map, codes}
use Rattle.std.specs.List.{range_with_len, list_any}
use Rattle.std.specs.Fmt.{decimal}
use Rattle.gate_values.specs.Spelling.{byte_of_value}
use Rattle.circuit_meaning.specs.declared.Run.{Run}
use Rattle.vcd_answers.specs.Wires.{Wire, last_time}

-- the code of the first wire, the byte `!`; each further wire has the next byte
abbrev pub first_code : ℕ
first_code = 33

-- `$var wire 1 CODE NAME $end`
abbrev pub var_line : ℕ → List ℕ → List ℕ
var_line code name = codes "$var wire 1 " ++ code ∷ 32 ∷ (name ++ codes " $end")

-- the lines that declare wires, of which the first has this code
abbrev pub var_lines : ℕ → List Wire → List (List ℕ)
var_lines code [] = []
var_lines code (wire ∷ wires) = var_line code wire.name ∷ var_lines (code + 1) wires

-- `#TIME`, with no leading zero
abbrev pub time_line : ℕ → List ℕ
time_line t = 35 ∷ decimal t

-- a value, directly followed by the code
abbrev pub change_line : ℕ → Run → List ℕ
change_line code run = byte_of_value run.value ∷ code ∷ []

abbrev pub is_at : ℕ → Run → Bool
is_at t run = run.time == t

-- the lines of the changes at the time t, in the order of the wires, of which the first has this code
abbrev pub change_lines : ℕ → ℕ → List Wire → List (List ℕ)
change_lines t code [] = []
change_lines t code (wire ∷ wires) = map (change_line code) (filter (is_at t) wire.changes) ++ change_lines t (code + 1) wires

abbrev pub changes_at : ℕ → Wire → Bool
changes_at t wire = list_any (is_at t) wire.changes

-- a time with lines: time 0, and each later time at which a wire changes
abbrev pub is_instant : List Wire → ℕ → Bool
is_instant wires t = (t == 0) || list_any (changes_at t) wires

abbrev pub instant_lines : List Wire → ℕ → List (List ℕ)
instant_lines wires t = time_line t ∷ change_lines t first_code wires

-- the lines of all instants, in the order of time
abbrev pub body_lines : List Wire → List (List ℕ)
body_lines wires = flat_map (instant_lines wires) (filter (is_instant wires) (range_with_len 0 (last_time + 1)))

-- all lines of the dump of these wires
abbrev pub vcd_lines : List Wire → List (List ℕ)
vcd_lines wires =
    codes "$timescale 1 ns $end" ∷ codes "$scope module top $end" ∷ (
    var_lines first_code wires ++ codes "$upscope $end" ∷ codes "$enddefinitions $end" ∷ body_lines wires)

-- a line with its line feed
abbrev pub with_line_feed : List ℕ → List ℕ
with_line_feed line = line ++ 10 ∷ []

-- the dump of these wires: every line ends with a line feed
unfoldable pub vcd_of : List Wire → List ℕ
vcd_of wires = flat_map with_line_feed (vcd_lines wires)
