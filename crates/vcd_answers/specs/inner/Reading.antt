-- How a text is read, line by line. This reader may accept more than dumps; the dump of what was read is then written and compared.
use Rattle.std.specs.Prelude.{ℕ, zero, suc, ◌-◌, ◌==◌, ◌&&◌, Bool, nat_le, nat_lt, List, [], ◌∷◌, ◌++◌, length, take, drop, slice_index_or, Option, Some, None, if◌then◌else◌}
use Rattle.std.specs.Option.{option_map}
use Rattle.gate_values.specs.Spelling.{value_of_byte}
use Rattle.circuit_meaning.specs.declared.Run.{Run}
use Rattle.texts.specs.declared.Amount.{Amount}
use Rattle.texts.specs.declared.Amount.TheVariants.{Within}
use Rattle.texts.specs.Text.{amount}
use Rattle.vcd_answers.specs.declared.reading.Line.{Line}
use Rattle.vcd_answers.specs.declared.reading.Line.TheVariants.{Time, Change}
use Rattle.vcd_answers.specs.Wires.{Wire}

abbrev pub time_in : Amount → Option Line
time_in (Within t) = Some (Time t)
time_in _ = None

abbrev pub change_in : ℕ → List ℕ → Option Line
change_in byte [] = None
change_in byte (code ∷ []) = if nat_le 33 code then option_map (Change (code - 33)) (value_of_byte byte) else None
change_in byte (code ∷ more ∷ rest) = None

-- the line of a time or of a change
abbrev pub line_at : List ℕ → Option Line
line_at [] = None
line_at (byte ∷ rest) = if byte == 35 then time_in (amount 1000001 rest) else change_in byte rest

-- a wire of this name without changes
abbrev pub blank : List ℕ → Wire
blank name = record { name = name; changes = [] }

-- a line that is long enough to declare a wire, and whose second byte is `v`
abbrev pub is_var : List ℕ → Bool
is_var line = nat_le 19 (length line) && (slice_index_or line 1 0 == 118)

-- the bytes between `$var wire 1 C ` and ` $end`
abbrev pub name_in : List ℕ → List ℕ
name_in line = take (length line - 19) (drop 14 line)

-- these wires and those of the leading lines, and the rest of the lines
abbrev pub with_names : List Wire → List (List ℕ) → List Wire × List (List ℕ)
with_names wires [] = (wires, [])
with_names wires (line ∷ lines) = if is_var line then with_names (wires ++ blank (name_in line) ∷ []) lines else (wires, line ∷ lines)

-- a change is added to the wire at this place
abbrev pub put_at : ℕ → Run → List Wire → List Wire
put_at place run [] = []
put_at zero run (wire ∷ wires) = record wire { changes = wire.changes ++ run ∷ [] } ∷ wires
put_at (suc place) run (wire ∷ wires) = wire ∷ put_at place run wires

-- the step of a line: it sets the time, or is a change of the wire at a place
abbrev pub step : (List Wire → ℕ → Option (List Wire)) → List Wire → ℕ → Option Line → Option (List Wire)
step next wires t None = None
step next wires t (Some (Time later)) = next wires later
step next wires t (Some (Change place value)) = if nat_lt place (length wires) then next (put_at place (record { time = t; value = value }) wires) t else None

-- the wires with the changes in these lines, which begin at the time t
abbrev pub with_changes : List Wire → ℕ → List (List ℕ) → Option (List Wire)
with_changes wires t [] = Some wires
with_changes wires t (line ∷ lines) = step (λ wires t. with_changes wires t lines) wires t (line_at line)

-- the content of the lines of a text: two lines, the names, two lines, the changes
unfoldable pub read_of : List (List ℕ) → Option (List Wire)
read_of lines = let read = with_names [] (drop 1 (drop 1 lines)) in with_changes read.0 0 (drop 1 (drop 1 read.1))
