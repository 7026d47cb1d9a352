-- The points that need no evaluation: those of an input, of a gate before its least delay, and of a flip-flop before its first shown edge.
use Rattle.std.specs.Prelude.{ℕ, ◌+◌, nat_lt, min, if◌then◌else◌, Option, Some, None}
use Rattle.gate_values.specs.declared.Value.{Value}
use Rattle.gate_values.specs.declared.Value.TheVariants.{X}
use Rattle.valid_intervals.specs.Spans.{Span, from_to}
use Rattle.valid_intervals.specs.declared.Cell.{Cell}
use Rattle.circuit_meaning.specs.Edges.{shown_edge, flop_span}
use Rattle.circuit_meaning.specs.Circuit.{FlipFlop, Driver, Input, Gate, Flop, Circuit, driver}
use Rattle.circuit_meaning.specs.Forward.{last_setting, input_value}
use Rattle.circuit_meaning.specs.Cells.{next_setting, input_start, least_delay}

abbrev pub cell_with : Span → Value → Cell
cell_with x v = record { span = x; value = v }

-- a flip-flop that shows no edge has its initial value
abbrev pub flop_base : ℕ → FlipFlop → Option ℕ → Option Cell
flop_base limit f None = Some (cell_with (flop_span limit f.delay f.clock None) f.initial)
flop_base limit f (Some e) = None

-- the base answer of a driver at t
abbrev pub base_from : ℕ → ℕ → Driver → Option Cell
base_from limit t (Input settings) = Some (cell_with (from_to (input_start (last_setting settings t)) (next_setting settings t limit)) (input_value (last_setting settings t)))
base_from limit t (Gate kind pins) = if nat_lt t (least_delay pins) then Some (cell_with (from_to 0 (min (least_delay pins) limit)) X) else None
base_from limit t (Flop f) = flop_base limit f (shown_edge f.clock f.delay t)

-- the cell of the signal s at the time t, if it needs no evaluation
unfoldable pub base_answer : Circuit → ℕ → ℕ → Option Cell
base_answer c s t = base_from (c.horizon + 1) t (driver c s)
