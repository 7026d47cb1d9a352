-- When the lines of a proof follow from those above them. Nothing here speaks of forward simulation: a line is judged by the answers of
-- the lines above it alone.
use Rattle.std.specs.Prelude.{◌≡◌, ℕ, ◌+◌, ◌-◌, ◌≤◌, ◌<◌, All, List, length, map, take, slice_get, position, Option, Some, None, IsSome, IfSome, option_map}
use Rattle.std.specs.Option.{option_map_or}
use Rattle.std.specs.Str.{bytes_eq}
use Rattle.gate_values.specs.declared.Value.{Value}
use Rattle.gate_values.specs.declared.Value.TheVariants.{X}
use Rattle.gate_values.specs.declared.Kind.{Kind}
use Rattle.gate_values.specs.Gates.{gate_value, decides, up_to_first}
use Rattle.valid_intervals.specs.declared.Cell.{Cell}
use Rattle.valid_intervals.specs.declared.SignalCell.{SignalCell}
use Rattle.valid_intervals.specs.Cells.{stored_at}
use Rattle.valid_intervals.specs.Spans.{Span, from_to}
use Rattle.circuit_meaning.specs.Edges.{shown_edge, flop_span}
use Rattle.circuit_meaning.specs.declared.Pin.{Pin}
use Rattle.circuit_meaning.specs.Circuit.{Driver, Input, Gate, Flop, Circuit, driver}
use Rattle.circuit_meaning.specs.Forward.{last_setting, input_value, seen_value, flop_value}
use Rattle.circuit_meaning.specs.Cells.{next_setting, input_start, least_delay, gate_span, pin_span, point_at}
use Rattle.circuit_meaning.specs.Base.{base_answer}
use Rattle.circuit_meaning.specs.Need.{IsEvaluable}
use Rattle.design.specs.Joined.{Joined}
use Rattle.why_proofs.specs.Spelling.{Proof}

-- what is known of a signal at a time
abbrev pub Answers : Type 0
Answers = ℕ → ℕ → Option Cell

-- a base answer, or else the first of the lines of this signal that covers the time
abbrev pub base_or : Option Cell → Option Cell → Option Cell
base_or (Some x) line = Some x
base_or None line = line

abbrev pub line_at : List SignalCell → ℕ → ℕ → Option Cell
line_at lines s t = option_map (λ x. x.cell) (stored_at lines (point_at s t))

abbrev pub answer : Circuit → List SignalCell → Answers
answer c lines s t = base_or (base_answer c s t) (line_at lines s t)

-- what an answer says; nothing hangs on what stands here where there is none, since each child has to be answered
abbrev pub value_in : Answers → ℕ → ℕ → Value
value_in a s t = option_map_or (λ x. x.value) (a s t) X

abbrev pub span_in : Answers → ℕ → ℕ → Span
span_in a s t = option_map_or (λ x. x.span) (a s t) (from_to 0 0)

-- the pins of a gate up to and including the first whose answer decides its value at t
abbrev pub looked_in : Answers → ℕ → Kind → List Pin → List Pin
looked_in a t kind pins = up_to_first (λ p. decides kind (seen_value (value_in a) t p)) pins

-- a pin that reads a time from 0 on has an answer
abbrev pub IsAnswered : Answers → ℕ → Pin → Type 0
IsAnswered a t p = p.delay ≤ t → IsSome (a p.signal (t - p.delay))

-- each child of a driver at t has an answer: each pin of a gate that is looked at, and the pin of a flip-flop at the edge that it shows
abbrev pub AreAnswered : Answers → ℕ → Driver → Type 0
AreAnswered a t (Input settings) = Unit {0}
AreAnswered a t (Gate kind pins) = All (IsAnswered a t) (looked_in a t kind pins)
AreAnswered a t (Flop f) = IfSome (shown_edge f.clock f.delay t) (λ e. IsSome (a f.pin e))

-- the value and the interval that a driver gives at t from these answers, by the rules of values and cells
abbrev pub rule_value : Answers → ℕ → Driver → Value
rule_value a t (Input settings) = input_value (last_setting settings t)
rule_value a t (Gate kind pins) = gate_value kind (map (seen_value (value_in a) t) (looked_in a t kind pins))
rule_value a t (Flop f) = flop_value (value_in a) f (shown_edge f.clock f.delay t)

abbrev pub rule_span : ℕ → Answers → ℕ → Driver → Span
rule_span limit a t (Input settings) = from_to (input_start (last_setting settings t)) (next_setting settings t limit)
rule_span limit a t (Gate kind pins) = gate_span limit t (least_delay pins) (map (pin_span (span_in a) t) (looked_in a t kind pins))
rule_span limit a t (Flop f) = flop_span limit f.delay f.clock (shown_edge f.clock f.delay t)

abbrev pub rule_cell : Circuit → Answers → ℕ → ℕ → Cell
rule_cell c a s t = record { span = rule_span (c.horizon + 1) a t (driver c s); value = rule_value a t (driver c s) }

-- A cell line is justified by a list of lines: it is of a signal, begins at a time that is simulated and needs an evaluation, each
-- child there is answered, and its interval and value are those that the rules give from these answers.
pub record IsJustified (c : Circuit) (lines : List SignalCell) (x : SignalCell) : Type 0 where
  pub signal : x.signal < length c.drivers
  pub time : x.cell.span.start ≤ c.horizon
  pub evaluable : IsEvaluable c x.signal x.cell.span.start
  pub answered : AreAnswered (answer c lines) x.cell.span.start (driver c x.signal)
  pub rule : x.cell ≡ rule_cell c (answer c lines) x.signal x.cell.span.start

-- the line number k of a list, counted from 0, is justified by those above it
abbrev pub IsJustifiedAt : Circuit → List SignalCell → ℕ → Type 0
IsJustifiedAt c lines k = IfSome (slice_get lines k) (IsJustified c (take k lines))

-- so are the first n
abbrev pub AreJustified : Circuit → List SignalCell → ℕ → Type 0
AreJustified c lines n = (k : ℕ) → k < n → IsJustifiedAt c lines k

-- The claim of a proof follows from its lines: the name is that of the signal s, the time is simulated, and the answer there has the value.
pub record IsClaimed (d : Joined) (p : Proof) (s : ℕ) : Type 0 where
  pub name : position (bytes_eq p.name) d.netlist.names ≡ Some s
  pub time : p.time ≤ d.circuit.horizon
  pub value : option_map (λ x. x.value) (answer d.circuit p.cells s p.time) ≡ Some p.value

-- a proof is justified, of the signal s
pub record IsJustifiedProof (d : Joined) (p : Proof) (s : ℕ) : Type 0 where
  pub cells : AreJustified d.circuit p.cells (length p.cells)
  pub claim : IsClaimed d p s
