-- The cell of a signal at a time: an interval of times at which it has the same value for the same cause.
use Rattle.std.specs.Prelude.{ℕ, ◌+◌, ◌-◌, nat_lt, min, if◌then◌else◌, List, [], ◌∷◌, length, slice_index_or, map, fold, Option, Some, None}
use Rattle.gate_values.specs.declared.Kind.{Kind}
use Rattle.gate_values.specs.Gates.{decides, up_to_first}
use Rattle.circuit_meaning.specs.Circuit.{Setting, Pin, Driver, Input, Gate, Flop, Circuit}
use Rattle.valid_intervals.specs.Spans.{Span, from_to, meet, moved_span}
use Rattle.valid_intervals.specs.declared.Cell.{Cell}
use Rattle.valid_intervals.specs.declared.Point.{Point}
use Rattle.circuit_meaning.specs.Forward.{row_at, last_setting, seen_value, value}
use Rattle.circuit_meaning.specs.Edges.{shown_edge, flop_span}

-- the least time of a setting after t; if there is none, the limit
unfoldable pub next_setting : List Setting → ℕ → ℕ → ℕ
next_setting [] t limit = limit
next_setting (s ∷ rest) t limit = if nat_lt t s.time then min s.time (next_setting rest t limit) else next_setting rest t limit

-- the least delay of a pin
unfoldable pub least_delay : List Pin → ℕ
least_delay [] = 0
least_delay (p ∷ rest) = fold (λ m q. min m q.delay) p.delay rest

-- the pins of a gate up to and including the first that decides its value at t
abbrev pub looked_pins : Circuit → ℕ → Kind → List Pin → List Pin
looked_pins c t kind pins = up_to_first (λ p. decides kind (seen_value (value c) t p)) pins

-- the times around t at which a pin of a gate sees what it sees at t; before s u is the interval of the signal s at an earlier time u
abbrev pub pin_span : (ℕ → ℕ → Span) → ℕ → Pin → Span
pin_span before t p = if nat_lt t p.delay then from_to 0 p.delay else moved_span p.delay (before p.signal (t - p.delay))

-- the interval of an input begins at its last setting, or at 0
abbrev pub input_start : Option Setting → ℕ
input_start None = 0
input_start (Some s) = s.time

-- the interval of a gate with least delay m: before m that of x, and from m on the times common to its looked pins
abbrev pub gate_span : ℕ → ℕ → ℕ → List Span → Span
gate_span limit t m pins = if nat_lt t m then from_to 0 (min m limit) else fold meet (from_to m limit) pins

-- the interval that a driver gives at t
abbrev pub span_from : Circuit → (ℕ → ℕ → Span) → ℕ → Driver → Span
span_from c before t (Input settings) = from_to (input_start (last_setting settings t)) (next_setting settings t (c.horizon + 1))
span_from c before t (Gate kind pins) = gate_span (c.horizon + 1) t (least_delay pins) (map (pin_span before t) (looked_pins c t kind pins))
span_from c before t (Flop f) = flop_span (c.horizon + 1) f.delay f.clock (shown_edge f.clock f.delay t)

abbrev pub span_entry : Circuit → List (List Span) → ℕ → ℕ → Span
span_entry c rows s t = slice_index_or (slice_index_or rows t []) s (from_to 0 (c.horizon + 1))

abbrev pub next_spans : Circuit → List (List Span) → List Span
next_spans c rows = map (span_from c (span_entry c rows) (length rows)) c.drivers

-- the interval of the cell of the signal s at the time t
unfoldable pub span : Circuit → ℕ → ℕ → Span
span c s t = slice_index_or (row_at (next_spans c) t) s (from_to 0 (c.horizon + 1))

-- the cell of a point
abbrev pub cell_at : Circuit → Point → Cell
cell_at c p = record { span = span c p.signal p.time; value = value c p.signal p.time }

-- the point of the signal s at the time t
abbrev pub point_at : ℕ → ℕ → Point
point_at s t = record { signal = s; time = t }
