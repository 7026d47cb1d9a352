-- What an evaluable point looks at, in one form for gates and flip-flops: each pin has a source, a value that it sees, and an interval.
use Rattle.std.specs.Prelude.{◌≡◌, ℕ, ◌+◌, ◌-◌, nat_lt, if◌then◌else◌, List, [], ◌∷◌, slice_index_or, map, fold, Option, Some, None}
use Rattle.std.specs.List.{range_with_len}
use Rattle.gate_values.specs.declared.Value.{Value}
use Rattle.gate_values.specs.declared.Value.TheVariants.{X}
use Rattle.gate_values.specs.declared.Kind.{Kind}
use Rattle.gate_values.specs.declared.Kind.TheVariants.{Buff, Dff}
use Rattle.gate_values.specs.Gates.{decides, up_to_first}
use Rattle.valid_intervals.specs.declared.Point.{Point}
use Rattle.valid_intervals.specs.Spans.{Span, from_to, meet, cut_at}
use Rattle.circuit_meaning.specs.Edges.{shown_edge}
use Rattle.circuit_meaning.specs.declared.Pin.{Pin}
use Rattle.circuit_meaning.specs.Need.{children}
use Rattle.circuit_meaning.specs.Circuit.{Circuit, Driver, Input, Gate, Flop, driver}
use Rattle.circuit_meaning.specs.Forward.{value}
use Rattle.circuit_meaning.specs.Cells.{span, pin_span}

-- the kind of a gate; a flip-flop copies its pin
abbrev pub kind_of : Driver → Kind
kind_of (Input settings) = Buff
kind_of (Gate kind pins) = kind
kind_of (Flop f) = Dff

-- the point that a pin of a gate reads at t; none before time 0
abbrev pub pin_point : ℕ → Pin → Option Point
pin_point t p = if nat_lt t p.delay then None else Some (record { signal = p.signal; time = t - p.delay })

-- a flip-flop reads its pin at the edge that it shows
abbrev pub flop_points : ℕ → Option ℕ → List (Option Point)
flop_points pin None = []
flop_points pin (Some e) = Some (record { signal = pin; time = e }) ∷ []

-- the sources of all pins, in the order of the pins
abbrev pub pin_points_at : ℕ → Driver → List (Option Point)
pin_points_at t (Input settings) = []
pin_points_at t (Gate kind pins) = map (pin_point t) pins
pin_points_at t (Flop f) = flop_points f.pin (shown_edge f.clock f.delay t)

abbrev pub pin_points : Circuit → ℕ → ℕ → List (Option Point)
pin_points c s t = pin_points_at t (driver c s)

-- the elements that exist
abbrev pub somes : {A : Type 0} → List (Option A) → List A
somes [] = []
somes (None ∷ xs) = somes xs
somes (Some a ∷ xs) = a ∷ somes xs

-- the value that a pin sees at its source; x before time 0
abbrev pub sees : Circuit → Option Point → Value
sees c None = X
sees c (Some p) = value c p.signal p.time

-- the looked sources: up to and including the first that decides
abbrev pub looked_points : Circuit → ℕ → ℕ → List (Option Point)
looked_points c s t = up_to_first (λ o. decides (kind_of (driver c s)) (sees c o)) (pin_points c s t)

abbrev pub no_pin : Pin
no_pin = record { signal = 0; delay = 0 }

-- the times around t at which pin k sees what it sees at t; for a flip-flop, the interval of its cell
abbrev pub interval_at : Circuit → ℕ → ℕ → Driver → ℕ → Span
interval_at c s t (Input settings) k = span c s t
interval_at c s t (Gate kind pins) k = cut_at (c.horizon + 1) (pin_span (span c) t (slice_index_or pins k no_pin))
interval_at c s t (Flop f) k = span c s t

abbrev pub pin_interval : Circuit → ℕ → ℕ → ℕ → Span
pin_interval c s t k = interval_at c s t (driver c s) k

-- the times common to the intervals of the first n pins
abbrev pub met_interval : Circuit → ℕ → ℕ → ℕ → Span
met_interval c s t n = fold meet (from_to 0 2000002) (map (pin_interval c s t) (range_with_len 0 n))

-- the children of a point are the points that its looked pins read, in their order
abbrev pub ChildrenAreLooked : Type 0
ChildrenAreLooked = (c : Circuit) (s t : ℕ) → children c s t ≡ somes (looked_points c s t)
