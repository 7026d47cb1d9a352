-- The point that a pin reads, and the interval that is heard there.
use Rattle.std.specs.Prelude.{ℕ, slice_index_or, Option, None, option_map}
use Rattle.valid_intervals.specs.declared.Point.{Point}
use Rattle.valid_intervals.specs.Spans.{Span}
use Rattle.circuit_meaning.specs.Circuit.{Circuit, driver, read_by}
use Rattle.circuit_meaning.specs.Cells.{span}
use Rattle.circuit_meaning.specs.Looks.{pin_points}

-- pin k of the signal s at this time
abbrev pub pin_at : Circuit → ℕ → ℕ → ℕ → Point
pin_at c s k u = record { signal = slice_index_or (read_by (driver c s)) k 0; time = u }

-- the interval of the cell that pin k reads from the signal s at t, if it reads one
abbrev pub heard_of : Circuit → ℕ → ℕ → ℕ → Option Span
heard_of c s t k = option_map (λ p. span c p.signal p.time) (slice_index_or (pin_points c s t) k None)
