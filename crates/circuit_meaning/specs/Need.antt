-- What a query needs: the points reached from its roots through the looked pins.
use Rattle.std.specs.Prelude.{◌≡◌, ℕ, ◌-◌, ◌*◌, ◌≤◌, ◌<◌, nat_le, List, [], ◌∷◌, map, filter, Option, Some, None, IsSome, Contains}
pub use Rattle.valid_intervals.specs.declared.Point.{Point}
pub use Rattle.circuit_meaning.specs.declared.Window.{Window}
use Rattle.circuit_meaning.specs.Circuit.{Driver, Input, Gate, Flop, Circuit, driver, read_by}
use Rattle.circuit_meaning.specs.Edges.{shown_edge}
use Rattle.circuit_meaning.specs.Cells.{least_delay, looked_pins, span}

-- Whether a signal's value at t comes from other points. Any other point has a base answer.
abbrev pub HasChildren : ℕ → Driver → Type 0
HasChildren t (Input settings) = ⊥
HasChildren t (Gate kind pins) = least_delay pins ≤ t
HasChildren t (Flop f) = IsSome (shown_edge f.clock f.delay t)

abbrev pub IsEvaluable : Circuit → ℕ → ℕ → Type 0
IsEvaluable c s t = HasChildren t (driver c s)

abbrev pub flop_child : ℕ → Option ℕ → List Point
flop_child pin None = []
flop_child pin (Some e) = record { signal = pin; time = e } ∷ []

-- the points that the value at t comes from: those of the looked pins, each one delay earlier; for a flip-flop, its pin at the shown edge
abbrev pub children_from : Circuit → ℕ → Driver → List Point
children_from c t (Input settings) = []
children_from c t (Gate kind pins) = map (λ p. record { signal = p.signal; time = t - p.delay }) (filter (λ p. nat_le p.delay t) (looked_pins c t kind pins))
children_from c t (Flop f) = flop_child f.pin (shown_edge f.clock f.delay t)

-- the children of the point of the signal s at the time t
unfoldable pub children : Circuit → ℕ → ℕ → List Point
children c s t = children_from c t (driver c s)

-- the times at which a query asks: the start of its window, the multiples of 65,536 inside it, and the end of each root's cell, if that is
-- inside the window
pub data IsRoot (c : Circuit) (q : Window) : ℕ → Type 0 where
  First : q.start < q.stop → IsRoot c q q.start
  Piece : (n : ℕ) → q.start < n * 65536 → n * 65536 < q.stop → IsRoot c q (n * 65536)
  Next : {r : ℕ} → IsRoot c q r → (span c q.signal r).stop < q.stop → IsRoot c q (span c q.signal r).stop

-- the points that a query needs: the evaluable roots, and the evaluable children of each needed point
pub data IsNeeded (c : Circuit) (q : Window) : ℕ → ℕ → Type 0 where
  Root : {t : ℕ} → IsRoot c q t → IsEvaluable c q.signal t → IsNeeded c q q.signal t
  Child : {s t u w : ℕ} → IsNeeded c q s t → Contains (children c s t) (record { signal = u; time = w }) → IsEvaluable c u w → IsNeeded c q u w

-- the fan-in cone of a signal: the signal itself, and all signals that a signal of the cone reads
pub data IsInCone (c : Circuit) (root : ℕ) : ℕ → Type 0 where
  Itself : IsInCone c root root
  Reads : {s u : ℕ} → IsInCone c root s → Contains (read_by (driver c s)) u → IsInCone c root u

-- a set of points that has the evaluable children of each of its points
abbrev pub IsClosedUnderChildren : Circuit → (ℕ → ℕ → Type 0) → Type 0
IsClosedUnderChildren c P = (s t : ℕ) → P s t → (p : Point) → Contains (children c s t) p → IsEvaluable c p.signal p.time → P p.signal p.time

-- a part of a query's window that begins at a root of the query, as a piece does
pub record IsPart (c : Circuit) (q part : Window) : Type 0 where
  pub signal : part.signal ≡ q.signal
  pub root : part.start < part.stop → IsRoot c q part.start
  pub start : q.start ≤ part.start
  pub stop : part.stop ≤ q.stop
