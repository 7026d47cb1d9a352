-- Laws of the definitions.
use Rattle.std.specs.Prelude.{◌≡◌, ◌≢◌, ℕ, ◌+◌, ◌≤◌, ◌<◌, List, All, Option, Some, None, MatchOption, suc, [], ◌∷◌, map, filter, Bool, false, if◌then◌else◌, not, ◌||◌, ◌==◌, ◌++◌, ◌-◌}
use Rattle.std.specs.List.{range_with_len}
use Rattle.gate_values.specs.Gates.{same_value}
use Rattle.circuit_meaning.specs.Circuit.{Pin, Driver, Input, Gate, Flop, Circuit, driver, IsCircuit}
use Rattle.circuit_meaning.specs.Forward.{value, value_from, entry, forward, wave}
use Rattle.circuit_meaning.specs.declared.Run.{Run}
use Rattle.circuit_meaning.specs.Edges.{shown_edge}
use Rattle.circuit_meaning.specs.Cells.{span, span_from, looked_pins, cell_at, point_at}
use Rattle.circuit_meaning.specs.Base.{base_answer}
use Rattle.valid_intervals.specs.declared.Cell.{Cell}
use Rattle.gate_values.specs.declared.Value.{Value}
use Rattle.gate_values.specs.declared.Value.TheVariants.{Z}
use Rattle.valid_intervals.specs.Spans.{IsIn}
use Rattle.circuit_meaning.specs.Need.{Window, children, IsRoot, IsEvaluable, IsNeeded, IsInCone, IsClosedUnderChildren, IsPart}

-- the driver gives each value from earlier values, and each interval from earlier intervals
abbrev pub ValuesFollow : Type 0
ValuesFollow = (c : Circuit) → IsCircuit c → (s t : ℕ) → value c s t ≡ value_from (value c) t (driver c s)

abbrev pub SpansFollow : Type 0
SpansFollow = (c : Circuit) → IsCircuit c → (s t : ℕ) → span c s t ≡ span_from c (span c) t (driver c s)

-- a child's time is less than its parent's
abbrev pub ChildrenAreEarlier : Type 0
ChildrenAreEarlier = (c : Circuit) → IsCircuit c → (s t : ℕ) → All (λ p. p.time < t) (children c s t)

-- what a query needs is of signals in the fan-in cone of its signal
abbrev pub NeededAreInCone : Type 0
NeededAreInCone = (c : Circuit) (q : Window) (s t : ℕ) → IsNeeded c q s t → IsInCone c q.signal s

-- the looked pins, and for a flip-flop also its edge
pub data Look : Type 0 where
  NoPin : Look
  Pins : List Pin → Look
  Edge : Option ℕ → Look

abbrev pub look : Circuit → ℕ → Driver → Look
look c t (Input settings) = NoPin
look c t (Gate kind pins) = Pins (looked_pins c t kind pins)
look c t (Flop f) = Edge (shown_edge f.clock f.delay t)

-- each time is in its own cell, and no cell ends later than just after the horizon
pub record IsCovered (c : Circuit) (s t : ℕ) : Type 0 where
  pub inside : IsIn (span c s t) t
  pub within : (span c s t).stop ≤ c.horizon + 1

abbrev pub CellsCover : Type 0
CellsCover = (c : Circuit) → IsCircuit c → (s t : ℕ) → t ≤ c.horizon → IsCovered c s t

-- the value, the cell and the look are the same at each time of a cell
pub record IsSame (c : Circuit) (s t u : ℕ) : Type 0 where
  pub value : value c s u ≡ value c s t
  pub span : span c s u ≡ span c s t
  pub look : look c u (driver c s) ≡ look c t (driver c s)

abbrev pub CellsAreSteady : Type 0
CellsAreSteady = (c : Circuit) → IsCircuit c → (s t u : ℕ) → IsIn (span c s t) u → IsSame c s t u

-- each time of the window is in the cell of a root
abbrev pub RootsReach : Type 0
RootsReach = (c : Circuit) → IsCircuit c → (q : Window) → q.stop ≤ c.horizon + 1 → (t : ℕ) → q.start ≤ t → t < q.stop → (r : ℕ) × IsRoot c q r × IsIn (span c q.signal r) t

-- a query needs all that a query for one of its needed points needs
abbrev pub at_point : ℕ → ℕ → Window
at_point s t = record { signal = s; start = t; stop = t + 1 }

abbrev pub NeededAlone : Type 0
NeededAlone = (c : Circuit) → IsCircuit c → (q : Window) → q.stop ≤ c.horizon + 1 → (s t u w : ℕ) → IsNeeded c q s t → IsNeeded c (at_point s t) u w → IsNeeded c q u w

-- the forward simulation has the row of each time up to the horizon
abbrev pub ForwardHolds : Type 0
ForwardHolds = (c : Circuit) (s t : ℕ) → t ≤ c.horizon → entry (forward c) s t ≡ value c s t

-- a wave is its first value and the changes after it; the changes of two consecutive stretches are joined, and a cell has no change inside
abbrev pub changes : Circuit → ℕ → ℕ → ℕ → List Run
changes c s a n = map (λ t. record { time = t; value = value c s t }) (filter (λ t. not (same_value (value c s t) (value c s (t - 1)))) (range_with_len a n))

pub record WavesAreChanges (c : Circuit) (s : ℕ) : Type 0 where
  pub first : (a n : ℕ) → wave c s a (a + suc n) ≡ record { time = a; value = value c s a } ∷ changes c s (a + 1) n
  pub empty : (a b : ℕ) → b ≤ a → wave c s a b ≡ []
  pub follow : (a m n : ℕ) → changes c s a (m + n) ≡ changes c s a m ++ changes c s (a + m) n
  pub inside : IsCircuit c → (t a n : ℕ) → (span c s t).start < a → a + n ≤ (span c s t).stop → changes c s a n ≡ []

-- a base answer is the cell, and exists exactly when the point is not evaluable
abbrev pub BaseAnswersAreCells : Type 0
BaseAnswersAreCells = (c : Circuit) → IsCircuit c → (s t : ℕ) → MatchOption (base_answer c s t) (IsEvaluable c s t) (λ x. (x ≡ cell_at c (point_at s t)) × (IsEvaluable c s t → ⊥))

abbrev pub IsDriven : Driver → Type 0
IsDriven (Input settings) = ⊥
IsDriven (Gate kind pins) = Unit {0}
IsDriven (Flop f) = Unit {0}

-- only an input can have the value z
abbrev pub OnlyInputsShowZ : Type 0
OnlyInputsShowZ = (c : Circuit) → IsCircuit c → (s t : ℕ) → IsDriven (driver c s) → value c s t ≢ Z

-- runs that may come after this one: times ascend, and consecutive values differ
abbrev pub GoOn : Run → List Run → Type 0
GoOn r [] = Unit {0}
GoOn r (x ∷ rest) = (r.time < x.time) × (x.value ≢ r.value) × GoOn x rest

abbrev pub AreMaximal : List Run → Type 0
AreMaximal [] = Unit {0}
AreMaximal (r ∷ rest) = GoOn r rest

abbrev pub WavesAreMaximal : Type 0
WavesAreMaximal = (c : Circuit) (s a b : ℕ) → AreMaximal (wave c s a b)

-- Up to the end of a cell, a waveform gets at most one more run: at the start of the window, or if the value differs from the value just
-- before.
abbrev pub new_run : Circuit → ℕ → ℕ → ℕ → List Run
new_run c s a t = if (t == a) || not (same_value (value c s t) (value c s (t - 1))) then record { time = t; value = value c s t } ∷ [] else []

abbrev pub WavesGrowByCells : Type 0
WavesGrowByCells = (c : Circuit) → IsCircuit c → (s a t u : ℕ) → a ≤ t → t ≤ c.horizon → t < u → u ≤ (span c s t).stop → wave c s a u ≡ wave c s a t ++ new_run c s a t

-- consecutive cells of the signal s, from that of t to the one that reaches the time b
abbrev pub AreCells : Circuit → ℕ → ℕ → ℕ → List Cell → Type 0
AreCells c s b t [] = b ≤ t
AreCells c s b t (x ∷ rest) = (t < b) × (x ≡ cell_at c (point_at s t)) × AreCells c s b x.span.stop rest

abbrev pub is_value : Option Value → Value → Bool
is_value None v = false
is_value (Some w) v = same_value v w

-- the maximal runs of such cells from the time t on, if the signal had this value just before
abbrev pub runs_along : Option Value → ℕ → List Cell → List Run
runs_along before t [] = []
runs_along before t (x ∷ rest) = (if is_value before x.value then [] else record { time = t; value = x.value } ∷ []) ++ runs_along (Some x.value) x.span.stop rest

-- the cells of a window determine its waveform
abbrev pub CellsFixWaves : Type 0
CellsFixWaves = (c : Circuit) → IsCircuit c → (s a b : ℕ) (cells : List Cell) → b ≤ c.horizon + 1 → AreCells c s b a cells → wave c s a b ≡ runs_along None a cells

-- The points that a query needs include the evaluable children of each of them. So do the free points that a query needs if a signal is
-- forced.
abbrev pub NeedIsClosed : Type 0
NeedIsClosed = (c : Circuit) (q : Window) → IsClosedUnderChildren c (IsNeeded c q)

-- a query needs all that a part of its window needs, if the part begins at a root
abbrev pub PartsNeedNoMore : Type 0
PartsNeedNoMore = (c : Circuit) (q part : Window) → IsPart c q part → (s t : ℕ) → IsNeeded c part s t → IsNeeded c q s t
