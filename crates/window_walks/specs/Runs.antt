-- The maximal runs of equal values, each by its first time.
use Rattle.std.specs.Prelude.{◌≡◌, ℕ, None, Bool, false, List, [], ◌∷◌, ◌++◌, if◌then◌else◌}
use Rattle.gate_values.specs.declared.Value.{Value}
use Rattle.gate_values.specs.Gates.{same_value}
use Rattle.valid_intervals.specs.declared.Cell.{Cell}
use Rattle.circuit_meaning.specs.declared.Run.{Run}
use Rattle.circuit_meaning.specs.Laws as laws

-- the points at which the value changes, if this is the value before the first
abbrev pub changes_from : Value → List Run → List Run
changes_from value [] = []
changes_from value (point ∷ points) =
    if same_value value point.value
    then changes_from value points
    else point ∷ changes_from point.value points

-- the maximal runs of points, each by its first point
abbrev pub maximal_runs : List Run → List Run
maximal_runs [] = []
maximal_runs (point ∷ points) = point ∷ changes_from point.value points

-- the last run has this value
abbrev pub ends_in : List Run → Value → Bool
ends_in [] value = false
ends_in (run ∷ []) value = same_value run.value value
ends_in (run ∷ next ∷ runs) value = ends_in (next ∷ runs) value

-- the runs with one more point: the last run goes on, or a new one begins
abbrev pub with_point : List Run → Run → List Run
with_point runs point = if ends_in runs point.value then runs else runs ++ point ∷ []

-- the first points of consecutive cells, from this time on
abbrev pub first_points : ℕ → List Cell → List Run
first_points t [] = []
first_points t (x ∷ cells) = record { time = t; value = x.value } ∷ first_points x.span.stop cells

-- The runs of the cells' points are the maximal runs of the cells.
abbrev pub RunsOfCells : Type 0
RunsOfCells = (t : ℕ) (cells : List Cell) → maximal_runs (first_points t cells) ≡ laws.runs_along None t cells
