-- A window of a signal that is walked from cell to cell.
use Rattle.std.specs.Prelude.{◌≡◌, ℕ, ◌<◌, List, [], ◌∷◌}
use Rattle.valid_intervals.specs.declared.Cell.{Cell}
use Rattle.circuit_meaning.specs.declared.Run.{Run}
use Rattle.circuit_meaning.specs.Circuit.{Circuit}
use Rattle.circuit_meaning.specs.Cells.{cell_at, point_at}
use Rattle.window_walks.specs.Runs.{maximal_runs, first_points}

-- the window [start, stop), the time up to which it is walked, and its runs so far
pub record Walk : Type 0 where
  pub start : ℕ
  pub stop : ℕ
  pub time : ℕ
  pub runs : List Run

-- these are consecutive cells of the signal s: the first is that of t, each begins below stop, and the last ends at u
abbrev pub Reach : Circuit → ℕ → ℕ → ℕ → List Cell → ℕ → Type 0
Reach c s stop t [] u = t ≡ u
Reach c s stop t (x ∷ rest) u = (t < stop) × (x ≡ cell_at c (point_at s t)) × Reach c s stop x.span.stop rest u

-- such cells reach from the start of the window to the time, and the runs are the maximal runs of their points
pub record IsWalked (c : Circuit) (s : ℕ) (walk : Walk) : Type 0 where
  pub cells : List Cell
  pub reach : Reach c s walk.stop walk.start cells walk.time
  pub runs_are : walk.runs ≡ maximal_runs (first_points walk.start cells)
