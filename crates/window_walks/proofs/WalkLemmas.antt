-- The runs of cells that are walked one after another.
use Rattle.std.proofs.Common.{◌≡◌, ℕ, ◌+◌, ◌<◌, ◌≤◌, List, [], ◌∷◌, ◌++◌, refl, sym, ap, ◌∙◌, subst, arith}
use Rattle.valid_intervals.specs.declared.Cell.{Cell}
use Rattle.circuit_meaning.specs.declared.Run.{Run}
use Rattle.circuit_meaning.specs.Circuit.{Circuit, IsCircuit}
use Rattle.circuit_meaning.specs.Cells.{cell_at, point_at}
use Rattle.circuit_meaning.specs.Forward.{wave}
use Rattle.circuit_meaning.specs.Laws.{AreCells}
use Rattle.circuit_meaning.proofs.Callers.{cells-fix}
use Rattle.window_walks.specs.Runs.{maximal_runs, first_points}
use Rattle.window_walks.specs.Walks.{Walk, Reach, IsWalked}
use Rattle.window_walks.proofs.Maximal.{runs_of-points}

module _ (c : Circuit) (s stop : ℕ) where
  reach-push : (t : ℕ) (cells : List Cell) (u : ℕ) (x : Cell) → Reach c s stop t cells u → u < stop → x ≡ cell_at c (point_at s u) → Reach c s stop t (cells ++ x ∷ []) x.span.stop
  reach-push t [] u x h l e = (omega arith, e ∙ ap (λ time. cell_at c (point_at s time)) (sym h), refl)
  reach-push t (y ∷ cells) u x h l e = (h.0, h.1, reach-push y.span.stop cells u x h.2 l e)

  points-push : (t : ℕ) (cells : List Cell) (u : ℕ) (x : Cell) → Reach c s stop t cells u → first_points t (cells ++ x ∷ []) ≡ first_points t cells ++ record { time = u; value = x.value } ∷ []
  points-push t [] u x h = let at : ℕ → List Run = λ n. record { time = n; value = x.value } ∷ [] in ap at h
  points-push t (y ∷ cells) u x h = ap (λ (l : List Run). record { time = t; value = y.value } ∷ l) (points-push y.span.stop cells u x h.2)

  reach-cells : (t : ℕ) (cells : List Cell) (u : ℕ) → Reach c s stop t cells u → stop ≤ u → AreCells c s stop t cells
  reach-cells t [] u h l = omega arith
  reach-cells t (x ∷ cells) u h l = (h.0, h.1, reach-cells x.span.stop cells u h.2 l)

module _ (c : Circuit) (s : ℕ) where
  pub walked-none : (start stop : ℕ) (runs : List Run) → runs ≡ [] → IsWalked c s (record { start = start; stop = stop; time = start; runs = runs })
  walked-none start stop runs e = record { cells = []; reach = refl; runs_are = e }

  -- one cell more
  pub walked-more : (walk : Walk) (x : Cell) (time : ℕ) (runs : List Run) → IsWalked c s walk → walk.time < walk.stop → x ≡ cell_at c (point_at s walk.time) → time ≡ x.span.stop
      → ((points : List Run) → walk.runs ≡ maximal_runs points → runs ≡ maximal_runs (points ++ record { time = walk.time; value = x.value } ∷ []))
      → IsWalked c s (record { start = walk.start; stop = walk.stop; time = time; runs = runs })
  walked-more walk x time runs w l e end maximal =
      let is : IsWalked c s (record { start = walk.start; stop = walk.stop; time = x.span.stop; runs = runs }) = record {
        cells = w.cells ++ x ∷ [];
        reach = reach-push c s walk.stop walk.start w.cells walk.time x w.reach l e;
        runs_are = maximal (first_points walk.start w.cells) w.runs_are ∙ ap maximal_runs (sym (points-push c s walk.stop walk.start w.cells walk.time x w.reach));
      } in
      subst (λ n. IsWalked c s (record { start = walk.start; stop = walk.stop; time = n; runs = runs })) (sym end) is

  -- the cells of the window are walked to its end
  pub walked-wave : IsCircuit c → (walk : Walk) → IsWalked c s walk → walk.stop ≤ walk.time → walk.stop ≤ c.horizon + 1 → walk.runs ≡ wave c s walk.start walk.stop
  walked-wave ok walk w l within =
      w.runs_are ∙ runs_of-points walk.start w.cells
      ∙ sym (cells-fix c ok s walk.start walk.stop w.cells within (reach-cells c s walk.stop walk.start w.cells walk.time w.reach l))
