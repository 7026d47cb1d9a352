-- One more point behind maximal runs.
use Rattle.std.proofs.Common.{◌≡◌, ℕ, suc, ◌-◌, Bool, true, false, cond, List, [], ◌∷◌, ◌++◌, length, Some, None, refl, sym, ap, ◌∙◌, arith}
use Rattle.std.specs.List.{slice_get}
use Rattle.gate_values.specs.declared.Value.{Value}
use Rattle.gate_values.specs.Gates.{same_value}
use Rattle.gate_values.proofs.Callers.{same-sym, same_is}
use Rattle.valid_intervals.specs.declared.Cell.{Cell}
use Rattle.circuit_meaning.specs.declared.Run.{Run}
use Rattle.circuit_meaning.specs.Laws as laws
use Rattle.window_walks.specs.Runs.{changes_from, maximal_runs, first_points, ends_in, with_point}

pub ends_in-last : (runs : List Run) (run : Run) (value : Value) → slice_get runs (length runs - 1) ≡ Some run → same_value run.value value ≡ ends_in runs value
ends_in-last [] run value h = absurd cc
ends_in-last (x ∷ []) run value h =
    let at : length (x ∷ []) - 1 ≡ 0 = omega arith in
    let found : Some x ≡ Some run = sym (ap (slice_get (x ∷ [])) at) ∙ h in
    let same : x ≡ run = cc in
    ap (λ (r : Run). same_value r.value value) (sym same)
ends_in-last (x ∷ next ∷ runs) run value h =
    let at : length (x ∷ next ∷ runs) - 1 ≡ suc (length (next ∷ runs) - 1) = omega arith in
    ends_in-last (next ∷ runs) run value (sym (ap (slice_get (x ∷ next ∷ runs)) at) ∙ h)

-- a further run in front changes nothing behind it
with_point-cons : (run next : Run) (runs : List Run) (point : Run) → with_point (run ∷ next ∷ runs) point ≡ run ∷ with_point (next ∷ runs) point
with_point-cons run next runs point = cases (ends_in (next ∷ runs) point.value)
  where
    cases : (b : Bool) → cond b (run ∷ next ∷ runs) (run ∷ next ∷ runs ++ point ∷ []) ≡ run ∷ cond b (next ∷ runs) (next ∷ runs ++ point ∷ [])
    cases true = refl
    cases false = refl

-- behind a run of this value
changes_from-push : (run : Run) (value : Value) (points : List Run) (point : Run) → run.value ≡ value → run ∷ changes_from value (points ++ point ∷ []) ≡ with_point (run ∷ changes_from value points) point
changes_from-push run value [] point is = cases (same_value value point.value) (ap (λ (v : Value). same_value v point.value) is)
  where
    cases : (b : Bool) → same_value run.value point.value ≡ b → run ∷ cond b [] (point ∷ []) ≡ cond (same_value run.value point.value) (run ∷ []) (run ∷ point ∷ [])
    cases true h = rw h refl
    cases false h = rw h refl
changes_from-push run value (next ∷ points) point is = cases (same_value value next.value) (changes_from-push run value points point is) (changes_from-push next next.value points point refl)
  where
    cases : (b : Bool) → run ∷ changes_from value (points ++ point ∷ []) ≡ with_point (run ∷ changes_from value points) point → next ∷ changes_from next.value (points ++ point ∷ []) ≡ with_point (next ∷ changes_from next.value points) point
        → run ∷ cond b (changes_from value (points ++ point ∷ [])) (next ∷ changes_from next.value (points ++ point ∷ [])) ≡ with_point (run ∷ cond b (changes_from value points) (next ∷ changes_from next.value points)) point
    cases true goes_on begins = goes_on
    cases false goes_on begins = ap (λ (l : List Run). run ∷ l) begins ∙ sym (with_point-cons run next (changes_from next.value points) point)

-- the runs of points and one more
pub runs_of-push : (points : List Run) (point : Run) → maximal_runs (points ++ point ∷ []) ≡ with_point (maximal_runs points) point
runs_of-push [] point = refl
runs_of-push (first ∷ points) point = changes_from-push first first.value points point refl

pub runs_go_on : (runs points new : List Run) (point : Run) (b : Bool) → runs ≡ maximal_runs points → b ≡ ends_in runs point.value → cond b runs (runs ++ point ∷ []) ≡ new → new ≡ maximal_runs (points ++ point ∷ [])
runs_go_on runs points new point b are ends is =
    sym is ∙ ap (λ (x : Bool). cond x runs (runs ++ point ∷ [])) ends ∙ ap (λ (l : List Run). with_point l point) are ∙ sym (runs_of-push points point)

-- behind a run of this value
changes_from-points : (value : Value) (t : ℕ) (cells : List Cell) → changes_from value (first_points t cells) ≡ laws.runs_along (Some value) t cells
changes_from-points value t [] = refl
changes_from-points value t (x ∷ cells) = cases (same_value value x.value) refl (changes_from-points value x.span.stop cells) (changes_from-points x.value x.span.stop cells)
  where
    cases : (b : Bool) → same_value value x.value ≡ b
        → changes_from value (first_points x.span.stop cells) ≡ laws.runs_along (Some value) x.span.stop cells
        → changes_from x.value (first_points x.span.stop cells) ≡ laws.runs_along (Some x.value) x.span.stop cells
        → cond b (changes_from value (first_points x.span.stop cells)) (record { time = t; value = x.value } ∷ changes_from x.value (first_points x.span.stop cells))
        ≡ cond (same_value x.value value) [] (record { time = t; value = x.value } ∷ []) ++ laws.runs_along (Some x.value) x.span.stop cells
    cases true same goes_on begins = rw (same-sym x.value value, same) (goes_on ∙ ap (λ (v : Value). laws.runs_along (Some v) x.span.stop cells) (same_is value x.value same))
    cases false same goes_on begins = rw (same-sym x.value value, same) (ap (λ (l : List Run). record { time = t; value = x.value } ∷ l) begins)

pub runs_of-points : (t : ℕ) (cells : List Cell) → maximal_runs (first_points t cells) ≡ laws.runs_along None t cells
runs_of-points t [] = refl
runs_of-points t (x ∷ cells) = ap (λ (l : List Run). record { time = t; value = x.value } ∷ l) (changes_from-points x.value x.span.stop cells)
