use Rattle.std.proofs.Common.{◌≡◌, ℕ, zero, suc, [], ◌∷◌, slice_get, Some, sym, subst}
use Rattle.plan_core.specs.Parts.{IsFreshStrand, AreFreshStrands}
use Rattle.plan_core.proofs.tests.planned.Goals as goal

-- what holds of both elements of a list at their places holds at each place
both-at : {A : Type 0} (P : ℕ → A → Type 0) (x y : A) → P 0 x → P 1 y → (i : ℕ) (z : A) → slice_get (x ∷ y ∷ []) i ≡ Some z → P i z
both-at P x y p q zero z at = let same : x ≡ z = cc at in subst (P 0) same p
both-at P x y p q (suc zero) z at = let same : y ≡ z = cc at in subst (P 1) same q
both-at P x y p q (suc (suc i)) z at = absurd (cc at)

pub new-requires-clause-strands : goal.new-requires-clause-strands
new-requires-clause-strands g c =
    let b = g.B.BatchName.batch in
    subst (AreFreshStrands b) (sym c.in_ok-strands.ensures.items) (both-at (IsFreshStrand b) c.started.result c.started-2.result c.started.ensures c.started-2.ensures)
