use Rattle.std.proofs.Common.{◌≡◌, ℕ, length, get_or, drop, true, false, nat_eq, vec_capacity}
use Rattle.std.specs.List.{list_any}
use Rattle.cell_store.proofs.Uses.{IsThinning}
use Rattle.cell_store.proofs.notes.thin.Given as goal

abbrev pub invariant-loop-left : goal.invariant-loop-left
invariant-loop-left l = record {
  thinning : IsThinning l.fn.noted.items l.noted.items l.met.items l.left l.kept;
  many : length l.met.items ≡ length l.fn.met.items;
  capacity : vec_capacity l.noted ≡ vec_capacity l.fn.noted;
}

abbrev pub decreases-loop-left : goal.decreases-loop-left
decreases-loop-left l = l.left

abbrev pub invariant-loop-i : goal.invariant-loop-i
invariant-loop-i l = record {
  told : (slot : ℕ) → get_or l.met.items slot false ≡ true → list_any (nat_eq slot) (drop l.i l.noted.items) ≡ true;
  many : length l.met.items ≡ length l.fn.met.items;
}
