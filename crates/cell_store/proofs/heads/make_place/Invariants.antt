use Rattle.std.proofs.Common.{◌≡◌, ◌+◌, ◌-◌, ℕ, Some, vec_len}
use Rattle.cell_store.specs.inner.Heads.{head_at}
use Rattle.cell_store.proofs.heads.make_place.Given as goal

abbrev pub invariant-loop-pages : goal.invariant-loop-pages
invariant-loop-pages l = (k : ℕ) → head_at l.pages.items (Some k) ≡ head_at l.fn.pages.items (Some k)

abbrev pub decreases-loop-pages : goal.decreases-loop-pages
decreases-loop-pages l = l.number + 1 - vec_len l.pages
