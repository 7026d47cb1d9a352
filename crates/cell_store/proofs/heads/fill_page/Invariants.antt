use Rattle.std.proofs.Common.{◌≡◌, ◌-◌, ℕ, vec_len}
use Rattle.cell_store.specs.inner.Heads.{head_on}
use Rattle.cell_store.proofs.heads.fill_page.Given as goal

abbrev pub invariant-loop-page : goal.invariant-loop-page
invariant-loop-page l = (i : ℕ) → head_on l.page.items i ≡ head_on l.fn.page.items i

abbrev pub decreases-loop-page : goal.decreases-loop-page
decreases-loop-page l = 64 - vec_len l.page
