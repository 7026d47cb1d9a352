-- The stores so far.
use Rattle.std.proofs.Common.{◌≡◌, replicate, []}
use Rattle.cell_store.specs.Recency.{contents}
use Rattle.session_loop.proofs.stores.empty_stores.Given as goal

abbrev pub invariant-loop-number : goal.invariant-loop-number
invariant-loop-number l = l.stores.items ≡ replicate l.number (contents l.sizes.cells [])
