use Rattle.cell_store.specs.inner.Lists.{way_from}
use Rattle.cell_store.proofs.Emptied.{IsEmptying}
use Rattle.cell_store.proofs.index.free_list.Given as goal

abbrev pub invariant-loop-at : goal.invariant-loop-at
invariant-loop-at l = IsEmptying l.fn.nodes.items l.signal l.at l.nodes.items

abbrev pub decreases-loop-at : goal.decreases-loop-at
decreases-loop-at l = way_from l.fn.nodes.items l.at
