use Rattle.cell_store.specs.inner.Lists.{way_from}
use Rattle.cell_store.specs.inner.SignalCells.{kept_at}
use Rattle.cell_store.proofs.Emptied.{IsCopied}
use Rattle.cell_store.proofs.index.listed_cells.Given as goal

abbrev pub invariant-loop-at : goal.invariant-loop-at
invariant-loop-at l = IsCopied l.nodes.items l.signal l.at (kept_at l.cells)

abbrev pub decreases-loop-at : goal.decreases-loop-at
decreases-loop-at l = way_from l.nodes.items l.at
