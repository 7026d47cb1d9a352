use Rattle.cell_store.proofs.Nodes.{IsSearching}
use Rattle.cell_store.specs.inner.Lists.{way_from}
use Rattle.cell_store.proofs.index.gap_at.Given as goal

abbrev pub invariant-loop-gap : goal.invariant-loop-gap
invariant-loop-gap l = IsSearching l.nodes l.fn.first l.at.signal l.at.start l.gap

abbrev pub decreases-loop-gap : goal.decreases-loop-gap
decreases-loop-gap l = way_from l.nodes l.gap.after
