use Rattle.std.proofs.Common.{◌≡◌, ℕ, take}
use Rattle.std.specs.BTreeMap.{get}
use Rattle.std.specs.Ordering.{nat_cmp}
use Rattle.cell_store.specs.inner.SignalCells.{AreInOrder, kept_at}
use Rattle.cell_store.proofs.signal_cells.mapped.Given as goal

abbrev pub invariant-loop-cell : goal.invariant-loop-cell
invariant-loop-cell l = ((t : ℕ) → get nat_cmp l.many t ≡ kept_at (take l.cell-index l.few) t) × AreInOrder l.many.entries
