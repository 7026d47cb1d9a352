use Rattle.std.proofs.Common.{arith}
use Rattle.std.specs.BTreeMap.{get}
use Rattle.std.specs.Ordering.{nat_cmp}
use Rattle.cell_store.proofs.Starts.{taken-more}
use Rattle.cell_store.proofs.signal_cells.mapped.Goals as goal

pub loop-cell-preserved : goal.loop-cell-preserved
loop-cell-preserved c =
    let test = c.loop-cell-test.true in (
      (λ t. taken-more c.args.few.now c.loop-cell.cell-index t _ (get nat_cmp c.loop-cell.many) (get nat_cmp c.insert.new.self) c.requires (omega (arith, test)) c.loop-cell.invariant.0 c.in_ok-insert.ensures.updates.0),
      c.in_ok-insert.ensures.ordered,
    )
