use Rattle.design.proofs.Rereads.{clock-more}
use Rattle.design.proofs.signal_timing.NamedClocks.read.Goals as goal

pub loop-row-preserved : goal.loop-row-preserved
loop-row-preserved c =
    clock-more c.args.rows.now c.loop-row.row-index c.row-item.result c.loop-row-test.true c.row-item.is c.loop-row.clocks c.insert.new.self c.bytes.result c.bytes.ensures c.in_ok-insert.ensures.updates.0 c.loop-row.invariant
