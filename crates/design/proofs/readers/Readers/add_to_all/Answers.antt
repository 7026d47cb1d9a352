use Rattle.design.proofs.Reading.{adds-next}
use Rattle.design.proofs.readers.Readers.add_to_all.Goals as goal

pub loop-signal-preserved : goal.loop-signal-preserved
loop-signal-preserved c =
    adds-next c.args.reader c.args.signals.now c.loop-signal.signal-index c.args.self.now c.loop-signal.self c.add.new.self c.loop-signal.invariant
    (c.requires c.loop-signal.signal-index 0 c.loop-signal-test.true) c.loop-signal-test.true c.in_ok-add.ensures
