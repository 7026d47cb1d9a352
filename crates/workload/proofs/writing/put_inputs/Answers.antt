use Rattle.workload.specs.Texts.{input_line}
use Rattle.workload.proofs.WrittenLines.{start-written, more-written}
use Rattle.workload.proofs.writing.put_inputs.Goals as goal

pub loop-number-init : goal.loop-number-init
loop-number-init c = start-written input_line _

pub loop-number-preserved : goal.loop-number-preserved
loop-number-preserved c = more-written input_line c.loop-number.number _ _ _ c.loop-number.invariant c.in_ok-put_input_line.ensures
