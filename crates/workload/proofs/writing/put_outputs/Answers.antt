use Rattle.workload.specs.Texts.{output_line}
use Rattle.workload.proofs.WrittenLines.{start-written, more-written}
use Rattle.workload.proofs.writing.put_outputs.Goals as goal

pub loop-place-init : goal.loop-place-init
loop-place-init c = start-written output_line _

pub loop-place-preserved : goal.loop-place-preserved
loop-place-preserved c = more-written output_line c.loop-place.place _ _ _ c.loop-place.invariant c.in_ok-put_output_line.ensures
