use Rattle.std.proofs.Common.{None}
use Rattle.plan_machine.proofs.Alone.{turns-alone}
use Rattle.plan_machine.proofs.AloneRuns.{alone-start, run-ends}
use Rattle.plan_machine.proofs.strands_run_alone.Goals as goal

pub returns : goal.returns
returns c = record {
  begins = λ b l opening n a plan h. alone-start b l opening n a plan h.sound h.free h.at;
  goes = turns-alone;
  ends = λ b l opening n a plan h turns enough. run-ends b l opening n a plan turns plan None (alone-start b l opening n a plan h.sound h.free h.at) enough;
}
