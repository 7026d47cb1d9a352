use Rattle.plan_machine.proofs.Wanted.{waits-earlier}
use Rattle.plan_machine.proofs.strand.waits_are_earlier.Goals as goal

pub returns : goal.returns
returns c = waits-earlier
