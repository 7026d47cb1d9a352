use Rattle.plan_machine.proofs.Ends.{claim-ends}
use Rattle.plan_machine.proofs.ends_let_out.Goals as goal

pub returns : goal.returns
returns c = claim-ends
