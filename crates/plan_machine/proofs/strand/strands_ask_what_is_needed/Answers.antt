use Rattle.plan_machine.proofs.Wanted.{asks-needed}
use Rattle.plan_machine.proofs.strand.strands_ask_what_is_needed.Goals as goal

pub returns : goal.returns
returns c = asks-needed
