use Rattle.plan_machine.proofs.Ready.{ready-moves}
use Rattle.plan_machine.proofs.ready_strands_move.Goals as goal

pub returns : goal.returns
returns c = ready-moves
