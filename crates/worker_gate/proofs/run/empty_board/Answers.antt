use Rattle.worker_gate.proofs.Places.{ended_none}
use Rattle.worker_gate.proofs.run.empty_board.Goals as goal

pub invariant_of-result-clause-ended : goal.invariant_of-result-clause-ended
invariant_of-result-clause-ended g c = ended_none _ _ c.loop-i.invariant.none
