use Rattle.ready_queue.proofs.Moves.{forks}
use Rattle.ready_queue.proofs.ReadyQueue.new.Goals as goal

pub another-pass-requires-clause-rule : goal.another-pass-requires-clause-rule
another-pass-requires-clause-rule g c = forks _ _
