use Rattle.ready_queue.specs.Queue.{IsPassOf}
use Rattle.worker_gate.proofs.worker.Shared.run.Given as goal

abbrev pub invariant-loop : goal.invariant-loop
invariant-loop g l =
    (goal.iterator-loop g).can_next l.iterator' × (goal.iterator-loop g).is_finite l.iterator' × IsPassOf l.self.queue l.pass
