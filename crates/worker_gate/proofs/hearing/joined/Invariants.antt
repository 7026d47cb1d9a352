use Rattle.worker_gate.specs.Said.{AreJoined}
use Rattle.worker_gate.proofs.hearing.joined.Given as goal

abbrev pub invariant-loop-part : goal.invariant-loop-part
invariant-loop-part l = AreJoined l.yielded l.said.fills.items
