use Rattle.std.proofs.Common.{◌≡◌}
use Rattle.plan_machine.specs.Strands.{next}
use Rattle.plan_machine.specs.declared.strand.Next.TheVariants.{Done}
use Rattle.worker_gate.proofs.worker.Shared.put.Given as goal

abbrev pub invariant-loop : goal.invariant-loop
invariant-loop g l =
    (goal.iterator-loop g).can_next l.iterator' × (goal.iterator-loop g).is_finite l.iterator' × (next l.strand.strand ≡ Done)
