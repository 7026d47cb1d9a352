use Rattle.std.proofs.Common.{[], ◌∷◌}
use Rattle.plan_machine.specs.Bounds.{all_left}
use Rattle.plan_core.specs.Parts.{plan_of_new}
use Rattle.plan_core.specs.InTurn.{made_by}
use Rattle.plan_core.specs.inner.InTurn.{IsRunning, IsWithin}
use Rattle.plan_core.proofs.in_turn.run_one.Given as goal

abbrev pub invariant-turns : goal.invariant-turns
invariant-turns g l = record {
  run : IsRunning g.B.BatchName.batch g.B.BatchName.opening l.initial.strand l.initial.shards l.strand l.shards;
  within : IsWithin l.initial.left l.left (made_by l.initial.strand) (made_by l.strand);
}

abbrev pub decreases-turns : goal.decreases-turns
decreases-turns g l = all_left g.B.BatchName.batch (plan_of_new (l.strand ∷ []) l.shards)
