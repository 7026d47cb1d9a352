use Rattle.std.proofs.Common.{◌≡◌, length}
use Rattle.journal_meaning.specs.Pieces.{Start}
use Rattle.plan_machine.specs.Bounds.{all_left}
use Rattle.plan_machine.specs.Laws.{BeginsAlone}
use Rattle.plan_machine.specs.Alone.{RunsAlone}
use Rattle.plan_core.specs.Refusals.{point_of}
use Rattle.plan_core.proofs.plan.Plan.run_alone.Given as goal

abbrev pub invariant-turns : goal.invariant-turns
invariant-turns g l = record {
  count : length l.self.strands ≡ length l.initial.self.strands;
  runs : (a : Start) → BeginsAlone g.B.BatchName.batch g.B.BatchName.opening l.number a l.initial.self → RunsAlone g.B.BatchName.batch g.B.BatchName.opening l.number a l.initial.self l.self (point_of l.alone);
}

abbrev pub decreases-turns : goal.decreases-turns
decreases-turns g l = all_left g.B.BatchName.batch l.self
