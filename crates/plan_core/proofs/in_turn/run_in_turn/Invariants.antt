use Rattle.std.proofs.Common.{◌≡◌, ◌+◌, [], length, map}
use Rattle.plan_machine.specs.Settle.{entries_in}
use Rattle.demand_points.specs.Demands.{Demand}
use Rattle.plan_core.specs.Parts.{AreInOrder, shards_in}
use Rattle.plan_core.specs.InTurn.{booked_in, made_in, task_of}
use Rattle.plan_core.specs.inner.InTurn.{AreRun, HaveHeard, IsWithin}
use Rattle.plan_core.proofs.in_turn.run_in_turn.Given as goal

abbrev pub invariant-loop-number : goal.invariant-loop-number
invariant-loop-number g l = record {
  many : length l.strands ≡ length l.initial.strands;
  numbers : map (λ (s : Demand). s.number) l.strands ≡ map (λ (s : Demand). s.number) l.initial.strands;
  tasks : map task_of l.strands ≡ map task_of l.initial.strands;
  count : length l.shards ≡ length l.initial.shards;
  order : AreInOrder l.shards;
  counted : made_in l.strands + booked_in l.initial.shards ≡ made_in l.initial.strands + booked_in l.shards;
  within : IsWithin l.initial.left l.left (made_in l.initial.strands) (made_in l.strands);
  run : AreRun g.B.BatchName.batch g.B.BatchName.opening l.number l.strands l.shards;
  heard : entries_in (shards_in l.initial.shards) ≡ [] → HaveHeard g.B.BatchName.batch l.number l.strands l.shards;
}
