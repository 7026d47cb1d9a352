use Rattle.std.proofs.Common.{◌≡◌, ◌<◌, ◌-◌, ℕ, None, get_or, length}
use Rattle.design.specs.PinWalks.{IsPinWalk, looked_at}
use Rattle.plan_core.specs.asked.Memos.{entries_of}
use Rattle.plan_core.specs.asked.Sources.{IsSourceCovered}
use Rattle.plan_core.proofs.asked.heard.are_children_said.Given as goal

abbrev pub invariant-pins : goal.invariant-pins
invariant-pins g l = record {
  walk : IsPinWalk g.B.BatchName.batch.circuit l.walk;
  point : l.walk.point ≡ l.fn.p;
  covered : (i : ℕ) → i < l.walk.looked → IsSourceCovered g.B.BatchName.batch.circuit (entries_of l.shards) (get_or (looked_at g.B.BatchName.batch.circuit l.fn.p) i None);
}

abbrev pub decreases-pins : goal.decreases-pins
decreases-pins g l = length (looked_at g.B.BatchName.batch.circuit l.walk.point) - l.walk.looked
