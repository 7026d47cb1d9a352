use Rattle.std.proofs.Common.{◌≡◌, ◌<◌, ◌-◌, ℕ, None, false, get_or, length}
use Rattle.design.specs.PinWalks.{IsPinWalk, looked_at}
use Rattle.plan_core.specs.asked.Memos.{entries_of}
use Rattle.plan_core.specs.asked.Sources.{IsSourceCovered}
use Rattle.query_answers.specs.asking.inner.AskedMemos.{GoesOnAsking}
use Rattle.query_answers.proofs.windows.visits.settle_children.Given as goal

abbrev pub invariant-pins : goal.invariant-pins
invariant-pins g l = record {
  walk : IsPinWalk g.B.BatchName.batch.circuit l.walk;
  point : l.walk.point ≡ l.fn.p;
  covered : (i : ℕ) → i < l.walk.looked → IsSourceCovered g.B.BatchName.batch.circuit (entries_of l.asking.memo) (get_or (looked_at g.B.BatchName.batch.circuit l.fn.p) i None);
  asks : GoesOnAsking g.B.BatchName.batch g.B.BatchName.opening l.initial.asking l.asking false;
}

abbrev pub decreases-pins : goal.decreases-pins
decreases-pins g l = length (looked_at g.B.BatchName.batch.circuit l.walk.point) - l.walk.looked
