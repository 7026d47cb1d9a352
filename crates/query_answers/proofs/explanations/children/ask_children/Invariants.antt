use Rattle.std.proofs.Common.{◌≡◌, ◌-◌, false, length, take}
use Rattle.std.specs.BTreeMap.{get}
use Rattle.design.specs.PinWalks.{IsPinWalk, looked_at}
use Rattle.plan_core.specs.asked.Memos.{entries_of}
use Rattle.query_answers.specs.asking.inner.AskedMemos.{GoesOnAsking}
use Rattle.query_answers.specs.explanations.inner.Waiting.{place_cmp}
use Rattle.query_answers.specs.explanations.inner.Gathered.{Notes}
use Rattle.query_answers.proofs.explanations.children.ask_children.Given as goal

abbrev pub invariant-pins : goal.invariant-pins
invariant-pins g l = record {
  walk : IsPinWalk g.B.BatchName.batch.circuit l.walk;
  point : l.walk.point ≡ l.fn.p;
  notes : Notes g.B.BatchName.batch.circuit (entries_of l.asking.memo) (get place_cmp l.initial.waiting.cells) (get place_cmp l.waiting.cells) (take l.walk.looked (looked_at g.B.BatchName.batch.circuit l.fn.p));
  asks : GoesOnAsking g.B.BatchName.batch g.B.BatchName.opening l.initial.asking l.asking false;
}

abbrev pub decreases-pins : goal.decreases-pins
decreases-pins g l = length (looked_at g.B.BatchName.batch.circuit l.walk.point) - l.walk.looked
