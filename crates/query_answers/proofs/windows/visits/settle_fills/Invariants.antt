use Rattle.std.proofs.Common.{ℕ, ◌<◌, false, get_or}
use Rattle.valid_intervals.specs.declared.Point.{Point}
use Rattle.plan_machine.specs.Standings.{IsVisited}
use Rattle.plan_core.specs.asked.Memos.{entries_of}
use Rattle.query_answers.specs.asking.inner.AskedMemos.{GoesOnAsking}
use Rattle.query_answers.proofs.windows.visits.settle_fills.Given as goal

abbrev pub invariant-loop-p : goal.invariant-loop-p
invariant-loop-p g l = record {
  visited : (k : ℕ) (d : Point) → k < l.p-index → IsVisited g.B.BatchName.batch.circuit (entries_of l.asking.memo) (get_or l.fills k d);
  asks : GoesOnAsking g.B.BatchName.batch g.B.BatchName.opening l.initial.asking l.asking false;
}
