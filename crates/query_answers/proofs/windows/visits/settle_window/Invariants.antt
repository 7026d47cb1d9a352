use Rattle.std.proofs.Common.{◌≡◌, ◌<◌, ◌-◌, List, false}
use Rattle.circuit_meaning.specs.Need.{IsRoot}
use Rattle.journal_meaning.specs.declared.Entry.{Entry}
use Rattle.journal_meaning.specs.Batches.{window_of}
use Rattle.plan_machine.specs.Shards.{Shard}
use Rattle.plan_machine.specs.Standings.{IsStanding, IsCoveredTo}
use Rattle.window_walks.specs.Walks.{IsWalked}
use Rattle.plan_core.specs.asked.Standings.{live}
use Rattle.query_answers.specs.asking.inner.AskedMemos.{GoesOnAsking}
use Rattle.query_answers.proofs.windows.visits.settle_window.Given as goal

abbrev pub invariant-roots : goal.invariant-roots
invariant-roots g l = record {
  start : l.walk.start ≡ l.q.from;
  stop : l.walk.stop ≡ l.q.to;
  walked : IsWalked g.B.BatchName.batch.circuit l.q.signal l.walk;
  root : l.walk.time < l.q.to → IsRoot g.B.BatchName.batch.circuit (window_of l.q) l.walk.time;
  covered : (start : List Entry) (first : List Shard) → IsStanding g.B.BatchName.batch g.B.BatchName.opening l.q start first (live l.initial.asking.memo)
      → IsCoveredTo g.B.BatchName.batch.circuit l.q (live l.asking.memo) l.walk.time;
  asks : GoesOnAsking g.B.BatchName.batch g.B.BatchName.opening l.initial.asking l.asking false;
}

abbrev pub decreases-roots : goal.decreases-roots
decreases-roots g l = l.q.to - l.walk.time
