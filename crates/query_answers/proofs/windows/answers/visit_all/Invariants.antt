use Rattle.std.proofs.Common.{take, drop}
use Rattle.plan_core.specs.Parts.{shards_in}
use Rattle.plan_core.specs.asked.Memos.{entries_of}
use Rattle.query_answers.specs.windows.inner.Phases.{IsFeeding}
use Rattle.query_answers.proofs.Turns.{VisitsTo}
use Rattle.query_answers.proofs.windows.answers.visit_all.Given as goal

abbrev pub invariant-loop-q : goal.invariant-loop-q
invariant-loop-q g l = record {
  fed : IsFeeding g.B.BatchName.batch (entries_of l.initial.asking.memo) (shards_in l.initial.asking.memo) (shards_in l.asking.memo) (take l.q-index l.queries) l.fed.items (drop l.q-index l.queries);
  asks : VisitsTo g.B.BatchName.batch g.B.BatchName.opening l.queries (shards_in l.initial.asking.memo) (shards_in l.asking.memo) l.q-index l.fed.items;
}
