use Rattle.std.proofs.Common.{[], List, take, drop}
use Rattle.journal_meaning.specs.declared.Entry.{Entry}
use Rattle.plan_machine.specs.Shards.{Shard}
use Rattle.plan_core.specs.Parts.{shards_in}
use Rattle.query_answers.specs.windows.inner.Phases.{IsWalking}
use Rattle.query_answers.proofs.Turns.{WalksTo}
use Rattle.query_answers.proofs.windows.answers.answer_all.Given as goal

abbrev pub invariant-loop-k : goal.invariant-loop-k
invariant-loop-k g l = record {
  walked : (start : List Entry) (first : List Shard) → IsWalking g.B.BatchName.batch start first (shards_in l.initial.asking.memo) [] [] l.queries l.fed
      → IsWalking g.B.BatchName.batch start first (shards_in l.asking.memo) (take l.k l.queries) l.outcomes.items (drop l.k l.queries) (drop l.k l.fed);
  asks : WalksTo g.B.BatchName.batch g.B.BatchName.opening l.queries (shards_in l.initial.asking.memo) l.fed (shards_in l.asking.memo) l.k l.outcomes.items;
}
