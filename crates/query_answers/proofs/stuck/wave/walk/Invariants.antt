use Rattle.std.proofs.Common.{◌≡◌, ◌-◌, false}
use Rattle.plan_core.specs.Parts.{shards_in}
use Rattle.plan_core.specs.asked.Memos.{entries_of}
use Rattle.query_answers.specs.stuck.Asks.{AsksRoots}
use Rattle.query_answers.specs.stuck.inner.Both.{Rests, site_in}
use Rattle.query_answers.proofs.StuckWalks.{IsWalking}
use Rattle.query_answers.proofs.stuck.wave.walk.Given as goal

abbrev pub invariant-cells : goal.invariant-cells
invariant-cells g l = record {
  query : l.memos.session.query ≡ l.initial.memos.session.query;
  rests : Rests g.B.BatchName.batch g.B.BatchName.opening l.question l.memos.session.memo l.memos.own l.memos.filled;
  walking : IsWalking g.B.BatchName.batch.circuit l.question (entries_of l.memos.session.memo) l.memos.own.shard.journal l.walk;
  asks : AsksRoots g.B.BatchName.batch g.B.BatchName.opening (site_in l.question) l.question.query (shards_in l.initial.memos.session.memo) l.initial.memos.own.shard.journal (shards_in l.memos.session.memo) l.memos.own.shard.journal false;
  design : l.design ≡ l.initial.design;
}

abbrev pub decreases-cells : goal.decreases-cells
decreases-cells g l = l.question.query.to - l.walk.time
