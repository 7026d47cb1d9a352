use Rattle.std.proofs.Common.{◌≡◌, false}
use Rattle.plan_machine.specs.Bounds.{turns_left}
use Rattle.plan_core.specs.Parts.{shards_in}
use Rattle.plan_core.specs.asked.Asked.{AsksOn}
use Rattle.plan_core.specs.asked.Memos.{entries_of}
use Rattle.query_answers.specs.stuck.inner.Both.{Asks, AreKept, Extends}
use Rattle.query_answers.proofs.stuck.root.hear_root.Given as goal

abbrev pub invariant-steps : goal.invariant-steps
invariant-steps g l = record {
  query : l.memos.session.query ≡ l.initial.memos.session.query;
  asks : Asks g.B.BatchName.batch g.B.BatchName.opening l.question l.time l.memos.session.memo l.memos.own l.strand;
  kept_session : AreKept (entries_of l.initial.memos.session.memo) (entries_of l.memos.session.memo);
  extends : Extends l.initial.memos.own.shard.journal l.memos.own.shard.journal;
  session_asks : AsksOn g.B.BatchName.batch g.B.BatchName.opening l.question.query (shards_in l.initial.memos.session.memo) false (shards_in l.memos.session.memo) false;
  design : l.design ≡ l.initial.design;
}

abbrev pub decreases-steps : goal.decreases-steps
decreases-steps g l = turns_left g.H.BatchName.batch 1 l.strand.strand
