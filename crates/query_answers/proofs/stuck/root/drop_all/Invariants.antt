use Rattle.std.proofs.Common.{◌≡◌, length}
use Rattle.query_answers.specs.stuck.Asks.{RefusedBy}
use Rattle.query_answers.specs.stuck.inner.Both.{GivesUp, Extends}
use Rattle.query_answers.proofs.stuck.root.drop_all.Given as goal

abbrev pub invariant-claims : goal.invariant-claims
invariant-claims g l = record {
  gives_up : (who : RefusedBy) × GivesUp g.B.BatchName.batch l.fn.question l.fn.time l.memos.session.memo l.memos.own l.strand who;
  goes : (who : RefusedBy) → GivesUp g.B.BatchName.batch l.fn.question l.fn.time l.initial.memos.session.memo l.initial.memos.own l.initial.strand who
      → GivesUp g.B.BatchName.batch l.fn.question l.fn.time l.memos.session.memo l.memos.own l.strand who;
  extends : Extends l.initial.memos.own.shard.journal l.memos.own.shard.journal;
  session : l.memos.session ≡ l.initial.memos.session;
}

abbrev pub decreases-claims : goal.decreases-claims
decreases-claims g l = length l.strand.strand.stack
