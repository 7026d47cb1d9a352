use Rattle.std.proofs.Common.{◌≡◌, ◌-◌, false}
use Rattle.session_meaning.specs.FirstTimes.{up_to_first}
use Rattle.plan_core.specs.Parts.{shards_in}
use Rattle.plan_core.specs.asked.Asked.{AsksOn}
use Rattle.query_answers.proofs.Walks.{IsWalking}
use Rattle.query_answers.proofs.first_times.firsts.walk.Given as goal

abbrev pub invariant-cells : goal.invariant-cells
invariant-cells g l = record {
  query : l.asking.query ≡ l.query;
  walking : IsWalking g.B.BatchName.batch g.B.BatchName.opening l.query l.value l.fn.asking.memo l.asking.memo l.time;
  asks : AsksOn g.B.BatchName.batch g.B.BatchName.opening (up_to_first g.B.BatchName.batch.circuit l.query l.value) (shards_in l.fn.asking.memo) false (shards_in l.asking.memo) false;
}

abbrev pub decreases-cells : goal.decreases-cells
decreases-cells g l = l.query.to - l.time
