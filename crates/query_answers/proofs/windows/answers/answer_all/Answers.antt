use Rattle.std.proofs.Common.{◌<◌, ◌+◌, [], List, false, length, take, drop, refl, sym, subst, arith}
use Rattle.plan_core.specs.Parts.{shards_in}
use Rattle.circuit_meaning.specs.declared.Run.{Run}
use Rattle.reply_lines.specs.declared.reply.Outcome.{Outcome}
use Rattle.query_answers.specs.windows.inner.Phases.{IsWalking}
use Rattle.journal_meaning.specs.declared.batch.Query.{Query}
use Rattle.query_answers.proofs.Turns.{WalksTo, turn-next, turn-last}
use Rattle.query_answers.proofs.Phases.{walk-fed, walk-next, walk-last}
use Rattle.query_answers.proofs.windows.answers.answer_all.Goals as goal

pub loop-k-init : goal.loop-k-init
loop-k-init g c = record {
  walked = λ start first h. subst (λ (rs : List (Outcome (List Run))). IsWalking g.B.BatchName.batch start first (shards_in c.args.asking.now.memo) [] rs c.args.queries.now c.args.fed.now) (sym c.new-outcomes.ensures.items) h;
  asks = let ss = shards_in c.args.asking.now.memo in subst (λ (rs : List (Outcome (List Run))). WalksTo g.B.BatchName.batch g.B.BatchName.opening c.args.queries.now ss c.args.fed.now ss 0 rs) (sym c.new-outcomes.ensures.items) refl;
}

abbrev no_query : Query
no_query = record { number = 0; signal = 0; from = 0; to = 0; budget = 0 }

pub answer_one-requires-clause-counts : goal.answer_one-requires-clause-counts
answer_one-requires-clause-counts g c =
    let w = c.requires.fed in
    let n = c.requires.count in
    let high : c.loop-k.k < length c.args.fed.now = let t = c.loop-k-test.true in omega arith in
    (walk-fed g.B.BatchName.batch c.facts.ensures.lawful w.0 w.1.0 c.args.queries.now c.requires.queries c.loop-k.k c.loop-k-test.true _ c.args.fed.now high _ (shards_in c.loop-k.asking.memo) c.loop-k.outcomes.items (c.loop-k.invariant.walked w.0 w.1.0 w.1.1)).counts

pub loop-k-preserved : goal.loop-k-preserved
loop-k-preserved g c =
    let b = g.B.BatchName.batch in
    let now = c.loop-k.asking.memo in
    let new = c.answer_one.new.asking.memo in
    let qs = c.args.queries.now in
    let fs = c.args.fed.now in
    let k = c.loop-k.k in
    let n = c.requires.count in
    let high : k < length fs = let t = c.loop-k-test.true in omega arith in
    let r = c.in_ok-outcome.outcome in
    record {
      walked = λ start first h.
          let was = c.loop-k.invariant.walked start first h in
          let f = walk-fed b c.facts.ensures.lawful start first qs c.requires.queries k c.loop-k-test.true _ fs high _ (shards_in now) c.loop-k.outcomes.items was in
          subst (λ (rs : List (Outcome (List Run))). IsWalking b start first (shards_in new) (take (k + 1) qs) rs (drop (k + 1) qs) (drop (k + 1) fs)) (sym c.in_ok-push.ensures.items)
          (walk-next b c.facts.ensures.lawful start first qs c.requires.queries k c.loop-k-test.true _ fs high (record { charge = 0; refused = false }) g.B.BatchName.opening (shards_in now) (shards_in new) c.loop-k.outcomes.items r was (c.in_ok-outcome.ensures.settles start f) c.in_ok-outcome.ensures.outcome);
      asks = subst (λ (rs : List (Outcome (List Run))). WalksTo b g.B.BatchName.opening qs (shards_in c.args.asking.now.memo) fs (shards_in new) (k + 1) rs) (sym c.in_ok-push.ensures.items)
          (turn-next b g.B.BatchName.opening qs (shards_in c.args.asking.now.memo) fs (shards_in now) (shards_in new) k no_query (record { charge = 0; refused = false }) c.loop-k.outcomes.items r c.loop-k-test.true high c.loop-k.invariant.asks c.in_ok-outcome.ensures.asks);
    }

pub returns-clause-settled : goal.returns-clause-settled
returns-clause-settled g c = λ start first h.
    let t = c.loop-k-test.false in
    let n = c.requires.count in
    walk-last g.B.BatchName.batch c.facts.ensures.lawful start first c.args.queries.now c.requires.queries (shards_in c.loop-k.asking.memo) c.loop-k.k c.loop-k.outcomes.items c.args.fed.now (omega arith) (omega arith) (c.loop-k.invariant.walked start first h)

pub returns-clause-asks : goal.returns-clause-asks
returns-clause-asks g c =
    let t = c.loop-k-test.false in
    let n = c.requires.count in
    turn-last g.B.BatchName.batch g.B.BatchName.opening c.args.queries.now (shards_in c.args.asking.now.memo) c.args.fed.now (shards_in c.loop-k.asking.memo) c.loop-k.k c.loop-k.outcomes.items (omega arith) (omega arith) c.loop-k.invariant.asks
