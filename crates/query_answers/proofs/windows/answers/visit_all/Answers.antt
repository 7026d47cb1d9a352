use Rattle.std.proofs.Common.{◌≡◌, ◌+◌, [], List, get_or, take, drop, refl, sym, ap, subst, ◌∙◌, arith}
use Rattle.journal_meaning.specs.declared.batch.Query.{Query}
use Rattle.plan_machine.specs.Settling.{fills_of}
use Rattle.plan_core.specs.Parts.{shards_in}
use Rattle.query_answers.specs.declared.windows.answers.Fed.{Fed}
use Rattle.plan_core.specs.asked.Memos.{entries_of}
use Rattle.query_answers.specs.windows.inner.Phases.{IsFeeding}
use Rattle.query_answers.proofs.Turns.{VisitsTo, visit-next, visit-last}
use Rattle.query_answers.proofs.Phases.{fed-first, fed-open, fed-needed, fed-count, fed-next, fed-last}
use Rattle.query_answers.proofs.windows.answers.visit_all.Goals as goal

pub loop-q-init : goal.loop-q-init
loop-q-init g c =
    let b = g.B.BatchName.batch in
    let ms = c.args.asking.now.memo in
    record {
      fed = subst (λ (fs : List Fed). IsFeeding b (entries_of ms) (shards_in ms) (shards_in ms) [] fs c.args.queries.now) (sym c.new-fed.ensures.items) (fed-first b (shards_in ms) c.args.queries.now);
      asks = subst (λ (fs : List Fed). VisitsTo b g.B.BatchName.opening c.args.queries.now (shards_in ms) (shards_in ms) 0 fs) (sym c.new-fed.ensures.items) refl;
    }

abbrev no_query : Query
no_query = record { number = 0; signal = 0; from = 0; to = 0; budget = 0 }

pub feed_one-requires-clause-needed : goal.feed_one-requires-clause-needed
feed_one-requires-clause-needed g c =
    let b = g.B.BatchName.batch in
    let first = c.args.asking.now.memo in
    let qs = c.args.queries.now in
    let i = c.loop-q.q-index in
    let q = get_or qs i no_query in
    let points : c.of.result.now ≡ fills_of (entries_of first) q.number = c.of.ensures ∙ c.in_ok-gathered.ensures q.number ∙ ap (λ l. fills_of (entries_of l) q.number) c.in_ok-shards.ensures.shards in
    fed-needed b c.facts.ensures.lawful (entries_of first) (shards_in first) qs c.requires.queries i c.loop-q-test.true no_query c.of.result.now points g.B.BatchName.opening c.in_ok-shards.ensures.free.fresh refl

pub feed_one-requires-clause-counts : goal.feed_one-requires-clause-counts
feed_one-requires-clause-counts g c =
    let b = g.B.BatchName.batch in
    let first = c.args.asking.now.memo in
    let qs = c.args.queries.now in
    let i = c.loop-q.q-index in
    let q = get_or qs i no_query in
    let points : c.of.result.now ≡ fills_of (entries_of first) q.number = c.of.ensures ∙ c.in_ok-gathered.ensures q.number ∙ ap (λ l. fills_of (entries_of l) q.number) c.in_ok-shards.ensures.shards in
    fed-count b c.facts.ensures.lawful (entries_of first) (shards_in first) qs c.requires.queries i c.loop-q-test.true no_query c.of.result.now points (shards_in c.loop-q.asking.memo) c.loop-q.fed.items c.loop-q.invariant.fed

pub loop-q-preserved : goal.loop-q-preserved
loop-q-preserved g c =
    let b = g.B.BatchName.batch in
    let first = c.args.asking.now.memo in
    let now = c.loop-q.asking.memo in
    let new = c.feed_one.new.asking.memo in
    let qs = c.args.queries.now in
    let i = c.loop-q.q-index in
    let q = get_or qs i no_query in
    let f = c.in_ok-one.one in
    let points : c.of.result.now ≡ fills_of (entries_of first) q.number = c.of.ensures ∙ c.in_ok-gathered.ensures q.number ∙ ap (λ l. fills_of (entries_of l) q.number) c.in_ok-shards.ensures.shards in
    let o = fed-open b c.facts.ensures.lawful (entries_of first) (shards_in first) qs c.requires.queries i c.loop-q-test.true no_query (shards_in now) c.loop-q.fed.items c.loop-q.invariant.fed in
    let k = c.in_ok-one.ensures.feeds (entries_of first) o points in
    record {
      fed = subst (λ (fs : List Fed). IsFeeding b (entries_of first) (shards_in first) (shards_in new) (take (i + 1) qs) fs (drop (i + 1) qs)) (sym c.in_ok-push.ensures.items)
          (fed-next b c.facts.ensures.lawful (entries_of first) (shards_in first) qs c.requires.queries i c.loop-q-test.true no_query (shards_in now) (shards_in new) c.loop-q.fed.items f c.loop-q.invariant.fed k);
      asks = subst (λ (fs : List Fed). VisitsTo b g.B.BatchName.opening qs (shards_in first) (shards_in new) (i + 1) fs) (sym c.in_ok-push.ensures.items)
          (visit-next b g.B.BatchName.opening qs (shards_in first) (shards_in now) (shards_in new) i no_query c.loop-q.fed.items f c.loop-q-test.true c.loop-q.invariant.asks c.in_ok-one.ensures.asks);
    }

pub returns-clause-fed : goal.returns-clause-fed
returns-clause-fed g c =
    let first = c.args.asking.now.memo in
    fed-last g.B.BatchName.batch c.facts.ensures.lawful (entries_of first) (shards_in first) c.args.queries.now c.requires.queries (shards_in c.loop-q.asking.memo) c.loop-q.q-index c.loop-q.fed.items (let t = c.loop-q-test.false in omega arith) c.loop-q.invariant.fed

pub returns-clause-asks : goal.returns-clause-asks
returns-clause-asks g c =
    let b = g.B.BatchName.batch in
    visit-last b g.B.BatchName.opening c.args.queries.now (shards_in c.args.asking.now.memo) (shards_in c.loop-q.asking.memo) c.loop-q.q-index c.loop-q.fed.items (let t = c.loop-q-test.false in omega arith) c.loop-q.invariant.asks
