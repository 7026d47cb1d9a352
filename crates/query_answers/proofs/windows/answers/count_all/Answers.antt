use Rattle.std.proofs.Common.{◌≡◌, ◌+◌, [], List, false, min, get_or, take, drop, refl, sym, subst, ◌∙◌, arith}
use Rattle.std.specs.Option.{ForSome}
use Rattle.journal_meaning.specs.declared.batch.Query.{Query}
use Rattle.journal_meaning.specs.Answers.{fill_count}
use Rattle.plan_machine.specs.Settle.{charge_of}
use Rattle.plan_core.specs.Parts.{shards_in}
use Rattle.plan_core.specs.asked.Asked.{Nothing}
use Rattle.memo_shards.specs.KeptShards.{KeptShard}
use Rattle.plan_core.specs.declared.asked.fill_counts.FillCounts.{FillCounts}
use Rattle.plan_core.specs.asked.FillCounts.{HaveCounted}
use Rattle.plan_core.specs.asked.Memos.{entries_of}
use Rattle.query_answers.specs.declared.windows.answers.Fed.{Fed}
use Rattle.query_answers.specs.windows.inner.Phases.{IsFeeding}
use Rattle.query_answers.proofs.Phases.{fed-first, fed-open, fed-next, fed-last, feeds-heard, fed-known}
use Rattle.query_answers.proofs.Turns.{VisitsTo, visit-next, visit-last}
use Rattle.query_answers.proofs.windows.answers.count_all.Goals as goal

pub loop-q-init : goal.loop-q-init
loop-q-init g c =
    let b = g.B.BatchName.batch in
    let ms = c.args.asking.now.memo in
    record {
      fed = subst (λ (fs : List Fed). IsFeeding b (entries_of ms) (shards_in ms) (shards_in ms) [] fs c.args.queries.now) (sym c.new-fed.ensures.items) (fed-first b (shards_in ms) c.args.queries.now);
      asks = subst (λ (fs : List Fed). VisitsTo b g.B.BatchName.opening c.args.queries.now (shards_in ms) (shards_in ms) 0 fs) (sym c.new-fed.ensures.items) refl;
    }

pub counts_or_new-requires : goal.counts_or_new-requires
counts_or_new-requires g c = subst (λ (ms : List KeptShard). ForSome c.args.fills (λ fills. HaveCounted (entries_of ms) fills.items)) (sym c.in_ok-shards.ensures.shards) c.requires.fills

abbrev no_query : Query
no_query = record { number = 0; signal = 0; from = 0; to = 0; budget = 0 }

pub loop-q-preserved : goal.loop-q-preserved
loop-q-preserved g c =
    let b = g.B.BatchName.batch in
    let opening = g.B.BatchName.opening in
    let ms = c.args.asking.now.memo in
    let ss = shards_in ms in
    let qs = c.args.queries.now in
    let i = c.loop-q.q-index in
    let low = c.loop-q-test.true in
    let q = get_or qs i no_query in
    let f : Fed = record { charge = c.charge_counted-charge.result; refused = false } in
    let known : HaveCounted (entries_of ms) c.deref.result.now = subst (λ (parts : List FillCounts). HaveCounted (entries_of ms) parts) (sym c.deref.ensures.value) (subst (λ (l : List KeptShard). HaveCounted (entries_of l) c.in_ok-fills.fills.items) c.in_ok-shards.ensures.shards c.in_ok-fills.ensures) in
    let fills : c.filled_by.result ≡ min (fill_count (entries_of ms) q.number) 4294967295 = c.filled_by.ensures ∙ known q.number in
    let counts : f.charge ≡ charge_of (entries_of ms) q = c.charge_counted-charge.ensures (fill_count (entries_of ms) q.number) fills in
    let o = fed-open b c.facts.ensures.lawful (entries_of ms) ss qs c.requires.queries i low no_query ss c.loop-q.fed.items c.loop-q.invariant.fed in
    let k = feeds-heard b c.facts.ensures.lawful opening q (fed-known b c.facts.ensures.lawful (entries_of ms) ss qs c.requires.queries i low no_query) ms f c.in_ok-shards.ensures.free.fresh c.requires.heard refl counts o in
    record {
      fed = subst (λ (fs : List Fed). IsFeeding b (entries_of ms) ss ss (take (i + 1) qs) fs (drop (i + 1) qs)) (sym c.in_ok-push.ensures.items)
          (fed-next b c.facts.ensures.lawful (entries_of ms) ss qs c.requires.queries i low no_query ss ss c.loop-q.fed.items f c.loop-q.invariant.fed k);
      asks = subst (λ (fs : List Fed). VisitsTo b opening qs ss ss (i + 1) fs) (sym c.in_ok-push.ensures.items)
          (visit-next b opening qs ss ss ss i no_query c.loop-q.fed.items f low c.loop-q.invariant.asks Nothing);
    }

pub returns-clause-fed : goal.returns-clause-fed
returns-clause-fed g c =
    let ms = c.args.asking.now.memo in
    fed-last g.B.BatchName.batch c.facts.ensures.lawful (entries_of ms) (shards_in ms) c.args.queries.now c.requires.queries (shards_in ms) c.loop-q.q-index c.loop-q.fed.items (let t = c.loop-q-test.false in omega arith) c.loop-q.invariant.fed

pub returns-clause-asks : goal.returns-clause-asks
returns-clause-asks g c =
    let b = g.B.BatchName.batch in
    let ss = shards_in c.args.asking.now.memo in
    visit-last b g.B.BatchName.opening c.args.queries.now ss ss c.loop-q.q-index c.loop-q.fed.items (let t = c.loop-q-test.false in omega arith) c.loop-q.invariant.asks
