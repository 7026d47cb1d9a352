use Rattle.std.proofs.Common.{List, [], sym, ap, subst, arith}
use Rattle.journal_meaning.specs.declared.Entry.{Entry}
use Rattle.journal_meaning.specs.Lawful.{IsLawful}
use Rattle.session_meaning.specs.StuckSignals.{IsHeldJournal, IsStuckOutcome}
use Rattle.session_meaning.specs.declared.Verdict.TheVariants.{Ask}
use Rattle.reply_lines.specs.Replies.{is_budget}
use Rattle.plan_core.specs.Parts.{shards_in}
use Rattle.plan_core.specs.asked.Memos.{entries_of}
use Rattle.query_answers.specs.asking.inner.AskedMemos.{AskedMemo}
use Rattle.query_answers.specs.stuck.Asks.{AsksRoots}
use Rattle.query_answers.specs.stuck.inner.Both.{Rests, site_in}
use Rattle.memo_shards.specs.KeptShards.{KeptShard}
use Rattle.query_answers.proofs.Held.{held-lawful, ends-held}
use Rattle.query_answers.proofs.Resting.{rests-begin}
use Rattle.query_answers.proofs.stuck.wave.answer.Goals as goal

pub begin-requires-clause-lawful : goal.begin-requires-clause-lawful
begin-requires-clause-lawful g c =
    let asked = c.requires.asked in
    subst IsLawful (sym asked.own_is) (held-lawful g.B.BatchName.batch asked.lawful c.args.question.query asked.queries (site_in c.args.question))

pub returns-clause-held : goal.returns-clause-held
returns-clause-held g c =
    let circuit = g.B.BatchName.batch.circuit in
    let site = site_in c.args.question in
    let q = c.args.question.query in
    let left = c.in_ok-outcome.ensures in
    subst (λ (own : List Entry). IsHeldJournal circuit site q own) (sym c.end_batch-journal.ensures.journal)
    (ends-held circuit site q g.H.BatchName.batch g.H.BatchName.opening c.walk.new.memos.own c.requires.asked.own_is c.requires.opening c.facts.ensures left.number left.idle left.reached)

pub turn_to-requires : goal.turn_to-requires
turn_to-requires g c = rw c.requires.unused (omega arith)

pub walk-requires-clause-query : goal.walk-requires-clause-query
walk-requires-clause-query g c = ap (λ (a : AskedMemo). a.query) c.turn_to.ensures.turned

pub walk-requires-clause-rests : goal.walk-requires-clause-rests
walk-requires-clause-rests g c =
    subst (λ (a : AskedMemo). Rests g.B.BatchName.batch g.B.BatchName.opening c.args.question a.memo c.begin.result 0) (sym c.turn_to.ensures.turned)
    (rests-begin g.B.BatchName.batch g.B.BatchName.opening c.args.question c.args.session.memo c.begin.result c.in_ok-turn_to.ensures.free c.requires.unused
    (ap (λ (m : KeptShard). m.number) c.begin.ensures) (ap (λ (m : KeptShard). m.shard.journal) c.begin.ensures) (ap (λ (m : KeptShard). m.shard.state.claims) c.begin.ensures))

pub returns-clause-asks : goal.returns-clause-asks
returns-clause-asks g c =
    let b = g.B.BatchName.batch in
    let opening = g.B.BatchName.opening in
    let site = site_in c.args.question in
    let q = c.args.question.query in
    let first = shards_in c.args.session.memo in
    let refused = is_budget c.in_ok-outcome.outcome in
    let new = shards_in c.walk.new.memos.session.memo in
    let own = c.walk.new.memos.own.shard.journal in
    subst (λ (ms : List KeptShard). AsksRoots b opening site q first [] (shards_in ms) c.end_batch-journal.result.1.items refused) (sym c.in_ok-into_shards.ensures.shards)
    (subst (λ es. AsksRoots b opening site q first [] new es refused) (sym c.end_batch-journal.ensures.journal)
    (subst (λ es. AsksRoots b opening site q first es new own refused) (ap (λ (m : KeptShard). m.shard.journal) c.begin.ensures)
    (subst (λ (a : AskedMemo). AsksRoots b opening site q (shards_in a.memo) c.begin.result.shard.journal new own refused) c.turn_to.ensures.turned c.in_ok-outcome.ensures.asks)))

pub returns-clause-outcome : goal.returns-clause-outcome
returns-clause-outcome g c =
    let circuit = g.B.BatchName.batch.circuit in
    let site = site_in c.args.question in
    let ask = Ask c.args.question.query in
    let outcome = c.in_ok-outcome.outcome in
    subst (λ (ms : List KeptShard). IsStuckOutcome circuit site (entries_of ms) c.end_batch-journal.result.1.items ask outcome) (sym c.in_ok-into_shards.ensures.shards)
    (subst (λ (own : List Entry). IsStuckOutcome circuit site (entries_of c.walk.new.memos.session.memo) own ask outcome) (sym c.end_batch-journal.ensures.journal) c.in_ok-outcome.ensures.outcome)
