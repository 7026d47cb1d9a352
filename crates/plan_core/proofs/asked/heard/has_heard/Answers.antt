use Rattle.std.proofs.Common.{◌≡◌, ◌∙◌, List, All, Contains, take, true, subst, sym}
use Rattle.std.proofs.lemmas.List.{get_or_default, take_all}
use Rattle.std.proofs.lemmas.List.Elements.{All-push}
use Rattle.std.proofs.lemmas.Option.{get_or_from_slice_get}
use Rattle.journal_meaning.specs.declared.Entry.{Entry}
use Rattle.design.proofs.Callers.{taken-at}
use Rattle.memo_shards.specs.KeptShards.{KeptShard}
use Rattle.plan_core.specs.asked.Heard.{IsHeard}
use Rattle.plan_core.specs.asked.Memos.{entries_of}
use Rattle.plan_core.proofs.Exact.{entries-contain}
use Rattle.plan_core.proofs.asked.heard.has_heard.Goals as goal

pub is_heard-requires-clause-entry : goal.is_heard-requires-clause-entry
is_heard-requires-clause-entry g c =
    let m = c.index-shards-number.result in
    let e = c.entry-item.result in
    let said : Contains c.journal-journal.result.now e = (c.loop-entry.entry-index, c.loop-entry-test.true, sym c.entry-item.is) in
    let here : Contains m.shard.journal e = subst (λ (l : List Entry). Contains l e) c.journal-journal.ensures said in
    entries-contain c.args.shards.now c.args.number m e c.requires.number (subst (λ (s : KeptShard). Contains s.shard.journal e) c.index-shards-number.is here)

pub loop-entry-preserved : goal.loop-entry-preserved
loop-entry-preserved g c =
    let P : Entry → Type 0 = IsHeard g.B.BatchName.batch.circuit (entries_of c.args.shards.now) in
    let journal = c.journal-journal.result.now in
    let i = c.loop-entry.entry-index in
    let e = c.entry-item.result in
    let heard : c.is_heard.result ≡ true = c.if-not-is_heard.false in
    subst (All P) (taken-at journal i e c.loop-entry-test.true c.entry-item.is) (All-push P (take i journal) e c.loop-entry.invariant (c.is_heard.ensures heard))

pub returns : goal.returns
returns g c = λ same m at.
    let ms = c.args.shards.now in
    let here = c.index-shards-number.result in
    let P : Entry → Type 0 = IsHeard g.B.BatchName.batch.circuit (entries_of ms) in
    let is : here ≡ m = c.index-shards-number.is ∙ get_or_default ms c.args.number here m c.requires.number ∙ get_or_from_slice_get ms c.args.number m m at in
    let all = subst (All P) (take_all c.loop-entry.entry-index c.journal-journal.result.now c.loop-entry-test.false) c.loop-entry.invariant in
    subst (λ (s : KeptShard). All P s.shard.journal) is (subst (All P) c.journal-journal.ensures all)
