use Rattle.std.proofs.Common.{◌++◌, List, take, sym, ap, subst, ◌∙◌, arith}
use Rattle.std.proofs.lemmas.List.{take_all}
use Rattle.journal_meaning.specs.declared.Entry.{Entry}
use Rattle.memo_shards.specs.KeptShards.{KeptShard}
use Rattle.plan_core.specs.asked.Memos.{entries_of}
use Rattle.plan_core.proofs.Entries.{entries-item}
use Rattle.plan_core.specs.asked.FillCounts.{HasCounted}
use Rattle.plan_core.proofs.asked.fill_counts.FillCounts.gather.Goals as goal

pub loop-shard-preserved : goal.loop-shard-preserved
loop-shard-preserved g c =
    let ms = c.args.shards.now in
    let i = c.loop-shard.shard-index in
    let m = c.shard-item.result in
    let more = ap (λ (es : List Entry). entries_of (take i ms) ++ es) c.journal.ensures ∙ sym (entries-item ms i m c.loop-shard-test.true c.shard-item.is) in
    subst (λ (es : List Entry). HasCounted es c.note_all.new.self) more (c.in_ok-note_all.ensures (entries_of (take i ms)) c.loop-shard.invariant)

pub returns : goal.returns
returns g c = subst (λ (ms : List KeptShard). HasCounted (entries_of ms) c.loop-shard.counts) (take_all c.loop-shard.shard-index c.args.shards.now (let t = c.loop-shard-test.false in omega arith)) c.loop-shard.invariant
