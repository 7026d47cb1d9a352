use Rattle.std.proofs.Common.{◌++◌, ◌∷◌, [], List, ℕ, length, ap, ap₂, sym, ◌∙◌, arith}
use Rattle.std.proofs.lemmas.List.{take_all}
use Rattle.memo_shards.specs.KeptShards.{KeptShard}
use Rattle.plan_core.specs.asked.inner.Tails.{lengths_of}
use Rattle.plan_core.proofs.AskedLists.{map-item}
use Rattle.plan_core.proofs.asked.memo.lengths.Goals as goal

pub loop-shard-preserved : goal.loop-shard-preserved
loop-shard-preserved g c =
    let xs = c.args.shards.now in
    let n = c.loop-shard.shard-index in
    c.in_ok-push.ensures.items ∙ ap₂ (λ (l : List ℕ) (m : ℕ). l ++ m ∷ []) c.loop-shard.invariant (ap length c.journal.ensures)
    ∙ sym (map-item (λ (m : KeptShard). length m.shard.journal) xs n c.shard-item.result c.loop-shard-test.true c.shard-item.is)

pub returns : goal.returns
returns g c = c.loop-shard.invariant ∙ ap lengths_of (take_all c.loop-shard.shard-index c.args.shards.now (let t = c.loop-shard-test.false in omega arith))
