use Rattle.std.proofs.Common.{All, subst}
use Rattle.std.proofs.lemmas.List.{take_all}
use Rattle.std.proofs.lemmas.List.Elements.{All-more}
use Rattle.memo_shards.specs.KeptShards.{IsKnownShard}
use Rattle.memo_shards.proofs.shard.know_all.Goals as goal

pub loop-shard-preserved : goal.loop-shard-preserved
loop-shard-preserved g c =
    let P = IsKnownShard g.B.BatchName.batch g.B.BatchName.opening in
    All-more P c.args.shards.now c.loop-shard.shard-index c.shard-item.result c.loop-shard-test.true c.loop-shard.invariant (subst P c.shard-item.is c.facts.ensures)

pub returns : goal.returns
returns g c =
    let P = IsKnownShard g.B.BatchName.batch g.B.BatchName.opening in
    subst (All P) (take_all c.loop-shard.shard-index c.args.shards.now c.loop-shard-test.false) c.loop-shard.invariant
