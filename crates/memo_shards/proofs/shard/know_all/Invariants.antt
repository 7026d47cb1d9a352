use Rattle.std.proofs.Common.{take, All}
use Rattle.memo_shards.specs.KeptShards.{IsKnownShard}
use Rattle.memo_shards.proofs.shard.know_all.Given as goal

abbrev pub invariant-loop-shard : goal.invariant-loop-shard
invariant-loop-shard g l = All (IsKnownShard g.B.BatchName.batch g.B.BatchName.opening) (take l.shard-index l.shards)
