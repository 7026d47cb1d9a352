use Rattle.std.proofs.Common.{◌≡◌, take}
use Rattle.plan_core.specs.asked.inner.Tails.{lengths_of}
use Rattle.plan_core.proofs.asked.memo.lengths.Given as goal

abbrev pub invariant-loop-shard : goal.invariant-loop-shard
invariant-loop-shard g l = l.lengths.items ≡ lengths_of (take l.shard-index l.shards)
