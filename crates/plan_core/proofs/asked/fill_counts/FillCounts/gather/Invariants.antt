use Rattle.std.proofs.Common.{take}
use Rattle.plan_core.specs.asked.Memos.{entries_of}
use Rattle.plan_core.specs.asked.FillCounts.{HasCounted}
use Rattle.plan_core.proofs.asked.fill_counts.FillCounts.gather.Given as goal

abbrev pub invariant-loop-shard : goal.invariant-loop-shard
invariant-loop-shard g l = HasCounted (entries_of (take l.shard-index l.shards)) l.counts
