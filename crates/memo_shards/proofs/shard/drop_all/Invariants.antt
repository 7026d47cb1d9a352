use Rattle.std.proofs.Common.{length, vec_len, vec_capacity}
use Rattle.memo_shards.proofs.Freed.{IsFreed}
use Rattle.memo_shards.proofs.shard.drop_all.Given as goal

abbrev pub invariant-claims : goal.invariant-claims
invariant-claims g l = IsFreed l.initial.claims l.claims l.initial.journal.items l.journal.items (vec_len l.journal) (vec_capacity l.journal)

abbrev pub decreases-claims : goal.decreases-claims
decreases-claims g l = length l.claims
