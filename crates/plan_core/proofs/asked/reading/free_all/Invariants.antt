use Rattle.std.proofs.Common.{◌≡◌, ℕ, ◌<◌, ◌≤◌, length, get_or}
use Rattle.memo_shards.specs.KeptShards.{KeptShard}
use Rattle.memo_shards.specs.Ends.{FreesAll}
use Rattle.plan_core.proofs.asked.reading.free_all.Given as goal

abbrev pub invariant-loop-k : goal.invariant-loop-k
invariant-loop-k g l = record {
  count : length l.shards.items ≡ length l.initial.shards.items;
  freed : (n : ℕ) (d : KeptShard) → n < l.k → FreesAll (get_or l.initial.shards.items n d) (get_or l.shards.items n d);
  rest : (n : ℕ) (d : KeptShard) → l.k ≤ n → get_or l.shards.items n d ≡ get_or l.initial.shards.items n d;
}
