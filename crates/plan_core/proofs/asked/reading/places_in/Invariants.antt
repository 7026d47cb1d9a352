use Rattle.std.proofs.Common.{◌≡◌, ◌<◌, ℕ, length, get_or}
use Rattle.memo_shards.specs.KeptShards.{KeptShard}
use Rattle.plan_core.specs.declared.asked.places.Places.{Places}
use Rattle.plan_core.specs.asked.inner.Places.{ArePlaces}
use Rattle.plan_core.proofs.asked.reading.places_in.Given as goal

abbrev pub invariant-loop-shard : goal.invariant-loop-shard
invariant-loop-shard g l = record {
  count : length l.places.items ≡ l.shard-index;
  each : (n : ℕ) (m : KeptShard) (t : Places) → n < l.shard-index → ArePlaces (get_or l.shards n m).shard.journal l.wanted (get_or l.places.items n t).last.items (get_or l.places.items n t).noted.items;
}
