-- Shards in order.
use Rattle.std.specs.Prelude.{◌≡◌, ℕ, ◌<◌, List, [], length, slice_index_or, All}
use Rattle.memo_shards.specs.KeptShards.{KeptShard}

-- the shard at each place has its number
abbrev pub AreNumbered : List KeptShard → Type 0
AreNumbered ms = (n : ℕ) (d : KeptShard) → n < length ms → (slice_index_or ms n d).number ≡ n

-- nothing is recorded in them yet, and so nothing is claimed
abbrev pub AreUnused : List KeptShard → Type 0
AreUnused ms = All (λ (m : KeptShard). m.shard.journal ≡ []) ms
