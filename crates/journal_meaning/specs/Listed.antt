-- The entries in the lists of shards: for whom they are, where they belong, and whether their cells are right.
use Rattle.std.specs.Prelude.{◌≡◌, ◌≢◌, ◌++◌, ◌+◌, ◌<◌, ◌≤◌, ◌⊎◌, ℕ, List, [], length, slice_index_or}
use Rattle.std.specs.List.{AllByRecursion}
use Rattle.journal_meaning.specs.declared.Entry.{Entry}
use Rattle.journal_meaning.specs.declared.Entry.TheVariants.{Told, Claimed, Filled, Evicted, Dropped, Spent}
use Rattle.journal_meaning.specs.Answers.{IsCovered}
use Rattle.circuit_meaning.specs.Cells.{cell_at}
use Rattle.circuit_meaning.specs.Circuit.{Circuit}
use Rattle.journal_meaning.specs.Batches.{shard_number}

-- the entry is for another query, or for none
abbrev pub IsForOther : ℕ → Entry → Type 0
IsForOther q (Told r p x) = r ≢ q
IsForOther q (Claimed r p) = r ≢ q
IsForOther q (Filled r p x) = r ≢ q
IsForOther q (Evicted signal start) = Unit {0}
IsForOther q (Dropped r p) = r ≢ q
IsForOther q (Spent r p claims) = r ≢ q

-- the point that the entry names belongs to shard k of so many shards
abbrev pub IsHome : ℕ → ℕ → Entry → Type 0
IsHome shards k (Told q p x) = shard_number p.signal shards ≡ k
IsHome shards k (Claimed q p) = shard_number p.signal shards ≡ k
IsHome shards k (Filled q p x) = shard_number p.signal shards ≡ k
IsHome shards k (Evicted signal start) = Unit {0}
IsHome shards k (Dropped q p) = shard_number p.signal shards ≡ k
IsHome shards k (Spent q p claims) = shard_number p.signal shards ≡ k

-- each entry is in the list of the shard of its point
pub record AreHome (lists : List (List Entry)) : Type 0 where
  pub home : (k : ℕ) → k < length lists → AllByRecursion (IsHome (length lists) k) (slice_index_or lists k [])

-- the cell that an entry says is that of its point, and the point is within the horizon
abbrev pub IsRightEntry : Circuit → Entry → Type 0
IsRightEntry c (Told q p x) = (p.time ≤ c.horizon) × (x ≡ cell_at c p)
IsRightEntry c (Claimed q p) = Unit {0}
IsRightEntry c (Filled q p x) = (p.time ≤ c.horizon) × (x ≡ cell_at c p)
IsRightEntry c (Evicted signal start) = Unit {0}
IsRightEntry c (Dropped q p) = Unit {0}
IsRightEntry c (Spent q p claims) = Unit {0}

-- the signal is covered at all times of a half-open interval
abbrev pub AreTimesCovered : Circuit → List Entry → ℕ → ℕ → ℕ → Type 0
AreTimesCovered c es s from u = (t : ℕ) → from ≤ t → t < u → IsCovered c es (record { signal = s; time = t })
