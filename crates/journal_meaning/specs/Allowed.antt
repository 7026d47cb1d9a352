-- What the entries of a shard may name.
use Rattle.std.specs.Prelude.{◌≡◌, ⊤, ℕ, ◌≤◌}
use Rattle.valid_intervals.specs.declared.Point.{Point}
use Rattle.valid_intervals.specs.declared.SignalCell.{SignalCell}
use Rattle.circuit_meaning.specs.Circuit.{Circuit}
use Rattle.circuit_meaning.specs.Cells.{cell_at}
use Rattle.journal_meaning.specs.Batches.{Batch, IsNeededBy, OfQuery, shard_number}
use Rattle.journal_meaning.specs.declared.Entry.{Entry}
use Rattle.journal_meaning.specs.declared.Entry.TheVariants.{Told, Claimed, Filled, Evicted, Dropped, Spent}

-- the point belongs to the shard with this number, and its time is at most the horizon
abbrev pub IsAt : Batch → ℕ → Point → Type 0
IsAt b shard p = (shard_number p.signal b.shards ≡ shard) × (p.time ≤ b.circuit.horizon)

-- A stored cell is right if it is the cell of its signal at some time.
pub record IsRight (c : Circuit) (x : SignalCell) : Type 0 where
  pub time : ℕ
  pub within : time ≤ c.horizon
  pub cell : x.cell ≡ cell_at c (record { signal = x.signal; time = time })

-- what an entry of the shard may name
abbrev pub IsAllowed : Batch → ℕ → Entry → Type 0
IsAllowed b shard (Told q p x) = IsAt b shard p × OfQuery b q (λ y. IsNeededBy b y p) × (x ≡ cell_at b.circuit p)
IsAllowed b shard (Claimed q p) = IsAt b shard p × OfQuery b q (λ y. IsNeededBy b y p)
IsAllowed b shard (Filled q p x) = IsAt b shard p × OfQuery b q (λ y. ⊤) × (x ≡ cell_at b.circuit p)
IsAllowed b shard (Evicted signal start) = ⊤
IsAllowed b shard (Dropped q p) = IsAt b shard p × OfQuery b q (λ y. ⊤)
IsAllowed b shard (Spent q p claims) = IsAt b shard p × OfQuery b q (λ y. IsNeededBy b y p) × OfQuery b q (λ y. claims ≤ y.budget)
