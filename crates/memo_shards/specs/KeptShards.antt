-- A shard in hand: what contracts see of it.
use Rattle.std.specs.Prelude.{◌≡◌, ℕ, ◌<◌, if◌then◌else◌, List, [], ◌∷◌, IsSome}
use Rattle.std.specs.List.{AllByRecursion}
use Rattle.valid_intervals.specs.declared.Point.{Point}
use Rattle.valid_intervals.specs.declared.SignalCell.{SignalCell}
use Rattle.valid_intervals.specs.Cells.{same_point}
use Rattle.journal_meaning.specs.declared.Entry.{Entry}
use Rattle.journal_meaning.specs.States.{fresh, holder}
use Rattle.journal_meaning.specs.Batches.{Batch}
use Rattle.journal_meaning.specs.Allowed.{IsAt}
use Rattle.journal_meaning.specs.Replay.{replay}
use Rattle.journal_meaning.specs.Lawful.{IsLawful}
use Rattle.plan_machine.specs.Strands.{next}
use Rattle.plan_machine.specs.declared.strand.Next.TheVariants.{Ask}
use Rattle.plan_machine.specs.Shards.{Shard, IsShard}
use Rattle.demand_points.specs.Demands.{Demand}

-- a strand that waits, and the point for which it waits
pub record Waiting : Type 0 where
  pub point : Point
  pub strand : Demand

-- its number, its state and journal, and who waits
pub record KeptShard : Type 0 where
  pub number : ℕ
  pub shard : Shard
  pub waiting : List Waiting

-- a shard with this journal, which held these cells before
abbrev pub shard_at : List SignalCell → List Entry → Shard
shard_at opening es = record { state = replay (fresh opening) es; journal = es }

-- the strands that wait at a point, in the order in which they came
abbrev pub waiting_at : List Waiting → Point → List Demand
waiting_at [] p = []
waiting_at (w ∷ ws) p = if same_point w.point p then w.strand ∷ waiting_at ws p else waiting_at ws p

-- The strand's next step is to ask for the point, which is one of the shard, and claimed.
pub record IsWaiting (b : Batch) (m : KeptShard) (w : Waiting) : Type 0 where
  pub asks : next w.strand.strand ≡ Ask w.point
  pub here : IsAt b m.number w.point
  pub claimed : IsSome (holder m.shard.state.claims w.point)

-- what is known of every shard
pub record IsKnownShard (b : Batch) (opening : ℕ → List SignalCell) (m : KeptShard) : Type 0 where
  pub lawful : IsLawful b
  pub number : m.number < b.shards
  pub shard : IsShard b m.number (opening m.number) m.shard
  pub waiting : AllByRecursion (IsWaiting b m) m.waiting
