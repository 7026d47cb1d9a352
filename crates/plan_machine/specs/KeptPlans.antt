-- A plan as code keeps it: places for the strands, and shards that hold the waiting ones.
use Rattle.std.specs.Prelude.{◌≡◌, ℕ, ◌≤◌, ◌<◌, if◌then◌else◌, List, [], ◌∷◌, ◌++◌, length, map, slice_index_or, Option}
use Rattle.std.specs.List.{AllByRecursion}
use Rattle.valid_intervals.specs.declared.Point.{Point}
use Rattle.valid_intervals.specs.Cells.{same_point}
use Rattle.journal_meaning.specs.Batches.{shard_number}
use Rattle.plan_machine.specs.Strands.{Strand}
use Rattle.plan_machine.specs.Shards.{Shard}
use Rattle.plan_machine.specs.Plans.{Plan, no_shard}
use Rattle.plan_machine.specs.Parts.{NumberedStrand, AreParts, strands_from}

-- a strand that waits at a point
pub record Parked : Type 0 where
  pub point : Point
  pub waiter : NumberedStrand

pub record WaitedShard : Type 0 where
  pub shard : Shard
  pub parked : List Parked

abbrev pub no_waited_shard : WaitedShard
no_waited_shard = record { shard = no_shard; parked = [] }

abbrev pub waiting_at : List Parked → Point → List NumberedStrand
waiting_at [] p = []
waiting_at (k ∷ ks) p = if same_point k.point p then k.waiter ∷ waiting_at ks p else waiting_at ks p

abbrev pub waited_shard_at : List WaitedShard → Point → WaitedShard
waited_shard_at memos p = slice_index_or memos (shard_number p.signal (length memos)) no_waited_shard

abbrev pub waiters : List WaitedShard → Point → List NumberedStrand
waiters memos p = waiting_at (waited_shard_at memos p).parked p

abbrev pub all_waiters : List WaitedShard → List NumberedStrand
all_waiters [] = []
all_waiters (m ∷ ms) = map (λ (k : Parked). k.waiter) m.parked ++ all_waiters ms

abbrev pub shards_of : List WaitedShard → List Shard
shards_of memos = map (λ (m : WaitedShard). m.shard) memos

-- the plan that is kept in these parts; blank stands for a missing strand
abbrev pub plan_of : Strand → List (Option Strand) → List WaitedShard → Plan
plan_of blank places memos = record { strands = strands_from (all_waiters memos) blank 0 places; shards = shards_of memos }

-- each strand is in its place or waits at its shard
pub record IsKeptPlan (places : List (Option Strand)) (memos : List WaitedShard) (xs : List Strand) : Type 0 where
  pub some : 1 ≤ length memos
  pub parts : AreParts places (waiters memos) xs
  pub homes : (n : ℕ) → n < length memos → AllByRecursion (λ (k : Parked). shard_number k.point.signal (length memos) ≡ n) (slice_index_or memos n no_waited_shard).parked
