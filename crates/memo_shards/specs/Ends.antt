-- How claims end.
use Rattle.std.specs.Prelude.{◌≡◌, if◌then◌else◌, List, [], ◌∷◌, map}
use Rattle.std.specs.List.{AllZip}
use Rattle.std.specs.List.Sorted.{IsStrictlySortedBy}
use Rattle.valid_intervals.specs.declared.Point.{Point}
use Rattle.valid_intervals.specs.Cells.{same_point, point_cmp}
use Rattle.journal_meaning.specs.declared.Entry.{Entry}
use Rattle.journal_meaning.specs.declared.Entry.TheVariants as entry
use Rattle.journal_meaning.specs.States as states
use Rattle.journal_meaning.specs.States.{holder}
use Rattle.journal_meaning.specs.Batches.{Batch}
use Rattle.circuit_meaning.specs.Cells.{cell_at}
use Rattle.plan_machine.specs.Strands.{after_answer, after_fill, after_drop}
use Rattle.plan_machine.specs.Shards.{Shard, shard_with_entry, filled_shard}
use Rattle.demand_points.specs.Demands.{Demand, TakesStep}
use Rattle.memo_shards.specs.KeptShards.{KeptShard, waiting_at}

-- the same shard with another state and journal
abbrev pub with_shard : KeptShard → Shard → KeptShard
with_shard m h = record m { shard = h }

-- nobody waits at the point any more, and elsewhere as before
abbrev pub LeavesNone : KeptShard → KeptShard → Point → Type 0
LeavesNone old new p = (x : Point) → waiting_at new.waiting x ≡ (if same_point p x then [] else waiting_at old.waiting x)

-- the point is filled: the strand has finished it, and those that waited come out and have heard its cell
pub record FillsIt (b : Batch) (old new : KeptShard) (p : Point) (w s : Demand) (woken : List Demand) : Type 0 where
  pub strand : TakesStep after_fill w s
  pub hears : AllZip (TakesStep after_answer) (waiting_at old.waiting p) woken
  pub number : new.number ≡ old.number
  pub shard : new.shard ≡ filled_shard b.capacity w.strand.query.number p (cell_at b.circuit p) old.shard
  pub waiting : LeavesNone old new p

-- the claim is given up, and those that waited come out as they were
pub record DropsIt (old new : KeptShard) (p : Point) (w s : Demand) (woken : List Demand) : Type 0 where
  pub strand : TakesStep after_drop w s
  pub same : woken ≡ waiting_at old.waiting p
  pub number : new.number ≡ old.number
  pub shard : new.shard ≡ shard_with_entry (entry.Dropped w.strand.query.number p) old.shard
  pub waiting : LeavesNone old new p

-- several entries
abbrev pub recorded_all : List Entry → Shard → Shard
recorded_all [] h = h
recorded_all (e ∷ es) h = recorded_all es (shard_with_entry e h)

-- Every claim is given up, by signal and then by time, and nobody waits.
pub record FreesAll (old new : KeptShard) : Type 0 where
  pub claims : List states.Claim
  pub order : IsStrictlySortedBy point_cmp (map (λ c. c.point) claims)
  pub all : (p : Point) → holder claims p ≡ holder old.shard.state.claims p
  pub number : new.number ≡ old.number
  pub shard : new.shard ≡ recorded_all (map (λ c. entry.Dropped c.query c.point) claims) old.shard
  pub free : new.shard.state.claims ≡ []
  pub waiting : new.waiting ≡ []
