-- What an ask comes to.
use Rattle.std.specs.Prelude.{◌≡◌, ◌<◌, if◌then◌else◌, [], ◌∷◌, ◌++◌, IsSome, Some, None, Result, Ok, Err}
use Rattle.texts.specs.declared.OutOfMemory.{OutOfMemory}
use Rattle.valid_intervals.specs.declared.Point.{Point}
use Rattle.valid_intervals.specs.declared.SignalCell.{SignalCell}
use Rattle.valid_intervals.specs.Cells.{same_point, stored_at}
use Rattle.journal_meaning.specs.declared.Entry.TheVariants as entry
use Rattle.journal_meaning.specs.States.{holder}
use Rattle.journal_meaning.specs.Batches.{Batch, shard_number}
use Rattle.plan_machine.specs.Strands.{after_answer, after_claim, given_up}
use Rattle.plan_machine.specs.Shards.{shard_with_entry}
use Rattle.demand_points.specs.Demands.{Demand, TakesStep}
use Rattle.memo_shards.specs.KeptShards.{KeptShard, waiting_at}

-- the point is one of the shard
abbrev pub IsHere : Batch → KeptShard → Point → Type 0
IsHere b m p = shard_number p.signal b.shards ≡ m.number

-- no stored cell covers the point, and it is not claimed
pub record IsUnfound (m : KeptShard) (p : Point) : Type 0 where
  pub missed : stored_at m.shard.state.cells p ≡ None
  pub unclaimed : holder m.shard.state.claims p ≡ None

-- a stored cell covers the point, and the strand hears it
pub record Tells (old new : KeptShard) (p : Point) (w s : Demand) : Type 0 where
  pub cell : SignalCell
  pub stored : stored_at old.shard.state.cells p ≡ Some cell
  pub strand : TakesStep after_answer w s
  pub shard : new ≡ record old { shard = shard_with_entry (entry.Told w.strand.query.number p cell.cell) old.shard }

-- the strand claims the point
pub record ClaimsIt (b : Batch) (old new : KeptShard) (p : Point) (w s : Demand) : Type 0 where
  pub unfound : IsUnfound old p
  pub within : w.strand.charged < w.strand.budget
  pub strand : TakesStep (λ x. after_claim b.circuit x p) w s
  pub shard : new ≡ record old { shard = shard_with_entry (entry.Claimed w.strand.query.number p) old.shard }

-- the strand waits, after those that wait already
pub record WaitsThere (old new : KeptShard) (p : Point) (w : Demand) : Type 0 where
  pub missed : stored_at old.shard.state.cells p ≡ None
  pub claimed : IsSome (holder old.shard.state.claims p)
  pub number : new.number ≡ old.number
  pub shard : new.shard ≡ old.shard
  pub waiting : (x : Point) → waiting_at new.waiting x ≡ (if same_point p x then waiting_at old.waiting p ++ w ∷ [] else waiting_at old.waiting x)

-- the strand is refused the point
pub record Refuses (old new : KeptShard) (p : Point) (w s : Demand) : Type 0 where
  pub unfound : IsUnfound old p
  pub spent : w.strand.charged ≡ w.strand.budget
  pub strand : TakesStep given_up w s
  pub shard : new ≡ old

-- the point is claimed, and nothing has changed
pub record IsTaken (old new : KeptShard) (p : Point) (w s : Demand) : Type 0 where
  pub missed : stored_at old.shard.state.cells p ≡ None
  pub claimed : IsSome (holder old.shard.state.claims p)
  pub strand : s ≡ w
  pub shard : new ≡ old

-- what came of it that a strand was to wait
abbrev pub OfPark : KeptShard → KeptShard → Point → Demand → Result Unit (Demand × OutOfMemory) → Type 0
OfPark old new p w (Ok u) = WaitsThere old new p w
OfPark old new p w (Err e) = (e.0 ≡ w) × (new ≡ old)
