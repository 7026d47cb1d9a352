-- Definitions for proofs and private functions, beside `Refusals`.
use Rattle.std.specs.Prelude.{◌≡◌, ℕ, false, true, List, slice_get, Option, Some, None, Result, Ok, Err}
use Rattle.texts.specs.declared.OutOfMemory.{OutOfMemory}
use Rattle.valid_intervals.specs.declared.Point.{Point}
use Rattle.valid_intervals.specs.declared.SignalCell.{SignalCell}
use Rattle.journal_meaning.specs.Batches.{Batch}
use Rattle.plan_machine.specs.declared.strand.Next.TheVariants.{Ask}
use Rattle.plan_machine.specs.Strands.{Strand, next, next_in}
use Rattle.valid_intervals.specs.Cells.{stored_at}
use Rattle.plan_machine.specs.Plans.{Plan, shard_of, claim_of}
use Rattle.plan_machine.specs.Alone.{plan_refusing}
use Rattle.demand_points.specs.Demands.{Demand}
use Rattle.memo_shards.specs.KeptShards.{KeptShard}
use Rattle.plan_core.specs.inner.Turns.{IsSeen}

-- Strand n is spent, and was refused the point.
pub record IsRefusedAt (plan : Plan) (n : ℕ) (p : Point) : Type 0 where
  pub strand : Strand
  pub at : slice_get plan.strands n ≡ Some strand
  pub awake : strand.waits ≡ false
  pub spent : strand.spent ≡ true
  pub asks : next_in false strand.roots strand.stack ≡ Ask p
  pub missed : stored_at (shard_of plan p).state.cells p ≡ None
  pub unclaimed : claim_of plan p ≡ None

-- what recording the refusal changes of the parts
abbrev pub OfRefusal : Batch → (ℕ → List SignalCell) → Plan → ℕ → Point → List (Option Demand) → List KeptShard → Result Unit OutOfMemory → Type 0
OfRefusal b opening plan n p places shards (Ok u) = (s : Strand) × ((slice_get plan.strands n ≡ Some s) × IsSeen b opening places shards (plan_refusing plan s (Ask p)))
OfRefusal b opening plan n p places shards (Err e) = IsSeen b opening places shards plan

-- strand n asks for the point
pub record AsksFor (plan : Plan) (n : ℕ) (p : Point) : Type 0 where
  pub strand : Strand
  pub at : slice_get plan.strands n ≡ Some strand
  pub awake : strand.waits ≡ false
  pub asks : next strand ≡ Ask p
