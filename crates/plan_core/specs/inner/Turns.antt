-- What a turn changes of the parts of a plan.
use Rattle.std.specs.Prelude.{◌≡◌, ℕ, List, Option, Some, None, Result, Ok, Err}
use Rattle.texts.specs.declared.OutOfMemory.{OutOfMemory}
use Rattle.std.specs.Global.{Vec}
use Rattle.valid_intervals.specs.declared.SignalCell.{SignalCell}
use Rattle.journal_meaning.specs.Batches.{Batch}
use Rattle.plan_machine.specs.declared.strand.Next.TheVariants.{Ask, Fill, Drop}
use Rattle.plan_machine.specs.Strands.{next}
use Rattle.plan_machine.specs.Plans.{Plan}
use Rattle.plan_machine.specs.declared.Turned.{Turned}
use Rattle.plan_machine.specs.declared.Turned.TheVariants as comes
use Rattle.plan_machine.specs.Steps.{turn_outcome}
use Rattle.plan_machine.specs.Turns.{turn}
use Rattle.demand_points.specs.Demands.{Demand, TakesStep, itself}
use Rattle.memo_shards.specs.KeptShards.{KeptShard}
use Rattle.memo_shards.specs.Asks.{Tells, ClaimsIt, WaitsThere, Refuses}
use Rattle.memo_shards.specs.Ends.{FillsIt, DropsIt}
use Rattle.memo_shards.specs.Steps.{At}
use Rattle.plan_core.specs.inner.Parts.{plan_at, IsPlan}

-- The result of a step at a shard: the turn, who came out of a claim that it ended, and the strand unless it waits.
abbrev pub OfPlaceStep : Batch → KeptShard → KeptShard → Demand → Result (Turned × Option (Vec Demand)) OutOfMemory → Option Demand → Type 0
OfPlaceStep b old new w (Ok (comes.Told, None)) (Some s) = At Ask (next w.strand) (λ p. Tells old new p w s)
OfPlaceStep b old new w (Ok (comes.Claimed, None)) (Some s) = At Ask (next w.strand) (λ p. ClaimsIt b old new p w s)
OfPlaceStep b old new w (Ok (comes.Waits, None)) None = At Ask (next w.strand) (λ p. WaitsThere old new p w)
OfPlaceStep b old new w (Ok (comes.Spent, None)) (Some s) = At Ask (next w.strand) (λ p. Refuses old new p w s)
OfPlaceStep b old new w (Ok (comes.Filled, Some woken)) (Some s) = At Fill (next w.strand) (λ p. FillsIt b old new p w s woken.items)
OfPlaceStep b old new w (Ok (comes.Dropped, Some woken)) (Some s) = At Drop (next w.strand) (λ p. DropsIt old new p w s woken.items)
OfPlaceStep b old new w (Err e) (Some s) = TakesStep itself w s × (new ≡ old)
OfPlaceStep b old new w came back = ⊥

-- these are the parts of the plan
pub record IsSeen (b : Batch) (opening : ℕ → List SignalCell) (places : List (Option Demand)) (shards : List KeptShard) (plan : Plan) : Type 0 where
  pub parts : IsPlan b opening places shards
  pub same : plan_at places shards ≡ plan

-- what a turn of strand n changes of the parts
abbrev pub OfTurn : Batch → (ℕ → List SignalCell) → Plan → ℕ → List (Option Demand) → List KeptShard → Result Turned OutOfMemory → Type 0
OfTurn b opening plan n places shards (Ok t) = IsSeen b opening places shards (turn b plan n) × (t ≡ turn_outcome plan n)
OfTurn b opening plan n places shards (Err e) = IsSeen b opening places shards plan
