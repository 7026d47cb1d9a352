-- A step of a strand at the shard of its point, and what it comes to.
use Rattle.std.specs.Prelude.{◌≡◌, ◌≢◌, Some, Result, Ok, Err}
use Rattle.texts.specs.declared.OutOfMemory.{OutOfMemory}
use Rattle.valid_intervals.specs.declared.Point.{Point}
use Rattle.journal_meaning.specs.States.{holder}
use Rattle.journal_meaning.specs.Batches.{Batch}
use Rattle.plan_machine.specs.declared.strand.Next.{Next}
use Rattle.plan_machine.specs.declared.strand.Next.TheVariants.{Ask, Fill, Drop, Done}
use Rattle.demand_points.specs.Demands.{Demand}
use Rattle.memo_shards.specs.declared.steps.Step.{Step}
use Rattle.memo_shards.specs.declared.steps.Step.TheVariants.{Heard, Holds, Taken, Refused, Filled, Dropped}
use Rattle.memo_shards.specs.KeptShards.{KeptShard}
use Rattle.memo_shards.specs.Asks.{IsHere, Tells, ClaimsIt, IsTaken, Refuses}
use Rattle.memo_shards.specs.Ends.{FillsIt, DropsIt}

-- the point of a step; at the end there is none, and any will do
abbrev pub step_point : Next → Point
step_point (Ask p) = p
step_point (Fill p) = p
step_point (Drop p) = p
step_point Done = record { signal = 0; time = 0 }

-- the shard has the point, and where the step ends a claim, the claim for the strand's query
abbrev pub MayStep : Batch → KeptShard → Next → Demand → Type 0
MayStep b m (Ask p) s = IsHere b m p
MayStep b m (Fill p) s = holder m.shard.state.claims p ≡ Some s.strand.query.number
MayStep b m (Drop p) s = holder m.shard.state.claims p ≡ Some s.strand.query.number
MayStep b m Done s = ⊥

-- the step is of this kind, and this holds of its point
abbrev pub At : (Point → Next) → Next → (Point → Type 0) → Type 0
At kind next P = (next ≡ kind (step_point next)) × P (step_point next)

-- What came of the step. Where memory ran out, nothing has changed; a drop takes none.
abbrev pub OfStep : {X : Type 0} → Batch → KeptShard → KeptShard → Next → Demand → Demand → Result (Step X) OutOfMemory → Type 0
OfStep b old new next w s (Ok Heard) = At Ask next (λ p. Tells old new p w s)
OfStep b old new next w s (Ok Holds) = At Ask next (λ p. ClaimsIt b old new p w s)
OfStep b old new next w s (Ok Taken) = At Ask next (λ p. IsTaken old new p w s)
OfStep b old new next w s (Ok Refused) = At Ask next (λ p. Refuses old new p w s)
OfStep b old new next w s (Ok (Filled woken)) = At Fill next (λ p. FillsIt b old new p w s woken.items)
OfStep b old new next w s (Ok (Dropped woken)) = At Drop next (λ p. DropsIt old new p w s woken.items)
OfStep b old new next w s (Err e) = (next ≢ Drop (step_point next)) × (s ≡ w) × (new ≡ old)
