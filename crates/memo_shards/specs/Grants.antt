-- A step in two halves: what a shard grants, and what the strand makes of it.
use Rattle.std.specs.Prelude.{◌≡◌, ◌≢◌, ◌<◌, List, Some, Result, Ok, Err}
use Rattle.std.specs.List.{AllByRecursion, AllZip}
use Rattle.std.specs.Global.{Vec}
use Rattle.texts.specs.declared.OutOfMemory.{OutOfMemory}
use Rattle.valid_intervals.specs.declared.Cell.{Cell}
use Rattle.valid_intervals.specs.declared.Point.{Point}
use Rattle.valid_intervals.specs.declared.SignalCell.{SignalCell}
use Rattle.valid_intervals.specs.Cells.{stored_at}
use Rattle.circuit_meaning.specs.Cells.{cell_at}
use Rattle.journal_meaning.specs.declared.Entry.TheVariants as entry
use Rattle.journal_meaning.specs.Batches.{Batch}
use Rattle.plan_machine.specs.declared.strand.Next.{Next}
use Rattle.plan_machine.specs.declared.strand.Next.TheVariants.{Ask, Fill, Drop}
use Rattle.plan_machine.specs.Strands.{next, after_answer, after_claim, after_fill, after_drop, given_up}
use Rattle.plan_machine.specs.Shards.{shard_with_entry, filled_shard}
use Rattle.demand_points.specs.Demands.{Demand, IsAskedCell, IsAsking, TakesStep}
use Rattle.memo_shards.specs.declared.request.Request.{Request}
use Rattle.memo_shards.specs.declared.request.Request.TheVariants as request
use Rattle.memo_shards.specs.declared.grant.Grant.{Grant}
use Rattle.memo_shards.specs.declared.grant.Grant.TheVariants.{Told, Claimed, Taken, Refused, Filled, Dropped}
use Rattle.memo_shards.specs.declared.steps.Step.{Step}
use Rattle.memo_shards.specs.declared.steps.Step.TheVariants as step
use Rattle.memo_shards.specs.KeptShards.{KeptShard, waiting_at}
use Rattle.memo_shards.specs.Asks.{IsUnfound, IsTaken}
use Rattle.memo_shards.specs.Ends.{LeavesNone}
use Rattle.memo_shards.specs.Steps.{At, step_point}

-- the step of a request
abbrev pub step_of : Request → Next
step_of (request.Ask p) = Ask p
step_of (request.Fill p cell) = Fill p
step_of (request.Drop p) = Drop p

abbrev pub point_of : Request → Point
point_of r = step_point (step_of r)

-- the cell of a fill is that of its point
abbrev pub HasCell : Batch → Request → Type 0
HasCell b (request.Ask p) = Unit {0}
HasCell b (request.Fill p cell) = cell ≡ cell_at b.circuit p
HasCell b (request.Drop p) = Unit {0}

-- the request is for the strand's next step
pub record IsRequest (b : Batch) (s : Demand) (r : Request) : Type 0 where
  pub next : next s.strand ≡ step_of r
  pub cell : HasCell b r

-- the shard tells the stored cell that covers the point
pub record TellsCell (old new : KeptShard) (p : Point) (w : Demand) (cell : Cell) : Type 0 where
  pub found : SignalCell
  pub stored : stored_at old.shard.state.cells p ≡ Some found
  pub told : found.cell ≡ cell
  pub shard : new ≡ record old { shard = shard_with_entry (entry.Told w.strand.query.number p cell) old.shard }

-- it gives the claim of the point to the strand's query
pub record GivesClaim (old new : KeptShard) (p : Point) (w : Demand) : Type 0 where
  pub unfound : IsUnfound old p
  pub within : w.strand.charged < w.strand.budget
  pub shard : new ≡ record old { shard = shard_with_entry (entry.Claimed w.strand.query.number p) old.shard }

-- it refuses the point, since the budget is spent
pub record RefusesIt (old new : KeptShard) (p : Point) (w : Demand) : Type 0 where
  pub unfound : IsUnfound old p
  pub spent : w.strand.charged ≡ w.strand.budget
  pub shard : new ≡ old

-- those that waited for the point come out as they were
pub record LetsOut (old new : KeptShard) (p : Point) (waited : List Demand) : Type 0 where
  pub same : waited ≡ waiting_at old.waiting p
  pub number : new.number ≡ old.number
  pub waiting : LeavesNone old new p

-- it has the cell of the point
pub record TakesCell (b : Batch) (old new : KeptShard) (p : Point) (w : Demand) (cell : Cell) (waited : List Demand) : Type 0 where
  pub right : cell ≡ cell_at b.circuit p
  pub out : LetsOut old new p waited
  pub shard : new.shard ≡ filled_shard b.capacity w.strand.query.number p (cell_at b.circuit p) old.shard

-- it takes the claim back
pub record TakesBack (old new : KeptShard) (p : Point) (w : Demand) (waited : List Demand) : Type 0 where
  pub out : LetsOut old new p waited
  pub shard : new.shard ≡ shard_with_entry (entry.Dropped w.strand.query.number p) old.shard

-- What the shard made of a step of the strand. Where memory ran out, nothing has changed; a drop takes none.
abbrev pub OfGrant : {X : Type 0} → Batch → KeptShard → KeptShard → Next → Demand → Result (Grant X) OutOfMemory → Type 0
OfGrant b old new next w (Ok (Told cell)) = At Ask next (λ p. TellsCell old new p w cell)
OfGrant b old new next w (Ok (Claimed c)) = At Ask next (λ p. (c ≡ p) × GivesClaim old new p w)
OfGrant b old new next w (Ok Taken) = At Ask next (λ p. IsTaken old new p w w)
OfGrant b old new next w (Ok Refused) = At Ask next (λ p. RefusesIt old new p w)
OfGrant b old new next w (Ok (Filled cell waited)) = At Fill next (λ p. TakesCell b old new p w cell waited.items)
OfGrant b old new next w (Ok (Dropped waited)) = At Drop next (λ p. TakesBack old new p w waited.items)
OfGrant b old new next w (Err e) = (next ≢ Drop (step_point next)) × (new ≡ old)

-- What was granted is right for the strand, and for those that waited.
abbrev pub IsGranted : {X : Type 0} → Batch → Demand → Grant X → Type 0
IsGranted b w (Told cell) = IsAskedCell b.circuit w.strand cell
IsGranted b w (Claimed p) = (next w.strand ≡ Ask p) × (w.strand.charged < w.strand.budget)
IsGranted b w Taken = Unit {0}
IsGranted b w Refused = IsAsking w.strand
IsGranted b w (Filled cell waited) = (p : Point) × (next w.strand ≡ Fill p) × (cell ≡ cell_at b.circuit p) × AllByRecursion (λ s. IsAskedCell b.circuit s.strand cell) waited.items
IsGranted b w (Dropped waited) = (p : Point) × (next w.strand ≡ Drop p)

-- the strand holds the claim, or memory ran out
abbrev pub TakesIt : {X : Type 0} → Batch → Point → Demand → Demand → Result (Step X) OutOfMemory → Type 0
TakesIt b p w s (Ok c) = (c ≡ step.Holds) × TakesStep (λ x. after_claim b.circuit x p) w s
TakesIt b p w s (Err e) = s ≡ w

-- those that waited have heard the cell
abbrev pub Wakes : {X : Type 0} → List Demand → Result (Step X) OutOfMemory → Type 0
Wakes waited r = (woken : Vec Demand) × (r ≡ Ok (step.Filled woken)) × AllZip (TakesStep after_answer) waited woken.items

-- what the strand made of a grant
abbrev pub Follows : {X : Type 0} → Batch → Grant X → Demand → Demand → Result (Step X) OutOfMemory → Type 0
Follows b (Told cell) w s r = (r ≡ Ok step.Heard) × TakesStep after_answer w s
Follows b (Claimed p) w s r = TakesIt b p w s r
Follows b Taken w s r = (r ≡ Ok step.Taken) × (s ≡ w)
Follows b Refused w s r = (r ≡ Ok step.Refused) × TakesStep given_up w s
Follows b (Filled cell waited) w s r = TakesStep after_fill w s × Wakes waited.items r
Follows b (Dropped waited) w s r = TakesStep after_drop w s × (r ≡ Ok (step.Dropped waited))
