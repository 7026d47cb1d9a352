-- What comes of one step of a strand that asks for a time.
use Rattle.std.specs.Prelude.{◌≡◌, ℕ, ◌<◌, false, List}
use Rattle.valid_intervals.specs.declared.SignalCell.{SignalCell}
use Rattle.valid_intervals.specs.declared.Point.{Point}
use Rattle.circuit_meaning.specs.Forced.{IsFree}
use Rattle.journal_meaning.specs.Batches.{Batch}
use Rattle.plan_machine.specs.declared.strand.Next.{Next}
use Rattle.plan_machine.specs.declared.strand.Next.TheVariants.{Ask, Fill, Drop, Done}
use Rattle.plan_machine.specs.Strands.{next}
use Rattle.plan_machine.specs.Bounds.{turns_left}
use Rattle.demand_points.specs.Demands.{Demand}
use Rattle.memo_shards.specs.KeptShards.{KeptShard}
use Rattle.plan_core.specs.Parts.{shards_in}
use Rattle.plan_core.specs.asked.Asked.{AsksOn}
use Rattle.query_answers.specs.stuck.Asks.{RefusedBy, is_session}
use Rattle.query_answers.specs.declared.stuck.both.StuckQuery.{StuckQuery}
use Rattle.query_answers.specs.declared.stuck.step.AfterStep.{AfterStep}
use Rattle.query_answers.specs.declared.stuck.step.AfterStep.TheVariants.{GoesOn, Ended, Refused}
use Rattle.query_answers.specs.stuck.inner.Both.{Asks, GivesUp}

-- it asks on, and has fewer steps left
pub record AsksFurther (b : Batch) (opening : ℕ → List SignalCell) (own : Batch) (question : StuckQuery) (time : ℕ) (ms : List KeptShard) (m : KeptShard) (old new : Demand) : Type 0 where
  pub asks : Asks b opening question time ms m new
  pub less : turns_left own 1 new.strand < turns_left own 1 old.strand

-- it has no step left
pub record HasHeardAll (b : Batch) (opening : ℕ → List SignalCell) (question : StuckQuery) (time : ℕ) (ms : List KeptShard) (m : KeptShard) (s : Demand) : Type 0 where
  pub asks : Asks b opening question time ms m s
  pub done : next s.strand ≡ Done

-- what was asked of the session's memo, from its old shards on, and what the step made of the strand
abbrev pub IsAfterStep : Batch → (ℕ → List SignalCell) → Batch → StuckQuery → ℕ → List KeptShard → List KeptShard → KeptShard → Demand → Demand → AfterStep → Type 0
IsAfterStep b opening own question time old ms m s t GoesOn = AsksOn b opening question.query (shards_in old) false (shards_in ms) false × AsksFurther b opening own question time ms m s t
IsAfterStep b opening own question time old ms m s t Ended = AsksOn b opening question.query (shards_in old) false (shards_in ms) false × HasHeardAll b opening question time ms m t
IsAfterStep b opening own question time old ms m s t Refused = (who : RefusedBy) × AsksOn b opening question.query (shards_in old) false (shards_in ms) (is_session who) × GivesUp b question time ms m t who

-- the point is not free of the site
abbrev pub IsNotFree : Batch → StuckQuery → Point → Type 0
IsNotFree b question p = IsFree b.circuit question.site p.signal → ⊥

-- a step at the memo of its own: a fill, or an ask for a point that is not free of the site
abbrev pub IsOwnStep : Batch → StuckQuery → Next → Type 0
IsOwnStep b question (Ask p) = IsNotFree b question p
IsOwnStep b question (Fill p) = Unit {0}
IsOwnStep b question (Drop p) = ⊥
IsOwnStep b question Done = ⊥
