-- Definitions for proofs and private functions, beside `Parts`.
use Rattle.std.specs.Prelude.{ℕ, false, List, [], map, Option}
use Rattle.valid_intervals.specs.declared.SignalCell.{SignalCell}
use Rattle.journal_meaning.specs.Batches.{Batch}
use Rattle.journal_meaning.specs.Lawful.{IsLawful}
use Rattle.plan_machine.specs.Strands.{Strand}
use Rattle.plan_machine.specs.Plans.{Plan}
use Rattle.plan_machine.specs.KeptPlans.{WaitedShard, plan_of, IsKeptPlan}
use Rattle.plan_machine.specs.Sound.{IsSound}
use Rattle.demand_points.specs.Demands.{Demand}
use Rattle.memo_shards.specs.KeptShards.{KeptShard}
use Rattle.memo_shards.specs.Seen.{waited_shard}
use Rattle.plan_core.specs.inner.Places.{seats, AreNumbered}
use Rattle.plan_core.specs.Parts.{AreInOrder}

-- a strand for numbers without one
abbrev pub blank : Strand
blank = record { query = record { number = 0; signal = 0; from = 0; to = 0; budget = 0 }; budget = 0; roots = []; stack = []; charged = 0; filled = 0; spent = false; waits = false }

abbrev pub waited_shards : List KeptShard → List WaitedShard
waited_shards shards = map waited_shard shards

-- the plan of these places and shards
abbrev pub plan_at : List (Option Demand) → List KeptShard → Plan
plan_at places shards = plan_of blank (seats places) (waited_shards shards)

pub record IsPlan (b : Batch) (opening : ℕ → List SignalCell) (places : List (Option Demand)) (shards : List KeptShard) : Type 0 where
  pub lawful : IsLawful b
  pub numbers : AreNumbered places
  pub order : AreInOrder shards
  pub kept_plan : IsKeptPlan (seats places) (waited_shards shards) (plan_at places shards).strands
  pub sound : IsSound b opening (plan_at places shards)
