-- One turn of a strand, and any list of turns.
use Rattle.std.specs.Prelude.{ℕ, ◌+◌, List, [], ◌∷◌, slice_get, Option, Some, None}
use Rattle.journal_meaning.specs.declared.Entry.TheVariants.{Told, Claimed, Dropped}
use Rattle.journal_meaning.specs.Batches.{Batch}
use Rattle.circuit_meaning.specs.Cells.{cell_at}
use Rattle.plan_machine.specs.Strands.{Strand, after_answer, after_claim, waiting, given_up, after_drop, after_fill}
use Rattle.plan_machine.specs.Shards.{shard_with_entry, filled_shard}
use Rattle.plan_machine.specs.Plans.{Plan, shard_of, with_strand, with_shard, with_woken, itself}
use Rattle.plan_machine.specs.Steps.{Step, Tell, Claim, Wait, Spend, Finish, GiveBack, Rest, step_at, turn_outcome, is_turn}

-- The plan after a step of the strand s with the number i. At a fill all strands that wait at its point hear the cell and are woken. A drop
-- wakes them unchanged.
abbrev pub plan_after : Batch → Plan → ℕ → Strand → Step → Plan
plan_after b plan i s (Tell p x) = with_shard (with_strand plan i (after_answer s)) p (shard_with_entry (Told s.query.number p x.cell) (shard_of plan p))
plan_after b plan i s (Claim p) = with_shard (with_strand plan i (after_claim b.circuit s p)) p (shard_with_entry (Claimed s.query.number p) (shard_of plan p))
plan_after b plan i s Wait = with_strand plan i (waiting s)
plan_after b plan i s Spend = with_strand plan i (given_up s)
plan_after b plan i s (Finish p) = with_shard (with_strand (with_woken plan after_answer p) i (after_fill s)) p (filled_shard b.capacity s.query.number p (cell_at b.circuit p) (shard_of plan p))
plan_after b plan i s (GiveBack p) = with_shard (with_strand (with_woken plan itself p) i (after_drop s)) p (shard_with_entry (Dropped s.query.number p) (shard_of plan p))
plan_after b plan i s Rest = plan

abbrev pub turn_at : Batch → Plan → ℕ → Option Strand → Plan
turn_at b plan i None = plan
turn_at b plan i (Some s) = plan_after b plan i s (step_at plan (Some s))

-- a turn of strand i
abbrev pub turn : Batch → Plan → ℕ → Plan
turn b plan i = turn_at b plan i (slice_get plan.strands i)

-- the turns of the strands with these numbers
abbrev pub run : Batch → Plan → List ℕ → Plan
run b plan [] = plan
run b plan (i ∷ is) = run b (turn b plan i) is

-- how many of them were not NotReady
abbrev pub turns : Batch → Plan → List ℕ → ℕ
turns b plan [] = 0
turns b plan (i ∷ is) = is_turn (turn_outcome plan i) + turns b (turn b plan i) is
