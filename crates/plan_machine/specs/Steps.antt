-- The step that the turn of a strand makes, and its result.
use Rattle.std.specs.Prelude.{ℕ, nat_lt, if◌then◌else◌, slice_get, Option, Some, None}
use Rattle.valid_intervals.specs.declared.Point.{Point}
use Rattle.valid_intervals.specs.declared.SignalCell.{SignalCell}
use Rattle.plan_machine.specs.declared.strand.Next.{Next}
use Rattle.plan_machine.specs.declared.strand.Next.TheVariants.{Ask, Fill, Drop, Done}
use Rattle.plan_machine.specs.Strands.{Strand, next}
use Rattle.valid_intervals.specs.Cells.{stored_at}
use Rattle.plan_machine.specs.Plans.{Plan, shard_of, claim_of}
use Rattle.plan_machine.specs.declared.Turned.{Turned}
use Rattle.plan_machine.specs.declared.Turned.TheVariants.{Told, Claimed, Waits, Spent, Filled, Dropped, NotReady}

-- the step of a turn: it is told a cell, claims a point, waits, is spent, fills a point, drops one, or there is none
pub data Step : Type 0 where
  Tell : Point → SignalCell → Step
  Claim : Point → Step
  Wait : Step
  Spend : Step
  Finish : Point → Step
  GiveBack : Point → Step
  Rest : Step

-- If a stored cell covers the point, it is told. If the point is claimed, the strand waits. Otherwise the strand claims it or
-- is spent.
abbrev pub claim_step : Strand → Point → Option ℕ → Step
claim_step s p (Some q) = Wait
claim_step s p None = if nat_lt s.charged s.budget then Claim p else Spend

abbrev pub ask_step : Plan → Strand → Point → Option SignalCell → Step
ask_step plan s p (Some x) = Tell p x
ask_step plan s p None = claim_step s p (claim_of plan p)

abbrev pub next_step : Plan → Strand → Next → Step
next_step plan s (Ask p) = ask_step plan s p (stored_at (shard_of plan p).state.cells p)
next_step plan s (Fill p) = Finish p
next_step plan s (Drop p) = GiveBack p
next_step plan s Done = Rest

abbrev pub step_at : Plan → Option Strand → Step
step_at plan None = Rest
step_at plan (Some s) = if s.waits then Rest else next_step plan s (next s)

-- the step of the turn of strand i
abbrev pub step : Plan → ℕ → Step
step plan i = step_at plan (slice_get plan.strands i)

-- the result of that turn
abbrev pub turned_by : Step → Turned
turned_by (Tell p x) = Told
turned_by (Claim p) = Claimed
turned_by Wait = Waits
turned_by Spend = Spent
turned_by (Finish p) = Filled
turned_by (GiveBack p) = Dropped
turned_by Rest = NotReady

abbrev pub turn_outcome : Plan → ℕ → Turned
turn_outcome plan i = turned_by (step plan i)

-- 0 for a NotReady turn, and 1 for any other
abbrev pub is_turn : Turned → ℕ
is_turn NotReady = 0
is_turn t = 1
