-- Which step a turn is, by what holds of the strand and its shard.
use Rattle.std.proofs.Common.{◌≡◌, ℕ, ◌<◌, ◌≤◌, true, false, cond, slice_get, ap, ◌∙◌, Option, Some, None}
use Rattle.std.proofs.lemmas.Bool.{lt-ltb, le-ltb}
use Rattle.valid_intervals.specs.declared.Point.{Point}
use Rattle.plan_machine.specs.declared.strand.Next.{Next}
use Rattle.plan_machine.specs.declared.strand.Next.TheVariants.{Ask, Fill, Drop, Done}
use Rattle.plan_machine.specs.Strands.{Strand, next}
use Rattle.valid_intervals.specs.declared.SignalCell.{SignalCell}
use Rattle.journal_meaning.specs.Batches.{Batch}
use Rattle.valid_intervals.specs.Cells.{stored_at}
use Rattle.plan_machine.specs.Plans.{Plan, shard_of, claim_of}
use Rattle.plan_machine.specs.Steps.{Step, Tell, Claim, Wait, Spend, Finish, GiveBack, Rest, claim_step, ask_step, next_step, step_at, step}
use Rattle.plan_machine.specs.Turns.{plan_after, turn_at, turn}

-- the turn of strand i, which is s
pub record IsTurn (b : Batch) (plan : Plan) (i : ℕ) (s : Strand) (t : Step) : Type 0 where
  pub step : step plan i ≡ t
  pub turn : turn b plan i ≡ plan_after b plan i s t

module _ (b : Batch) (plan : Plan) (i : ℕ) (s : Strand) (at : slice_get plan.strands i ≡ Some s) where
  is-turn : (t : Step) → step_at plan (Some s) ≡ t → IsTurn b plan i s t
  is-turn t e = record {
    step = ap (step_at plan) at ∙ e;
    turn = ap (turn_at b plan i) at ∙ ap (plan_after b plan i s) e;
  }

  module _ (ready : s.waits ≡ false) where
    by-next : (n : Next) → next s ≡ n → step_at plan (Some s) ≡ next_step plan s n
    by-next n e = ap (λ w. cond w Rest (next_step plan s (next s))) ready ∙ ap (next_step plan s) e

    pub told-turn : (p : Point) (x : SignalCell) → next s ≡ Ask p → stored_at (shard_of plan p).state.cells p ≡ Some x → IsTurn b plan i s (Tell p x)
    told-turn p x e f = is-turn (Tell p x) (by-next (Ask p) e ∙ ap (ask_step plan s p) f)

    ask-claim : (p : Point) (o : Option ℕ) → next s ≡ Ask p → stored_at (shard_of plan p).state.cells p ≡ None → claim_of plan p ≡ o → step_at plan (Some s) ≡ claim_step s p o
    ask-claim p o e f k = by-next (Ask p) e ∙ ap (ask_step plan s p) f ∙ ap (claim_step s p) k

    pub waits-turn : (p : Point) (q : ℕ) → next s ≡ Ask p → stored_at (shard_of plan p).state.cells p ≡ None → claim_of plan p ≡ Some q → IsTurn b plan i s Wait
    waits-turn p q e f k = is-turn Wait (ask-claim p (Some q) e f k)

    pub claimed-turn : (p : Point) → next s ≡ Ask p → stored_at (shard_of plan p).state.cells p ≡ None → claim_of plan p ≡ None → s.charged < s.budget → IsTurn b plan i s (Claim p)
    claimed-turn p e f k room = is-turn (Claim p) (ask-claim p None e f k ∙ ap (λ t. cond t (Claim p) Spend) (lt-ltb s.charged s.budget room))

    pub spent-turn : (p : Point) → next s ≡ Ask p → stored_at (shard_of plan p).state.cells p ≡ None → claim_of plan p ≡ None → s.budget ≤ s.charged → IsTurn b plan i s Spend
    spent-turn p e f k full = is-turn Spend (ask-claim p None e f k ∙ ap (λ t. cond t (Claim p) Spend) (le-ltb s.charged s.budget full))

    pub filled-turn : (p : Point) → next s ≡ Fill p → IsTurn b plan i s (Finish p)
    filled-turn p e = is-turn (Finish p) (by-next (Fill p) e)

    pub dropped-turn : (p : Point) → next s ≡ Drop p → IsTurn b plan i s (GiveBack p)
    dropped-turn p e = is-turn (GiveBack p) (by-next (Drop p) e)

    pub done-turn : next s ≡ Done → IsTurn b plan i s Rest
    done-turn e = is-turn Rest (by-next Done e)

  pub waiting-turn : s.waits ≡ true → IsTurn b plan i s Rest
  waiting-turn w = is-turn Rest (ap (λ t. cond t Rest (next_step plan s (next s))) w)
