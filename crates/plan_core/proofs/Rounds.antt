-- One round of the loop that runs a strand alone.
use Rattle.std.proofs.Common.{◌≡◌, ◌≢◌, ℕ, ◌<◌, false, length, slice_get, refl, sym, ap, subst, ◌∙◌, arith, List, Option, Some}
use Rattle.valid_intervals.specs.declared.Point.{Point}
use Rattle.valid_intervals.specs.declared.SignalCell.{SignalCell}
use Rattle.journal_meaning.specs.Batches.{Batch}
use Rattle.journal_meaning.specs.Lawful.{IsLawful}
use Rattle.plan_machine.specs.declared.strand.Next.TheVariants.{Ask}
use Rattle.plan_machine.specs.Strands.{Strand, next_in, given_up}
use Rattle.journal_meaning.specs.Pieces.{Start}
use Rattle.plan_machine.specs.Plans.{Plan}
use Rattle.plan_machine.specs.declared.Turned.{Turned}
use Rattle.plan_machine.specs.declared.Turned.TheVariants as comes
use Rattle.plan_machine.specs.Steps.{turn_outcome, is_turn}
use Rattle.plan_machine.specs.Turns.{turn}
use Rattle.plan_machine.specs.Bounds.{turns_left, all_left}
use Rattle.plan_machine.specs.Alone.{plan_refusing, RunsAlone, RanAlone}
use Rattle.plan_machine.proofs.Callers.{turn-less, ready-moves, turn-tasks, turns-alone}
use Rattle.std.specs.List.{sum_by}
use Rattle.plan_core.specs.inner.Refusals.{IsRefusedAt}

pub moved : (t : Turned) → t ≢ comes.NotReady → is_turn t ≡ 1
moved comes.Told h = refl
moved comes.Claimed h = refl
moved comes.Waits h = refl
moved comes.Spent h = refl
moved comes.Filled h = refl
moved comes.Dropped h = refl
moved comes.NotReady h = absurd (h refl)

module _ (b : Batch) (plan new : Plan) (n : ℕ) (t : Turned) (is : t ≡ turn_outcome plan n) (turns : new ≡ turn b plan n) where
  pub round-count : length new.strands ≡ length plan.strands
  round-count = ap (λ (z : Plan). length z.strands) turns ∙ (turn-tasks b plan n).count

  pub round-less : t ≢ comes.NotReady → all_left b new < all_left b plan
  round-less h =
      let k = turn-less b plan n in
      let one : is_turn (turn_outcome plan n) ≡ 1 = moved (turn_outcome plan n) (λ e. h (is ∙ e)) in
      let same : all_left b new ≡ all_left b (turn b plan n) = ap (all_left b) turns in
      omega arith

  module _ (lawful : IsLawful b) (opening : ℕ → List SignalCell) (a : Start) (old : Plan) (spent : Option Point) (r : RunsAlone b opening n a old plan spent) where
    pub round-on : t ≢ comes.Spent → RunsAlone b opening n a old new spent
    round-on h = subst (λ z. RunsAlone b opening n a old z spent) (sym turns) ((turns-alone b lawful opening n a old plan spent r).on (λ e. h (is ∙ e)))

    pub round-ends : t ≡ comes.NotReady → RanAlone b opening n a old new spent
    round-ends h =
        let e = sym is ∙ h in
        let same : new ≡ plan = turns ∙ (ready-moves b plan n).idle e in
        subst (λ z. RanAlone b opening n a old z spent) (sym same) ((turns-alone b lawful opening n a old plan spent r).ended e)

    pub round-refused : t ≡ comes.Spent → (end : Plan) (p : Point)
        → ((s : Strand) (x : Point) → slice_get new.strands n ≡ Some s → next_in false s.roots s.stack ≡ Ask x → p ≡ x)
        → ((s : Strand) (x : Point) → slice_get new.strands n ≡ Some s → next_in false s.roots s.stack ≡ Ask x → end ≡ plan_refusing new s (Ask x))
        → RunsAlone b opening n a old end (Some p)
    round-refused h end p tells records =
        let k = (turns-alone b lawful opening n a old plan spent r).refusal (sym is ∙ h) in
        let x = k.0 in
        let s = k.1 in
        let at : slice_get new.strands n ≡ Some (given_up s) = ap (λ (z : Plan). slice_get z.strands n) turns ∙ k.3.now in
        let point : p ≡ x = tells (given_up s) x at k.3.still in
        let plan_is : end ≡ plan_refusing new (given_up s) (Ask x) = records (given_up s) x at k.3.still in
        let same : end ≡ plan_refusing (turn b plan n) s (Ask x) = plan_is ∙ ap (λ z. plan_refusing z s (Ask x)) turns in
        subst (λ y. RunsAlone b opening n a old end (Some y)) (sym point) (subst (λ z. RunsAlone b opening n a old z (Some x)) (sym same) k.4)

pub left-same : (b : Batch) (plan new : Plan) → new.strands ≡ plan.strands → all_left b new ≡ all_left b plan
left-same b plan new e = ap (λ xs. sum_by (turns_left b (length xs)) xs) e

-- what the refusal tells, and what recording it makes of the plan, for the strand and the point of it
pub refused-tells : (plan : Plan) (n : ℕ) (p : Point) → IsRefusedAt plan n p → (s : Strand) (x : Point) → slice_get plan.strands n ≡ Some s → next_in false s.roots s.stack ≡ Ask x → p ≡ x
refused-tells plan n p r s x at asks =
    let there = r.at in
    let same : r.strand ≡ s = cc (there, at) in
    let both : next_in false s.roots s.stack ≡ Ask p = ap (λ (z : Strand). next_in false z.roots z.stack) (sym same) ∙ r.asks in
    cc (both, asks)

pub refused-records : (plan : Plan) (n : ℕ) (p : Point) → IsRefusedAt plan n p → (end : Plan) (o : Strand) → slice_get plan.strands n ≡ Some o → end ≡ plan_refusing plan o (Ask p)
    → (s : Strand) (x : Point) → slice_get plan.strands n ≡ Some s → next_in false s.roots s.stack ≡ Ask x → end ≡ plan_refusing plan s (Ask x)
refused-records plan n p r end o there is s x at asks =
    let same : o ≡ s = cc (there, at) in
    let point : p ≡ x = refused-tells plan n p r s x at asks in
    is ∙ ap (λ z. plan_refusing plan z (Ask p)) same ∙ ap (λ z. plan_refusing plan s (Ask z)) point
