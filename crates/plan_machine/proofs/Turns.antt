-- Every turn, and every list of turns, keeps a plan sound.
use Rattle.std.proofs.Common.{◌≡◌, ℕ, Bool, false, cond, nat_lt, List, [], ◌∷◌, slice_get, refl, sym, subst, inl, inr, Option, Some, None}
use Rattle.std.proofs.lemmas.Bool.{cases_Bool, ltb-true}
use Rattle.valid_intervals.specs.declared.Point.{Point}
use Rattle.plan_machine.specs.declared.strand.Next.{Next}
use Rattle.plan_machine.specs.declared.strand.Next.TheVariants.{Ask, Fill, Drop, Done}
use Rattle.plan_machine.specs.Strands.{Strand, next}
use Rattle.valid_intervals.specs.declared.SignalCell.{SignalCell}
use Rattle.journal_meaning.specs.Batches.{Batch}
use Rattle.journal_meaning.specs.Lawful.{IsLawful}
use Rattle.valid_intervals.specs.Cells.{stored_at}
use Rattle.plan_machine.specs.Plans.{Plan, shard_of, claim_of}
use Rattle.plan_machine.specs.Steps.{Rest, claim_step, ask_step, next_step}
use Rattle.plan_machine.specs.Turns.{plan_after, turn_at, turn, run}
use Rattle.plan_machine.specs.Sound.{IsSound}
use Rattle.plan_machine.proofs.Steps.{told-sound, claimed-sound, waits-sound, spent-sound, filled-sound, dropped-sound}

module _ (b : Batch) (lawful : IsLawful b) (opening : ℕ → List SignalCell) (plan : Plan) (sound : IsSound b opening plan)
    (i : ℕ) (s : Strand) (at : slice_get plan.strands i ≡ Some s) (ready : s.waits ≡ false) where
  by_claim : (p : Point) (o : Option ℕ) → next s ≡ Ask p → stored_at (shard_of plan p).state.cells p ≡ None → claim_of plan p ≡ o → IsSound b opening (plan_after b plan i s (claim_step s p o))
  by_claim p (Some q) e none claim = waits-sound b lawful opening plan sound i s at ready p q e claim
  by_claim p None e none claim = elim (cases_Bool (nat_lt s.charged s.budget)) [
    | inl t ↦ rw t (claimed-sound b lawful opening plan sound i s at ready p e none claim (ltb-true s.charged s.budget t))
    | inr f ↦ rw f (spent-sound b lawful opening plan sound i s at ready)
  ]

  by_cell : (p : Point) (o : Option SignalCell) → next s ≡ Ask p → stored_at (shard_of plan p).state.cells p ≡ o → IsSound b opening (plan_after b plan i s (ask_step plan s p o))
  by_cell p (Some x) e found = told-sound b lawful opening plan sound i s at ready p x e found
  by_cell p None e none = by_claim p (claim_of plan p) e none refl

  by_next : (n : Next) → next s ≡ n → IsSound b opening (plan_after b plan i s (next_step plan s n))
  by_next (Ask p) e = by_cell p (stored_at (shard_of plan p).state.cells p) e refl
  by_next (Fill p) e = filled-sound b lawful opening plan sound i s at ready p e
  by_next (Drop p) e = dropped-sound b lawful opening plan sound i s at ready p e
  by_next Done e = sound

module _ (b : Batch) (lawful : IsLawful b) (opening : ℕ → List SignalCell) where
  by_strand : (plan : Plan) → IsSound b opening plan → (i : ℕ) (o : Option Strand) → slice_get plan.strands i ≡ o → IsSound b opening (turn_at b plan i o)
  by_strand plan sound i None e = sound
  by_strand plan sound i (Some s) e =
      let P : Bool → Type 0 = λ w. IsSound b opening (plan_after b plan i s (cond w Rest (next_step plan s (next s)))) in
      elim (cases_Bool s.waits) [
        | inl t ↦ subst P (sym t) sound
        | inr f ↦ subst P (sym f) (by_next b lawful opening plan sound i s e f (next s) refl)
      ]

  pub turn-sound : (plan : Plan) → IsSound b opening plan → (i : ℕ) → IsSound b opening (turn b plan i)
  turn-sound plan sound i = by_strand plan sound i (slice_get plan.strands i) refl

  pub run-sound : (plan : Plan) → IsSound b opening plan → (schedule : List ℕ) → IsSound b opening (run b plan schedule)
  run-sound plan sound [] = sound
  run-sound plan sound (i ∷ is) = run-sound (turn b plan i) (turn-sound plan sound i) is
