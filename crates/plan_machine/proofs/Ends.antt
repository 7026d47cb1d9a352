-- The end of a claim lets out all that wait for it.
use Rattle.std.proofs.Common.{◌≡◌, ◌≢◌, ℕ, ◌&&◌, true, map, slice_get, refl, ap, ◌∙◌, inl, inr, Option, Some, None, cond}
use Rattle.std.proofs.lemmas.Bool.{cases_Bool, and_from, and_parts}
use Rattle.valid_intervals.specs.declared.Point.{Point}
use Rattle.journal_meaning.specs.Batches.{Batch}
use Rattle.journal_meaning.proofs.Callers.{cases_point}
use Rattle.plan_machine.specs.declared.strand.Next.{Next}
use Rattle.plan_machine.specs.declared.strand.Next.TheVariants.{Ask, Fill, Drop, Done}
use Rattle.plan_machine.specs.Strands.{Strand, next, after_answer, awake, after_drop, after_fill}
use Rattle.plan_machine.specs.Plans.{Plan, asks, woken_strand, itself}
use Rattle.plan_machine.specs.Steps.{Finish, GiveBack, step_at}
use Rattle.plan_machine.specs.Turns.{plan_after, turn_at, turn}
use Rattle.plan_machine.specs.Sound.{LetsOut, ClaimEnds}
use Rattle.plan_machine.proofs.Links.{map-get, set-other}

asks-itself : (p : Point) (n : Next) → n ≡ Ask p → asks p n ≡ true
asks-itself p n e = ap (asks p) e ∙ elim (cases_point p p) [ inl k ↦ k.0 | inr k ↦ absurd (k.1 refl) ]

asks-is : (p : Point) (n : Next) → asks p n ≡ true → n ≡ Ask p
asks-is p (Ask x) h = elim (cases_point x p) [ inl k ↦ ap Ask k.1 | inr k ↦ absurd (cc (k.0, h)) ]
asks-is p (Fill x) h = absurd (cc h)
asks-is p (Drop x) h = absurd (cc h)
asks-is p Done h = absurd (cc h)

module _ (f : Strand → Strand) (p : Point) (r : Strand) where
  comes-out : r.waits ≡ true → next r ≡ Ask p → woken_strand f p r ≡ awake (f r)
  comes-out w n = let k = and_from r.waits (asks p (next r)) w (asks-itself p (next r) n) in ap (λ t. cond t (awake (f r)) r) k

  stays : (r.waits ≡ true → next r ≢ Ask p) → woken_strand f p r ≡ r
  stays h = elim (cases_Bool (r.waits && asks p (next r))) [
    | inl t ↦ let k = and_parts r.waits (asks p (next r)) t in absurd (h k.0 (asks-is p (next r) k.1))
    | inr t ↦ ap (λ z. cond z (awake (f r)) r) t
  ]

module _ (b : Batch) (plan : Plan) (i : ℕ) (p : Point) where
  -- where the strands after the turn are these
  lets-out : (f : Strand → Strand) → ((j : ℕ) → j ≢ i → slice_get (turn b plan i).strands j ≡ slice_get (map (woken_strand f p) plan.strands) j) → LetsOut b plan i p f
  lets-out f same = record {
    woken = λ j r ne at w n. same j ne ∙ map-get (woken_strand f p) plan.strands j r at ∙ ap Some (comes-out f p r w n);
    others = λ j r ne at h. same j ne ∙ map-get (woken_strand f p) plan.strands j r at ∙ ap Some (stays f p r h);
  }

  filled-at : (o : Option Strand) → step_at plan o ≡ Finish p → (j : ℕ) → j ≢ i → slice_get (turn_at b plan i o).strands j ≡ slice_get (map (woken_strand after_answer p) plan.strands) j
  filled-at None e j ne = absurd (cc e)
  filled-at (Some s) e j ne = ap (λ t. slice_get (plan_after b plan i s t).strands j) e ∙ set-other (map (woken_strand after_answer p) plan.strands) i j (after_fill s) ne

  dropped-at : (o : Option Strand) → step_at plan o ≡ GiveBack p → (j : ℕ) → j ≢ i → slice_get (turn_at b plan i o).strands j ≡ slice_get (map (woken_strand itself p) plan.strands) j
  dropped-at None e j ne = absurd (cc e)
  dropped-at (Some s) e j ne = ap (λ t. slice_get (plan_after b plan i s t).strands j) e ∙ set-other (map (woken_strand itself p) plan.strands) i j (after_drop s) ne

  pub claim-ends : ClaimEnds b plan i p
  claim-ends = record {
    filled = λ e. lets-out after_answer (filled-at (slice_get plan.strands i) e);
    dropped = λ e. lets-out itself (dropped-at (slice_get plan.strands i) e);
  }
