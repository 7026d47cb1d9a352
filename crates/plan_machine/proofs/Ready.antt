-- A sound plan isn't stuck.
use Rattle.std.proofs.Common.{◌≡◌, ℕ, zero, suc, ◌+◌, ◌<◌, ◌⊎◌, not, Bool, true, false, List, [], ◌∷◌, slice_get, refl, ap, sym, ◌∙◌, subst, arith, inl, inr, Option, Some, None, ◌≢◌, cond, nat_lt, true≢false}
use Rattle.std.proofs.lemmas.Bool.{cases_Bool, and_from, and_parts, not-true}
use Rattle.valid_intervals.specs.declared.Point.{Point}
use Rattle.circuit_meaning.proofs.Callers.{at_all_times}
use Rattle.plan_machine.specs.declared.strand.Next.{Next}
use Rattle.plan_machine.specs.declared.strand.Next.TheVariants.{Ask, Fill, Drop, Done}
use Rattle.plan_machine.specs.Strands.{Frame, Strand, ask_or, next_in, next, IsOnStack}
use Rattle.valid_intervals.specs.declared.SignalCell.{SignalCell}
use Rattle.journal_meaning.specs.Batches.{Batch}
use Rattle.journal_meaning.specs.Lawful.{IsLawful}
use Rattle.plan_machine.specs.Plans.{Plan, shard_of, claim_of, is_done, is_ready, ready_from}
use Rattle.plan_machine.specs.declared.Turned.TheVariants.{Told, NotReady}
use Rattle.valid_intervals.specs.Cells.{stored_at}
use Rattle.plan_machine.specs.Steps.{Step, Tell, Claim, Wait, Spend, Finish, GiveBack, Rest, claim_step, ask_step, next_step, step_at, turned_by}
use Rattle.plan_machine.specs.Turns.{plan_after, turn_at}
use Rattle.plan_machine.specs.Sound.{IsSound, HasEnded, AreEnded, MovesIfReady}
use Rattle.plan_machine.proofs.Stacks.{asks-first, earlier}

-- what has ended
ask-done : (end : Next) (xs : List Point) → ask_or end xs ≡ Done → (xs ≡ []) × (end ≡ Done)
ask-done end [] h = (refl, h)
ask-done end (x ∷ xs) h = absurd (cc h)

record Ended (spent : Bool) (roots : List Point) (st : List Frame) : Type 0 where
  empty : st ≡ []
  cause : (spent ≡ true) ⊎ (roots ≡ [])

ended_in : (spent : Bool) (roots : List Point) (st : List Frame) → next_in spent roots st ≡ Done → Ended spent roots st
ended_in true roots [] h = record { empty = refl; cause = inl refl }
ended_in true roots (f ∷ fs) h = absurd (cc h)
ended_in false roots [] h = record { empty = refl; cause = inr (ask-done Done roots h).0 }
ended_in false roots (f ∷ fs) h = let k = (ask-done (Fill f.point) f.left h).1 in absurd (cc k)

pub has-ended : (s : Strand) → next s ≡ Done → HasEnded s
has-ended s h = let e = ended_in s.spent s.roots s.stack h in record { done = h; empty = e.empty; cause = e.cause }

-- a strand that holds a claim hasn't ended
held-goes : (s : Strand) (p : Point) → IsOnStack s.stack p → next s ≡ Done → ⊥
held-goes s p h e = subst (λ st. IsOnStack st p) (has-ended s e).empty h

done-is : (n : Next) → is_done n ≡ true → n ≡ Done
done-is (Ask p) h = absurd (cc h)
done-is (Fill p) h = absurd (cc h)
done-is (Drop p) h = absurd (cc h)
done-is Done h = refl

pub goes-ready : (s : Strand) → s.waits ≡ false → (next s ≡ Done → ⊥) → is_ready s ≡ true
goes-ready s w goes = elim (cases_Bool (is_done (next s))) [
  | inl t ↦ absurd (goes (done-is (next s) t))
  | inr f ↦ and_from (not s.waits) (not (is_done (next s))) (ap not w) (ap not f)
]

module _ (b : Batch) (lawful : IsLawful b) (opening : ℕ → List SignalCell) (plan : Plan) (sound : IsSound b opening plan) where
  OneReady : Type 0
  OneReady = (j : ℕ) × ((r : Strand) × ((slice_get plan.strands j ≡ Some r) × (is_ready r ≡ true)))

  Frees : ℕ → Type 0
  Frees t = (p : Point) (q : ℕ) → p.time ≡ t → claim_of plan p ≡ Some q → OneReady

  -- a claim's holder is ready, or waits at an earlier claim
  frees : (t : ℕ) → ((u : ℕ) → u < t → Frees u) → Frees t
  unfolding Frees OneReady
  frees t before p q e claim =
      let o = sound.linked.holder p q claim in
      let r = o.1.0 in
      elim (cases_Bool r.waits) [
        | inl w ↦
            let k = sound.linked.waiting o.0 r o.1.1.0 w in
            let is = sound.strands o.0 r o.1.1.0 in
            let lt : k.0.time < p.time = earlier b.circuit lawful.circuit r.roots r.stack k.0 p is.chain (asks-first r k.0 k.1.1.0) o.1.1.1 in
            before k.0.time (omega arith) k.0 k.1.0 refl k.1.1.1
        | inr w ↦ (o.0, (r, (o.1.1.0, goes-ready r w (held-goes r p o.1.1.1))))
      ]

  pub never-stuck : (i : ℕ) (s : Strand) → slice_get plan.strands i ≡ Some s → (next s ≡ Done → ⊥) → (j : ℕ) × ((r : Strand) × ((slice_get plan.strands j ≡ Some r) × (is_ready r ≡ true)))
  unfolding Frees OneReady
  never-stuck i s at goes = elim (cases_Bool s.waits) [
    | inl w ↦ let k = sound.linked.waiting i s at w in at_all_times Frees frees k.0.time k.0 k.1.0 refl k.1.1.1
    | inr w ↦ (i, (s, (at, goes-ready s w goes)))
  ]

-- the list of those that are ready
none-ready : (n : ℕ) (xs : List Strand) → ready_from n xs ≡ [] → (j : ℕ) (r : Strand) → slice_get xs j ≡ Some r → is_ready r ≡ true → ⊥
none-ready n [] e j r at t = cc at
none-ready n (x ∷ xs) e zero r at t =
    let k : is_ready x ≡ true = let same : x ≡ r = cc at in ap is_ready same ∙ t in
    let m : ready_from n (x ∷ xs) ≡ n ∷ ready_from (n + 1) xs = rw k refl in
    cc (m, e)
none-ready n (x ∷ xs) e (suc j) r at t = elim (cases_Bool (is_ready x)) [
  | inl k ↦ let m : ready_from n (x ∷ xs) ≡ n ∷ ready_from (n + 1) xs = rw k refl in cc (m, e)
  | inr k ↦ let m : ready_from n (x ∷ xs) ≡ ready_from (n + 1) xs = rw k refl in none-ready (n + 1) xs (sym m ∙ e) j r at t
]

not-ready : (s : Strand) → next s ≡ Done → is_ready s ≡ false
not-ready s e = elim (cases_Bool (is_ready s)) [
  | inl t ↦ let k = (and_parts (not s.waits) (not (is_done (next s))) t).1 in let m : is_done (next s) ≡ true = ap is_done e in let z : not (is_done (next s)) ≡ false = ap not m in absurd (cc (k, z))
  | inr f ↦ f
]

all-ended : (n : ℕ) (xs : List Strand) → ((i : ℕ) (s : Strand) → slice_get xs i ≡ Some s → next s ≡ Done) → ready_from n xs ≡ []
all-ended n [] h = refl
all-ended n (x ∷ xs) h = rw (not-ready x (h 0 x refl)) (all-ended (n + 1) xs (λ i s e. h (suc i) s e))

pub ready-ends : (b : Batch) → IsLawful b → (opening : ℕ → List SignalCell) (plan : Plan) → IsSound b opening plan → AreEnded plan
ready-ends b lawful opening plan sound = record {
  none = λ e i s at. has-ended s (elim (cases_Bool (is_done (next s))) [
    | inl t ↦ done-is (next s) t
    | inr f ↦
        let k = never-stuck b lawful opening plan sound i s at (λ d. let m : is_done (next s) ≡ true = ap is_done d in cc (m, f)) in
        absurd (none-ready 0 plan.strands e k.0 k.1.0 k.1.1.0 k.1.1.1)
  ]);
  all = all-ended 0 plan.strands;
}

-- which turns are NotReady
told≢not : Told ≢ NotReady
told≢not e = cc

claim-moves : (s : Strand) (p : Point) (o : Option ℕ) → turned_by (claim_step s p o) ≢ NotReady
claim-moves s p (Some q) = λ e. cc e
claim-moves s p None = elim (nat_lt s.charged s.budget) as (λ t. turned_by (cond t (Claim p) Spend) ≢ NotReady) [ true ↦ λ e. cc e | false ↦ λ e. cc e ]

ask-moves : (plan : Plan) (s : Strand) (p : Point) (o : Option SignalCell) → turned_by (ask_step plan s p o) ≢ NotReady
ask-moves plan s p (Some x) e = told≢not e
ask-moves plan s p None e = claim-moves s p (claim_of plan p) e

next-moves : (plan : Plan) (s : Strand) (n : Next) → is_done n ≡ false → turned_by (next_step plan s n) ≢ NotReady
next-moves plan s (Ask p) h e = ask-moves plan s p (stored_at (shard_of plan p).state.cells p) e
next-moves plan s (Fill p) h e = cc e
next-moves plan s (Drop p) h e = cc e
next-moves plan s Done h e = absurd (true≢false h)

strand-moves : (plan : Plan) (s : Strand) → is_ready s ≡ true → turned_by (step_at plan (Some s)) ≢ NotReady
strand-moves plan s r =
    let k = and_parts (not s.waits) (not (is_done (next s))) r in
    let P : Bool → Type 0 = λ w. turned_by (cond w Rest (next_step plan s (next s))) ≢ NotReady in
    subst P (sym (not-true s.waits k.0)) (next-moves plan s (next s) (not-true (is_done (next s)) k.1))

strand-rests : (plan : Plan) (s : Strand) → is_ready s ≡ false → turned_by (step_at plan (Some s)) ≡ NotReady
strand-rests plan s r =
    let P : Bool → Type 0 = λ w. turned_by (cond w Rest (next_step plan s (next s))) ≡ NotReady in
    elim (cases_Bool s.waits) [
      | inl w ↦ subst P (sym w) refl
      | inr w ↦ elim (cases_Bool (is_done (next s))) [
        | inl d ↦ subst P (sym w) (ap (λ n. turned_by (next_step plan s n)) (done-is (next s) d))
        | inr d ↦ absurd (true≢false (sym (goes-ready s w (λ e. true≢false (sym (ap is_done e) ∙ d))) ∙ r))
      ]
    ]

rest-idle : (b : Batch) (plan : Plan) (i : ℕ) (s : Strand) (t : Step) → turned_by t ≡ NotReady → plan_after b plan i s t ≡ plan
rest-idle b plan i s (Tell p x) e = absurd (told≢not e)
rest-idle b plan i s (Claim p) e = absurd (cc e)
rest-idle b plan i s Wait e = absurd (cc e)
rest-idle b plan i s Spend e = absurd (cc e)
rest-idle b plan i s (Finish p) e = absurd (cc e)
rest-idle b plan i s (GiveBack p) e = absurd (cc e)
rest-idle b plan i s Rest e = refl

idle-at : (b : Batch) (plan : Plan) (i : ℕ) (o : Option Strand) → turned_by (step_at plan o) ≡ NotReady → turn_at b plan i o ≡ plan
idle-at b plan i None e = refl
idle-at b plan i (Some s) e = rest-idle b plan i s (step_at plan (Some s)) e

pub ready-moves : (b : Batch) (plan : Plan) (i : ℕ) → MovesIfReady b plan i
ready-moves b plan i = record {
  none = λ h. ap (λ o. turned_by (step_at plan o)) h;
  rests = λ s h r. ap (λ o. turned_by (step_at plan o)) h ∙ strand-rests plan s r;
  moves = λ s h r e. strand-moves plan s r (sym (ap (λ o. turned_by (step_at plan o)) h) ∙ e);
  idle = idle-at b plan i (slice_get plan.strands i);
}
