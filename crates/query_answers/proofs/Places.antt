-- What is added to the cells that wait, and what is taken from them.
use Rattle.std.proofs.Common.{◌≡◌, ℕ, ◌&&◌, nat_eq, true, false, true≢false, cond, is_some, Option, Some, None, IsSome, refl, sym, ap, ap₂, subst, ◌∙◌, arith, inl, inr, eqb-true}
use Rattle.std.specs.Ordering.{is_eq, is_lt}
use Rattle.std.proofs.lemmas.Bool.{and_parts, cases_Bool}
use Rattle.std.proofs.lemmas.Bool.Decides.{nat_tests}
use Rattle.query_answers.specs.declared.explanations.waiting.LinePlace.{LinePlace}
use Rattle.query_answers.specs.declared.explanations.waiting.Asked.{Asked}
use Rattle.query_answers.specs.explanations.inner.Waiting.{place_cmp, IsBelow, line_of, place_of, Places, Adds, TakesLast}

place-is : (a b : LinePlace) → a.start ≡ b.start → a.signal ≡ b.signal → a ≡ b
place-is a b e f = let at : ℕ → ℕ → LinePlace = λ t s. record { start = t; signal = s } in ap₂ at e f

-- the order of places
same-place : (a b : LinePlace) → is_eq (place_cmp a b) ≡ true → a ≡ b
same-place a b h =
    let e : is_eq (place_cmp a b) ≡ (nat_eq a.start b.start && nat_eq a.signal b.signal) = grind (arith, nat_tests) in
    let k = and_parts (nat_eq a.start b.start) (nat_eq a.signal b.signal) (sym e ∙ h) in
    place-is a b (eqb-true a.start b.start k.0) (eqb-true a.signal b.signal k.1)

itself : (a : LinePlace) → is_eq (place_cmp a a) ≡ true
itself a = grind (arith, nat_tests)

below : (a b : LinePlace) → is_lt (place_cmp b a) ≡ false → is_eq (place_cmp b a) ≡ false → IsBelow a b
below a b h n = grind (arith, nat_tests)

some-of : {A : Type 0} (o : Option A) → is_some o ≡ true → (x : A) × (o ≡ Some x)
some-of None h = absurd (true≢false (sym h))
some-of (Some x) h = (x, refl)

-- one stands in its place
pub adds-none : (old : Places) (a : Asked) → is_some (old (place_of (line_of a))) ≡ true → Adds old a old
adds-none old a h = record { kept = λ k x e. e; there = some-of (old (place_of (line_of a))) h; only = λ k x e. inl e }

module _ (old new : Places) (p : LinePlace) (w : Option Asked) (updates : (k : LinePlace) → new k ≡ cond (is_eq (place_cmp p k)) w (old k)) where
  here : (k : LinePlace) → p ≡ k → new k ≡ w
  here k e = updates k ∙ ap (λ b. cond b w (old k)) (subst (λ z. is_eq (place_cmp p z) ≡ true) e (itself p))

  elsewhere : (k : LinePlace) → is_eq (place_cmp p k) ≡ false → new k ≡ old k
  elsewhere k n = updates k ∙ ap (λ b. cond b w (old k)) n

-- none stands there
pub adds-one : (old new : Places) (a : Asked) → is_some (old (place_of (line_of a))) ≡ false → ((k : LinePlace) → new k ≡ cond (is_eq (place_cmp (place_of (line_of a)) k)) (Some a) (old k)) → Adds old a new
adds-one old new a none updates =
    let p : LinePlace = place_of (line_of a) in
    record {
      kept = λ k x e. elim (cases_Bool (is_eq (place_cmp p k))) [
        | inl t ↦
            let some : is_some (old p) ≡ true = ap (λ z. is_some (old z)) (same-place p k t) ∙ ap is_some e in
            absurd (true≢false (sym some ∙ none))
        | inr n ↦ elsewhere old new p (Some a) updates k n ∙ e
      ];
      there = (a, here old new p (Some a) updates p refl);
      only = λ k x e. elim (cases_Bool (is_eq (place_cmp p k))) [
        | inl t ↦
            let same : p ≡ k = same-place p k t in
            let both : Some a ≡ Some x = sym (here old new p (Some a) updates k same) ∙ e in
            let is : x ≡ a = cc in
            inr (sym same, is)
        | inr n ↦ inl (sym (elsewhere old new p (Some a) updates k n) ∙ e)
      ];
    }

-- the last goes
pub takes : (old new : Places) (p : LinePlace) (a : Asked) → old p ≡ Some a → ((k : LinePlace) → IsSome (old k) → is_lt (place_cmp p k) ≡ false) → ((k : LinePlace) → new k ≡ cond (is_eq (place_cmp p k)) None (old k)) → TakesLast old a new
takes old new p a was greatest updates = record {
  place = p;
  was = was;
  last = λ k x e. elim (cases_Bool (is_eq (place_cmp p k))) [
    | inl t ↦ absurd (gone k x (same-place p k t) e)
    | inr n ↦ below k p (greatest k (subst IsSome (sym (sym (elsewhere old new p None updates k n) ∙ e)) refl)) n
  ];
  left = λ k x e. elim (cases_Bool (is_eq (place_cmp p k))) [
    | inl t ↦ absurd (gone k x (same-place p k t) e)
    | inr n ↦ sym (elsewhere old new p None updates k n) ∙ e
  ];
  kept = λ k x e. elim (cases_Bool (is_eq (place_cmp p k))) [
    | inl t ↦ inl (sym (same-place p k t))
    | inr n ↦ inr (elsewhere old new p None updates k n ∙ e)
  ];
}
  where
    gone : (k : LinePlace) (x : Asked) → p ≡ k → new k ≡ Some x → ⊥
    gone k x same e = let none = here old new p None updates k same in cc (none, e)
