-- Claims and stacks agree after a change of one strand, and of those that come out.
use Rattle.std.proofs.Common.{◌≡◌, ℕ, zero, suc, ◌⊎◌, true, List, [], ◌∷◌, map, slice_get, slice_set, refl, ap, sym, ◌∙◌, subst, inl, inr, Option, Some}
use Rattle.std.proofs.lemmas.Bool.{cases_eq}
use Rattle.valid_intervals.specs.declared.Point.{Point}
use Rattle.plan_machine.specs.declared.strand.Next.TheVariants.{Ask}
use Rattle.plan_machine.specs.Strands.{Strand, next, IsOnStack}
use Rattle.plan_machine.specs.Sound.{AreLinked}

-- the strands ys are xs, where strand i, which was s, is now b, and f was done to each other strand
pub record IsChange (xs ys : List Strand) (i : ℕ) (s b : Strand) (f : Strand → Strand) : Type 0 where
  pub was : slice_get xs i ≡ Some s
  pub now : slice_get ys i ≡ Some b
  pub back : (j : ℕ) (r : Strand) → (j ≡ i → ⊥) → slice_get ys j ≡ Some r → (o : Strand) × ((slice_get xs j ≡ Some o) × (r ≡ f o))
  pub forth : (j : ℕ) (o : Strand) → (j ≡ i → ⊥) → slice_get xs j ≡ Some o → slice_get ys j ≡ Some (f o)

pub set-here : {A : Type 0} (xs : List A) (i : ℕ) (s b : A) → slice_get xs i ≡ Some s → slice_get (slice_set xs i b) i ≡ Some b
set-here [] i s b h = absurd (cc h)
set-here (x ∷ xs) zero s b h = refl
set-here (x ∷ xs) (suc i) s b h = set-here xs i s b h

pub set-other : {A : Type 0} (xs : List A) (i j : ℕ) (b : A) → (j ≡ i → ⊥) → slice_get (slice_set xs i b) j ≡ slice_get xs j
set-other [] i j b ne = refl
set-other (x ∷ xs) zero zero b ne = absurd (ne refl)
set-other (x ∷ xs) zero (suc j) b ne = refl
set-other (x ∷ xs) (suc i) zero b ne = refl
set-other (x ∷ xs) (suc i) (suc j) b ne = set-other xs i j b (λ e. ne (ap suc e))

pub map-get : {A B : Type 0} (f : A → B) (xs : List A) (j : ℕ) (o : A) → slice_get xs j ≡ Some o → slice_get (map f xs) j ≡ Some (f o)
map-get f [] j o h = absurd (cc h)
map-get f (x ∷ xs) zero o h = let e : x ≡ o = cc h in ap (λ a. Some (f a)) e
map-get f (x ∷ xs) (suc j) o h = map-get f xs j o h

get-map : {A B : Type 0} (f : A → B) (xs : List A) (j : ℕ) (r : B) → slice_get (map f xs) j ≡ Some r → (o : A) × ((slice_get xs j ≡ Some o) × (r ≡ f o))
get-map f [] j r h = absurd (cc h)
get-map f (x ∷ xs) zero r h = (x, (refl, cc h))
get-map f (x ∷ xs) (suc j) r h = get-map f xs j r h

pub one-change : (xs : List Strand) (i : ℕ) (s b : Strand) → slice_get xs i ≡ Some s → IsChange xs (slice_set xs i b) i s b (λ o. o)
one-change xs i s b h = record {
  was = h;
  now = set-here xs i s b h;
  back = λ j r ne e. (r, (sym (set-other xs i j b ne) ∙ e, refl));
  forth = λ j o ne e. set-other xs i j b ne ∙ e;
}

pub all-change : (f : Strand → Strand) (xs : List Strand) (i : ℕ) (s b : Strand) → slice_get xs i ≡ Some s → IsChange xs (slice_set (map f xs) i b) i s b f
all-change f xs i s b h = record {
  was = h;
  now = set-here (map f xs) i (f s) b (map-get f xs i s h);
  back = λ j r ne e. get-map f xs j r (sym (set-other (map f xs) i j b ne) ∙ e);
  forth = λ j o ne e. set-other (map f xs) i j b ne ∙ map-get f xs j o e;
}

-- a strand asks for a claimed point
abbrev pub Waits : (Point → Option ℕ) → Strand → Type 0
Waits claim s = (p : Point) × ((q : ℕ) × ((next s ≡ Ask p) × (claim p ≡ Some q)))

-- what a change has to keep
pub record IsLinking (old new : Point → Option ℕ) (xs : List Strand) (i : ℕ) (s b : Strand) (f : Strand → Strand) : Type 0 where
  pub query : b.query ≡ s.query
  pub queries : (o : Strand) → (f o).query ≡ o.query
  pub same : (o : Strand) (x : Point) → IsOnStack (f o).stack x → IsOnStack o.stack x
  pub still : (o : Strand) (x : Point) → IsOnStack o.stack x → IsOnStack (f o).stack x
  pub own : (x : Point) → IsOnStack b.stack x → new x ≡ Some s.query.number
  pub alone : (x : Point) (j : ℕ) (o : Strand) → IsOnStack b.stack x → slice_get xs j ≡ Some o → IsOnStack o.stack x → j ≡ i
  pub others : (x : Point) (j : ℕ) (o : Strand) → (j ≡ i → ⊥) → slice_get xs j ≡ Some o → IsOnStack o.stack x → new x ≡ old x
  pub from : (x : Point) (q : ℕ) → new x ≡ Some q → IsOnStack b.stack x ⊎ ((old x ≡ Some q) × (IsOnStack s.stack x → IsOnStack b.stack x))
  pub waits : b.waits ≡ true → Waits new b
  pub wait : (j : ℕ) (o : Strand) → (j ≡ i → ⊥) → slice_get xs j ≡ Some o → (f o).waits ≡ true → Waits new (f o)

module _ (old new : Point → Option ℕ) (xs ys : List Strand) (i : ℕ) (s b : Strand) (f : Strand → Strand)
    (links : AreLinked old xs) (change : IsChange xs ys i s b f) (l : IsLinking old new xs i s b f) where
  held-after : (j : ℕ) (r : Strand) (p : Point) → slice_get ys j ≡ Some r → IsOnStack r.stack p → new p ≡ Some r.query.number
  held-after j r p at h = elim (cases_eq j i) [
    | inl e ↦
        let now : slice_get ys j ≡ Some b = subst (λ k. slice_get ys k ≡ Some b) (sym e) change.now in
        let same : b ≡ r = cc in
        let k : IsOnStack b.stack p = subst (λ (z : Strand). IsOnStack z.stack p) (sym same) h in
        let q : b.query ≡ r.query = ap (λ (z : Strand). z.query) same in
        l.own p k ∙ ap (λ z. Some z.number) (sym l.query ∙ q)
    | inr ne ↦
        let o = change.back j r ne at in
        let k : IsOnStack o.0.stack p = l.same o.0 p (subst (λ (z : Strand). IsOnStack z.stack p) o.1.1 h) in
        let q : r.query ≡ o.0.query = ap (λ (z : Strand). z.query) o.1.1 ∙ l.queries o.0 in
        l.others p j o.0 ne o.1.0 k ∙ links.on_stack j o.0 p o.1.0 k ∙ ap (λ z. Some z.number) (sym q)
  ]

  holder-after : (p : Point) (q : ℕ) → new p ≡ Some q → (j : ℕ) × ((r : Strand) × ((slice_get ys j ≡ Some r) × IsOnStack r.stack p))
  holder-after p q h = elim (l.from p q h) [
    | inl k ↦ (i, (b, (change.now, k)))
    | inr k ↦
        let o = links.holder p q k.0 in
        elim (cases_eq o.0 i) [
          | inl e ↦
              let was : slice_get xs o.0 ≡ Some s = subst (λ j. slice_get xs j ≡ Some s) (sym e) change.was in
              let at : slice_get xs o.0 ≡ Some o.1.0 = o.1.1.0 in
              let same : o.1.0 ≡ s = cc (was, at) in
              (i, (b, (change.now, k.1 (subst (λ (z : Strand). IsOnStack z.stack p) same o.1.1.1))))
          | inr ne ↦ (o.0, (f o.1.0, (change.forth o.0 o.1.0 ne o.1.1.0, l.still o.1.0 p o.1.1.1)))
        ]
  ]

  alone-after : (j : ℕ) (r : Strand) (p : Point) → IsOnStack b.stack p → slice_get ys j ≡ Some r → IsOnStack r.stack p → j ≡ i
  alone-after j r p hb at h = elim (cases_eq j i) [
    | inl e ↦ e
    | inr ne ↦
        let o = change.back j r ne at in
        l.alone p j o.0 hb o.1.0 (l.same o.0 p (subst (λ (z : Strand). IsOnStack z.stack p) o.1.1 h))
  ]

  is-now : (j : ℕ) (r : Strand) (p : Point) → j ≡ i → slice_get ys j ≡ Some r → IsOnStack r.stack p → IsOnStack b.stack p
  is-now j r p e at h =
      let now : slice_get ys j ≡ Some b = subst (λ k. slice_get ys k ≡ Some b) (sym e) change.now in
      let same : r ≡ b = cc in
      subst (λ (z : Strand). IsOnStack z.stack p) same h

  once-after : (j k : ℕ) (r t : Strand) (p : Point) → slice_get ys j ≡ Some r → slice_get ys k ≡ Some t → IsOnStack r.stack p → IsOnStack t.stack p → j ≡ k
  once-after j k r t p ar at hr ht = elim (cases_eq j i) [
    | inl e ↦ e ∙ sym (alone-after k t p (is-now j r p e ar hr) at ht)
    | inr ne ↦ elim (cases_eq k i) [
      | inl e ↦ alone-after j r p (is-now k t p e at ht) ar hr ∙ sym e
      | inr nk ↦
          let o = change.back j r ne ar in
          let w = change.back k t nk at in
          links.once j k o.0 w.0 p o.1.0 w.1.0 (l.same o.0 p (subst (λ (z : Strand). IsOnStack z.stack p) o.1.1 hr)) (l.same w.0 p (subst (λ (z : Strand). IsOnStack z.stack p) w.1.1 ht))
    ]
  ]

  waiting-after : (j : ℕ) (r : Strand) → slice_get ys j ≡ Some r → r.waits ≡ true → Waits new r
  waiting-after j r at h = elim (cases_eq j i) [
    | inl e ↦
        let now : slice_get ys j ≡ Some b = subst (λ k. slice_get ys k ≡ Some b) (sym e) change.now in
        let same : b ≡ r = cc in
        subst (Waits new) same (l.waits (subst (λ (z : Strand). z.waits ≡ true) (sym same) h))
    | inr ne ↦
        let o = change.back j r ne at in
        subst (Waits new) (sym o.1.1) (l.wait j o.0 ne o.1.0 (subst (λ (z : Strand). z.waits ≡ true) o.1.1 h))
  ]

  pub linked-after : AreLinked new ys
  linked-after = record { on_stack = held-after; holder = holder-after; once = once-after; waiting = waiting-after }
