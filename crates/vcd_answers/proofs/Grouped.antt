-- A list that rises by a number of its elements is that of the elements with each number, one number after another.
use Rattle.std.proofs.Common.{◌≡◌, ℕ, zero, suc, ◌+◌, ◌<◌, ◌≤◌, Bool, true, false, cond, ltb, eqb, List, [], ◌∷◌, ◌++◌, length, get_or, refl, sym, ap, ◌∙◌, arith, ltb-true, eq-eqb, inl, inr}
use Rattle.std.proofs.lemmas.Bool.{ne_eqb, ltb-false}
use Rattle.std.proofs.lemmas.Bool.Decides.{eqb_tells}
use Rattle.std.specs.Prelude.{filter, flat_map}
use Rattle.std.specs.List.{range_with_len, All}
use Rattle.std.specs.List.Sorted.{IsNonDecreasingBy, IsStableByKey, ties}
use Rattle.std.specs.Ordering.{nat_cmp, is_lt}
use Rattle.std.specs.declared.cmp.Ordering.TheVariants.{Less, Equal, Greater}
use Rattle.std.proofs.lemmas.List.Elements.{filter_agree}

-- ---- lists alike

pub flat_same : {A : Type 0} (f g : ℕ → List A) (ts : List ℕ) → ((t : ℕ) → f t ≡ g t) → flat_map f ts ≡ flat_map g ts
flat_same f g [] same = refl
flat_same {A} f g (t ∷ ts) same = ap (λ (l : List A). l ++ flat_map f ts) (same t) ∙ ap (λ (l : List A). g t ++ l) (flat_same f g ts same)

module _ {A : Type 0} (key : A → ℕ) where
  -- the elements with this number
  abbrev pub of : List A → ℕ → List A
  of xs t = filter (λ x. eqb (key x) t) xs

  -- none is below this number, and each is at most the next
  abbrev pub Rises : ℕ → List A → Type 0
  Rises a [] = Unit {0}
  Rises a (x ∷ xs) = (a ≤ key x) × Rises (key x) xs

  abbrev pub Below : ℕ → List A → Type 0
  Below b [] = Unit {0}
  Below b (x ∷ xs) = (key x < b) × Below b xs

  pub rises-from : (a : ℕ) (xs : List A) → IsNonDecreasingBy key xs → ((d : A) → 0 < length xs → a ≤ key (get_or xs 0 d)) → Rises a xs
  rises-from a [] up first = tt
  rises-from a (x ∷ xs) up first = (first x (omega arith), rises-from (key x) xs (λ i j d low high. up (suc i) (suc j) d (omega arith) (omega arith)) (λ d some. up 0 1 d (omega arith) (omega arith)))

  pub below-from : (b : ℕ) (xs : List A) → All (λ x. key x < b) xs → Below b xs
  below-from b [] all = tt
  below-from b (x ∷ xs) all = (all 0 x (omega arith), below-from b xs (λ i d less. all (suc i) d (omega arith)))

  none : (a t : ℕ) (xs : List A) → Rises a xs → t < a → of xs t ≡ []
  none a t [] up less = refl
  none a t (x ∷ xs) up less = rw (ne_eqb (key x) t (λ e. omega (arith, up.0))) (none (key x) t xs up.1 (omega (arith, up.0)))

  -- an element below the numbers is in none of the lists
  passed : (x : A) (xs : List A) (a n : ℕ) → key x < a → flat_map (of (x ∷ xs)) (range_with_len a n) ≡ flat_map (of xs) (range_with_len a n)
  passed x xs a zero less = refl
  passed x xs a (suc n) less = rw (ne_eqb (key x) a (λ e. omega arith)) (ap (λ (l : List A). of xs a ++ l) (passed x xs (a + 1) n (omega arith)))

  first_in : (x : A) (xs : List A) (a n : ℕ) → Rises (key x) xs → a ≤ key x → key x < a + n → flat_map (of (x ∷ xs)) (range_with_len a n) ≡ x ∷ flat_map (of xs) (range_with_len a n)
  first_in x xs a zero up low high = absurd (omega arith)
  first_in x xs a (suc n) up low high = elim (eqb_tells (key x) a) [
    | inl (same, is) ↦ rw same (ap (λ (l : List A). x ∷ (of xs a ++ l)) (passed x xs (a + 1) n (omega arith)))
    | inr (same, is) ↦
        let above : a < key x = omega (arith, is) in
        let here : of xs a ≡ [] = none (key x) a xs up above in
        rw (same, here) (first_in x xs (a + 1) n up (omega arith) (omega arith))
  ]

  no_one : (ts : List ℕ) → flat_map (of []) ts ≡ []
  no_one [] = refl
  no_one (t ∷ ts) = no_one ts

  pub grouped : (a n : ℕ) (xs : List A) → Rises a xs → Below (a + n) xs → flat_map (of xs) (range_with_len a n) ≡ xs
  grouped a n [] up below = no_one (range_with_len a n)
  grouped a n (x ∷ xs) up below = first_in x xs a n up.1 up.0 below.0 ∙ ap (λ (l : List A). x ∷ l) (grouped a n xs (lower (key x) xs up.1 up.0) below.1)
    where
      lower : (b : ℕ) (ys : List A) → Rises b ys → a ≤ b → Rises a ys
      lower b [] up low = tt
      lower b (y ∷ ys) up low = (omega (arith, up.0), up.1)

  -- ---- a stable sort by the number

  tie : (x y : A) → ties (λ u v. is_lt (nat_cmp (key u) (key v))) x y ≡ eqb (key y) (key x)
  tie x y = by_order (ltb (key x) (key y)) (ltb (key y) (key x)) refl refl
    where
      lt_is : (a b : ℕ) → is_lt (nat_cmp a b) ≡ ltb a b
      lt_is a b = cases (ltb a b) (eqb a b)
        where
          cases : (l e : Bool) → is_lt (cond l Less (cond e Equal Greater)) ≡ l
          cases true e = refl
          cases false true = refl
          cases false false = refl

      by_order : (l g : Bool) → ltb (key x) (key y) ≡ l → ltb (key y) (key x) ≡ g → ties (λ u v. is_lt (nat_cmp (key u) (key v))) x y ≡ eqb (key y) (key x)
      by_order true g is1 is2 = rw (lt_is (key x) (key y), is1) (sym (ne_eqb (key y) (key x) (λ e. omega (arith, ltb-true (key x) (key y) is1))))
      by_order false true is1 is2 = rw (lt_is (key x) (key y), is1, lt_is (key y) (key x), is2) (sym (ne_eqb (key y) (key x) (λ e. omega (arith, ltb-true (key y) (key x) is2))))
      by_order false false is1 is2 = rw (lt_is (key x) (key y), is1, lt_is (key y) (key x), is2) (sym (eq-eqb (key y) (key x) (omega (arith, ltb-false (key x) (key y) is1, ltb-false (key y) (key x) is2))))

  pub stays : (x : A) (xs ys : List A) → IsStableByKey key nat_cmp xs ys → of ys (key x) ≡ of xs (key x)
  stays x xs ys stable =
      sym (filter_agree (ties (λ u v. is_lt (nat_cmp (key u) (key v))) x) (λ y. eqb (key y) (key x)) (tie x) ys)
      ∙ stable x
      ∙ filter_agree (ties (λ u v. is_lt (nat_cmp (key u) (key v))) x) (λ y. eqb (key y) (key x)) (tie x) xs
