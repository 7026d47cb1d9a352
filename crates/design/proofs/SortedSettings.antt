-- A stable sort by time is the order of time.
use Rattle.std.proofs.Common.{◌≡◌, ℕ, zero, suc, ◌<◌, ◌≤◌, ◌≢◌, Bool, true, false, ◌&&◌, not, cond, leb, eq-eqb, nat_cmp, lt-ltb, le-ltb, le-leb, List, [], ◌∷◌, filter, refl, sym, ap, ap₂, ◌∙◌, arith, ◌⊎◌, inl, inr}
use Rattle.std.specs.Prelude.{nat_eq, AllPairs, All}
use Rattle.std.specs.List.{AllByRecursion, dedup, dedup_from}
use Rattle.std.proofs.lemmas.List.Filters.{All-dedup}
use Rattle.std.specs.List.Sorted.{ties, IsNonDecreasingBy, IsStableByKey}
use Rattle.std.specs.Ordering.{is_lt}
use Rattle.std.specs.declared.cmp.Ordering.TheVariants.{Equal, Greater}
use Rattle.std.proofs.lemmas.Bool.{cases_Bool, cases_lt, lt-leb}
use Rattle.std.proofs.lemmas.List.Elements.{recursion_from_All, All-from_recursion}
use Rattle.circuit_meaning.specs.declared.Setting.{Setting}
use Rattle.design.specs.inner.KeptDesigns.{InTimeOrder}
use Rattle.design.specs.Join.{with_setting, in_time_order, is_at_one_time, schedule_of}

abbrev pub time_of : Setting → ℕ
time_of s = s.time

-- they have one time
abbrev same : Setting → Setting → Bool
same x y = ties (λ (a : Setting) (b : Setting). is_lt (nat_cmp a.time b.time)) x y

before-yes : (a b : ℕ) → a < b → is_lt (nat_cmp a b) ≡ true
before-yes a b h = rw (lt-ltb a b h) refl

before-no : (a b : ℕ) → b ≤ a → is_lt (nat_cmp a b) ≡ false
before-no a b h = rw (le-ltb a b h) (elim (nat_eq a b) as (λ c. is_lt (cond c Equal Greater) ≡ false) [ true ↦ refl | false ↦ refl ])

same-yes : (x y : Setting) → x.time ≡ y.time → same x y ≡ true
same-yes x y e = ap₂ (λ (p : Bool) (q : Bool). not p && not q) (before-no x.time y.time (omega arith)) (before-no y.time x.time (omega arith))

same-low : (x y : Setting) → x.time < y.time → same x y ≡ false
same-low x y h = ap (λ (p : Bool). not p && not (is_lt (nat_cmp y.time x.time))) (before-yes x.time y.time h)

same-high : (x y : Setting) → y.time < x.time → same x y ≡ false
same-high x y h = ap₂ (λ (p : Bool) (q : Bool). not p && not q) (before-no x.time y.time (omega arith)) (before-yes y.time x.time h)

-- no setting is earlier than one before it
abbrev pub Rises : List Setting → Type 0
Rises [] = Unit {0}
Rises (x ∷ xs) = AllByRecursion (λ y. x.time ≤ y.time) xs × Rises xs

rises-from : (xs : List Setting) → IsNonDecreasingBy time_of xs → Rises xs
rises-from [] h = tt
rises-from (x ∷ xs) h = (recursion_from_All (λ (y : Setting). x.time ≤ y.time) xs (λ i d l. h 0 (suc i) d (omega arith) (omega arith)), rises-from xs (λ i j d l m. h (suc i) (suc j) d (omega arith) (omega arith)))

passes : (x : Setting) (y : Setting) (ys : List Setting) → same x y ≡ true → filter (same x) (y ∷ ys) ≡ y ∷ filter (same x) ys
passes x y ys h = ap (λ b. cond b (y ∷ filter (same x) ys) (filter (same x) ys)) h

fails : (x : Setting) (y : Setting) (ys : List Setting) → same x y ≡ false → filter (same x) (y ∷ ys) ≡ filter (same x) ys
fails x y ys h = ap (λ b. cond b (y ∷ filter (same x) ys) (filter (same x) ys)) h

none-later : (x : Setting) (ys : List Setting) → AllByRecursion (λ y. x.time < y.time) ys → filter (same x) ys ≡ []
none-later x [] h = refl
none-later x (y ∷ ys) h = fails x y ys (same-low x y h.0) ∙ none-later x ys h.1

all-later : (x a : Setting) (ys : List Setting) → x.time < a.time → AllByRecursion (λ y. a.time ≤ y.time) ys → AllByRecursion (λ y. x.time < y.time) ys
all-later x a [] l h = tt
all-later x a (y ∷ ys) l h = (let k = h.0 in omega (arith, k, l), all-later x a ys l h.1)

-- what rises is fixed by its parts of one time
pub rise-alike : (xs ys : List Setting) → Rises xs → Rises ys → ((x : Setting) → filter (same x) xs ≡ filter (same x) ys) → xs ≡ ys
rise-alike [] [] up vp e = refl
rise-alike [] (y ∷ ys) up vp e = absurd (let k = e y ∙ passes y y ys (same-yes y y refl) in cc k)
rise-alike (x ∷ xs) [] up vp e = absurd (let k = sym (e x) ∙ passes x x xs (same-yes x x refl) in cc k)
rise-alike (x ∷ xs) (y ∷ ys) up vp e = go (λ h. rise-alike xs ys up.1 vp.1 h) (cases_lt x.time y.time) (cases_lt y.time x.time)
  where
    tail : x ≡ y → (z : Setting) → (same z x ≡ true) ⊎ (same z x ≡ false) → filter (same z) xs ≡ filter (same z) ys
    tail first z (inl p) = let k : x ∷ filter (same z) xs ≡ y ∷ filter (same z) ys = sym (passes z x xs p) ∙ e z ∙ passes z y ys (ap (same z) (sym first) ∙ p) in cc k
    tail first z (inr p) = sym (fails z x xs p) ∙ e z ∙ fails z y ys (ap (same z) (sym first) ∙ p)

    go : (((z : Setting) → filter (same z) xs ≡ filter (same z) ys) → xs ≡ ys) → (x.time < y.time) ⊎ (y.time ≤ x.time) → (y.time < x.time) ⊎ (x.time ≤ y.time) → x ∷ xs ≡ y ∷ ys
    go again (inl l) _ = absurd (let k = sym (passes x x xs (same-yes x x refl)) ∙ e x ∙ none-later x (y ∷ ys) (l, all-later x y ys l vp.0) in cc k)
    go again (inr l) (inl m) = absurd (let k = sym (passes y y ys (same-yes y y refl)) ∙ sym (e y) ∙ none-later y (x ∷ xs) (m, all-later y x xs m up.0) in cc k)
    go again (inr l) (inr m) =
        let k : x ∷ filter (same x) xs ≡ y ∷ filter (same x) ys = sym (passes x x xs (same-yes x x refl)) ∙ e x ∙ passes x y ys (same-yes x y (omega arith)) in
        let first : x ≡ y = cc k in
        ap₂ (λ (a : Setting) (more : List Setting). a ∷ more) first (again (λ z. tail first z (cases_Bool (same z x))))

module _ (P : Setting → Type 0) where
  placed-all : (s : Setting) (xs : List Setting) → P s → AllByRecursion P xs → AllByRecursion P (with_setting s xs)
  placed-all s [] p h = (p, tt)
  placed-all s (x ∷ xs) p h = elim (leb s.time x.time) as (λ b. AllByRecursion P (cond b (s ∷ x ∷ xs) (x ∷ with_setting s xs))) [
    | true ↦ (p, h)
    | false ↦ (h.0, placed-all s xs p h.1)
  ]

  pub in_order-all : (xs : List Setting) → AllByRecursion P xs → AllByRecursion P (in_time_order xs)
  in_order-all [] h = tt
  in_order-all (x ∷ xs) h = placed-all x (in_time_order xs) h.0 (in_order-all xs h.1)

above : (s x : Setting) (xs : List Setting) → s.time ≤ x.time → AllByRecursion (λ y. x.time ≤ y.time) xs → AllByRecursion (λ y. s.time ≤ y.time) xs
above s x [] l h = tt
above s x (y ∷ ys) l h = (let k = h.0 in omega (arith, k, l), above s x ys l h.1)

placed-rises : (s : Setting) (xs : List Setting) → Rises xs → Rises (with_setting s xs)
placed-rises s [] up = (tt, tt)
placed-rises s (x ∷ xs) up = elim (cases_lt x.time s.time) [
  | inl l ↦ rw (lt-leb s.time x.time l) (placed-all (λ y. x.time ≤ y.time) s xs (omega arith) up.0, placed-rises s xs up.1)
  | inr l ↦ rw (le-leb s.time x.time l) ((l, above s x xs l up.0), up)
]

pub in_order-rises : (xs : List Setting) → Rises (in_time_order xs)
in_order-rises [] = tt
in_order-rises (x ∷ xs) = placed-rises x (in_time_order xs) (in_order-rises xs)

apart : (z s x : Setting) → x.time < s.time → same z x ≡ true → same z s ≡ false
apart z s x l h = go (cases_lt z.time x.time) (cases_lt x.time z.time)
  where
    go : (z.time < x.time) ⊎ (x.time ≤ z.time) → (x.time < z.time) ⊎ (z.time ≤ x.time) → same z s ≡ false
    go (inl m) _ = absurd (let k = sym h ∙ same-low z x m in cc k)
    go (inr m) (inl n) = absurd (let k = sym h ∙ same-high z x n in cc k)
    go (inr m) (inr n) = same-low z s (omega arith)

placed-stable : (z s : Setting) (xs : List Setting) → filter (same z) (with_setting s xs) ≡ filter (same z) (s ∷ xs)
placed-stable z s [] = refl
placed-stable z s (x ∷ xs) = go (placed-stable z s xs) (cases_lt x.time s.time) (cases_Bool (same z x))
  where
    go : filter (same z) (with_setting s xs) ≡ filter (same z) (s ∷ xs) → (x.time < s.time) ⊎ (s.time ≤ x.time) → (same z x ≡ true) ⊎ (same z x ≡ false) → filter (same z) (with_setting s (x ∷ xs)) ≡ filter (same z) (s ∷ x ∷ xs)
    go again (inr l) _ = ap (λ b. filter (same z) (cond b (s ∷ x ∷ xs) (x ∷ with_setting s xs))) (le-leb s.time x.time l)
    go again (inl l) (inl p) =
        let q = apart z s x l p in
        ap (λ b. filter (same z) (cond b (s ∷ x ∷ xs) (x ∷ with_setting s xs))) (lt-leb s.time x.time l) ∙ passes z x (with_setting s xs) p
        ∙ ap (λ r. x ∷ r) (again ∙ fails z s xs q) ∙ sym (fails z s (x ∷ xs) q ∙ passes z x xs p)
    go again (inl l) (inr p) =
        ap (λ b. filter (same z) (cond b (s ∷ x ∷ xs) (x ∷ with_setting s xs))) (lt-leb s.time x.time l) ∙ fails z x (with_setting s xs) p ∙ again
        ∙ ap (λ r. cond (same z s) (s ∷ r) r) (sym (fails z x xs p))

in_order-stable : (z : Setting) (xs : List Setting) → filter (same z) (in_time_order xs) ≡ filter (same z) xs
in_order-stable z [] = refl
in_order-stable z (x ∷ xs) = placed-stable z x (in_time_order xs) ∙ ap (λ r. cond (same z x) (x ∷ r) r) (in_order-stable z xs)

-- a stable sort by time is the order of time
pub sorted-is : (xs ys : List Setting) → IsNonDecreasingBy time_of ys → IsStableByKey time_of nat_cmp xs ys → ys ≡ in_time_order xs
sorted-is xs ys up stable = rise-alike ys (in_time_order xs) (rises-from ys up) (in_order-rises xs) (λ z. stable z ∙ sym (in_order-stable z xs))

-- each setting is later than those before it
abbrev pub Climbs : List Setting → Type 0
Climbs [] = Unit {0}
Climbs (x ∷ xs) = AllByRecursion (λ y. x.time < y.time) xs × Climbs xs

dedup-all : (P : Setting → Type 0) (k : Setting) (xs : List Setting) → P k → AllByRecursion P xs → AllByRecursion P (dedup_from is_at_one_time k xs)
dedup-all P k [] p h = (p, tt)
dedup-all P k (x ∷ xs) p h = elim (is_at_one_time x k) as (λ b. AllByRecursion P (cond b (dedup_from is_at_one_time k xs) (k ∷ dedup_from is_at_one_time x xs))) [
  | true ↦ dedup-all P k xs p h.1
  | false ↦ (p, dedup-all P x xs h.0 h.1)
]

dedup-climbs : (k : Setting) (xs : List Setting) → AllByRecursion (λ y. k.time ≤ y.time) xs → Rises xs → Climbs (dedup_from is_at_one_time k xs)
dedup-climbs k [] h up = (tt, tt)
dedup-climbs k (x ∷ xs) h up = go (is_at_one_time x k) refl (dedup-climbs k xs h.1 up.1) (dedup-climbs x xs up.0 up.1)
  where
    less : is_at_one_time x k ≡ false → k.time < x.time
    less e = elim (cases_lt k.time x.time) [
      | inl l ↦ l
      | inr l ↦ absurd (let low = h.0 in let same : x.time ≡ k.time = omega (arith, low, l) in let yes = eq-eqb x.time k.time same in let k = sym e ∙ yes in cc k)
    ]

    go : (b : Bool) → is_at_one_time x k ≡ b → Climbs (dedup_from is_at_one_time k xs) → Climbs (dedup_from is_at_one_time x xs) → Climbs (cond b (dedup_from is_at_one_time k xs) (k ∷ dedup_from is_at_one_time x xs))
    go true e same next = same
    go false e same next = (dedup-all (λ y. k.time < y.time) x xs (less e) (all-later k x xs (less e) up.0), next)

pub climbs : (xs : List Setting) → Rises xs → Climbs (dedup is_at_one_time xs)
climbs [] up = tt
climbs (x ∷ xs) up = dedup-climbs x xs up.0 up.1

pub order-from : (xs : List Setting) → Climbs xs → InTimeOrder xs
order-from [] up i j e l m = absurd (omega arith)
order-from (x ∷ xs) up i zero e l m = absurd (omega arith)
order-from (x ∷ xs) up zero (suc j) e l m = All-from_recursion (λ (y : Setting). x.time < y.time) xs up.0 j e (omega arith)
order-from (x ∷ xs) up (suc i) (suc j) e l m = order-from xs up.1 i j e (omega arith) (omega arith)

pub order-differs : (xs : List Setting) → InTimeOrder xs → AllPairs (λ a b. a.time ≢ b.time) xs
order-differs xs h i j d l m = λ e. let k = h i j d l m in omega (arith, k, e)

pub scheduled-all : (P : Setting → Type 0) (xs : List Setting) → AllByRecursion P xs → All P (schedule_of xs)
scheduled-all P xs h = All-dedup is_at_one_time P (in_time_order xs) (All-from_recursion P (in_time_order xs) (in_order-all P xs h))
