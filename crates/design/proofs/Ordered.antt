-- Settings in the order of time: the one that holds at a time, and the one after it.
use Rattle.std.proofs.Common.{◌≡◌, ℕ, zero, suc, ◌<◌, ◌≤◌, min, true, if◌then◌else◌, leb, List, [], ◌∷◌, length, get_or, Some, None, refl, sym, ap, ◌∙◌, subst, arith, lt-ltb, le-ltb, le-leb, leb-true, inl, inr}
use Rattle.std.proofs.lemmas.Bool.{lt-leb, cases_lt}
use Rattle.std.proofs.lemmas.Option.{slice_get-get_or}
use Rattle.std.specs.List.{AllWithin, AllByRecursion, slice_get}
use Rattle.std.specs.List.Sorted.{IsPartitionedBy}
use Rattle.circuit_meaning.specs.declared.Setting.{Setting}
use Rattle.circuit_meaning.specs.Forward.{last_setting, later}
use Rattle.circuit_meaning.specs.Cells.{next_setting}
use Rattle.design.specs.inner.KeptDesigns.{InTimeOrder}
use Rattle.design.specs.inner.Given.{last_of, next_of}

-- in the order of time, those at or before t stand in front
pub parted : (settings : List Setting) (t : ℕ) → InTimeOrder settings → IsPartitionedBy (λ s. leb s.time t) settings
parted settings t order i j d h l p = elim (cases_lt i j) [
  | inl k ↦ let a : (get_or settings i d).time < (get_or settings j d).time = order i j d k l in
      let b : (get_or settings j d).time ≤ t = leb-true _ _ p in le-leb _ _ (omega arith)
  | inr k ↦ let e : i ≡ j = omega arith in subst (λ n. leb (get_or settings n d).time t ≡ true) (sym e) p
]

module _ (s : Setting) (rest : List Setting) (order : InTimeOrder (s ∷ rest)) where
  rest-order : InTimeOrder rest
  rest-order i j d h l = order (suc i) (suc j) d (omega arith) (omega arith)

  first-below : (j : ℕ) (d : Setting) → j < length rest → s.time < (get_or rest j d).time
  first-below j d l = order zero (suc j) d (omega arith) (omega arith)

module _ (t : ℕ) where
  -- none has come at t
  none-passed : (settings : List Setting) → AllWithin (λ s. t < s.time) settings 0 (length settings) → last_setting settings t ≡ None
  unfolding last_setting
  none-passed [] h = refl
  none-passed (s ∷ rest) h =
      let k : t < s.time = h 0 s (omega arith) (omega arith) in
      rw (lt-leb s.time t k) (none-passed rest (λ i d l m. h (suc i) d (omega arith) (omega arith)))

  later-of : (s : Setting) (rest : List Setting) (n : ℕ) → n ≤ length rest → InTimeOrder (s ∷ rest) → later s (last_of rest n) ≡ slice_get (s ∷ rest) n
  later-of s rest zero l order = refl
  later-of s rest (suc n) l order =
      let at = slice_get-get_or rest n s (omega arith) in
      let below = first-below s rest order n s (omega arith) in
      ap (later s) at ∙ ap (λ b. Some (if b then get_or rest n s else s)) (lt-ltb s.time (get_or rest n s).time below) ∙ sym at

  -- the last of those that have come
  pub last-at : (settings : List Setting) (n : ℕ) → n ≤ length settings → InTimeOrder settings
      → AllWithin (λ s. s.time ≤ t) settings 0 n → AllWithin (λ s. t < s.time) settings n (length settings) → last_setting settings t ≡ last_of settings n
  unfolding last_setting
  last-at [] zero l order passed after = refl
  last-at [] (suc n) l order passed after = absurd (omega arith)
  last-at (s ∷ rest) zero l order passed after = none-passed (s ∷ rest) after
  last-at (s ∷ rest) (suc n) l order passed after =
      let k : s.time ≤ t = passed 0 s (omega arith) (omega arith) in
      rw (le-leb s.time t k) (ap (later s) (last-at rest n (omega arith) (rest-order s rest order)
      (λ i d a b. passed (suc i) d (omega arith) (omega arith)) (λ i d a b. after (suc i) d (omega arith) (omega arith)))
      ∙ later-of s rest n (omega arith) order)

  module _ (limit : ℕ) where
    least-first : (s : Setting) (rest : List Setting) → s.time ≤ limit → InTimeOrder (s ∷ rest) → min s.time (next_of rest 0 limit) ≡ s.time
    least-first s [] l order = omega arith
    least-first s (r ∷ rest) l order = let k = first-below s (r ∷ rest) order 0 r (omega arith) in omega arith

    -- the first of those that have not come
    pub next-at : (settings : List Setting) (n : ℕ) → n ≤ length settings → InTimeOrder settings → AllByRecursion (λ s. s.time < limit) settings
        → AllWithin (λ s. s.time ≤ t) settings 0 n → AllWithin (λ s. t < s.time) settings n (length settings) → next_setting settings t limit ≡ next_of settings n limit
    unfolding next_setting
    next-at [] n l order below passed after = refl
    next-at (s ∷ rest) zero l order below passed after =
        let k : t < s.time = after 0 s (omega arith) (omega arith) in
        rw (lt-ltb t s.time k) (ap (min s.time) (next-at rest zero (omega arith) (rest-order s rest order) below.1
        (λ i d a b. absurd (omega arith)) (λ i d a b. after (suc i) d (omega arith) (omega arith)))
        ∙ least-first s rest (let m = below.0 in omega arith) order)
    next-at (s ∷ rest) (suc n) l order below passed after =
        let k : s.time ≤ t = passed 0 s (omega arith) (omega arith) in
        rw (le-ltb t s.time k) (next-at rest n (omega arith) (rest-order s rest order) below.1
        (λ i d a b. passed (suc i) d (omega arith) (omega arith)) (λ i d a b. after (suc i) d (omega arith) (omega arith)))
