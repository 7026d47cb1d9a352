-- The settings of an input.
use Rattle.std.proofs.Common.{◌≡◌, ℕ, ◌<◌, ◌≤◌, min, max, Bool, true, false, if◌then◌else◌, nat_lt, List, [], ◌∷◌, Option, Some, None, refl, ap, arith, ltb-false, ltb-true, lt-ltb, le-ltb, le-leb, inl, inr}
use Rattle.std.proofs.lemmas.Bool.{lt-leb, cases_lt}
use Rattle.std.specs.List.{AllByRecursion}
use Rattle.circuit_meaning.specs.Circuit.{Setting}
use Rattle.circuit_meaning.specs.Forward.{last_setting, later}
use Rattle.circuit_meaning.specs.Cells.{next_setting, input_start}

start-later : (a : Setting) (o : Option Setting) → input_start (later a o) ≡ max a.time (input_start o)
start-later a None = omega arith
start-later a (Some b) = go (nat_lt a.time b.time) refl
  where
    go : (x : Bool) → nat_lt a.time b.time ≡ x → input_start (Some (if x then b else a)) ≡ max a.time b.time
    go true h = let k : a.time < b.time = ltb-true _ _ h in omega arith
    go false h = let k : b.time ≤ a.time = ltb-false _ _ h in omega arith

-- with one setting more at the front
module _ (s : Setting) (rest : List Setting) (t : ℕ) where
  start-here : s.time ≤ t → input_start (last_setting (s ∷ rest) t) ≡ max s.time (input_start (last_setting rest t))
  unfolding last_setting
  start-here h = rw (le-leb s.time t h) (start-later s (last_setting rest t))

  last-passed : t < s.time → last_setting (s ∷ rest) t ≡ last_setting rest t
  unfolding last_setting
  last-passed h = rw (lt-leb s.time t h)

  module _ (limit : ℕ) where
    pub next-here : t < s.time → next_setting (s ∷ rest) t limit ≡ min s.time (next_setting rest t limit)
    unfolding next_setting
    next-here h = rw (lt-ltb t s.time h)

    pub next-passed : s.time ≤ t → next_setting (s ∷ rest) t limit ≡ next_setting rest t limit
    unfolding next_setting
    next-passed h = rw (le-ltb t s.time h)

pub start-le : (settings : List Setting) (t : ℕ) → input_start (last_setting settings t) ≤ t
start-le [] t = unfold last_setting in omega arith
start-le (s ∷ rest) t = elim (cases_lt t s.time) [
  | inl h ↦ rw (last-passed s rest t h) (start-le rest t)
  | inr h ↦ rw (start-here s rest t h) (let k = start-le rest t in omega arith)
]

pub next-le : (settings : List Setting) (t limit : ℕ) → next_setting settings t limit ≤ limit
next-le [] t limit = unfold next_setting in omega arith
next-le (s ∷ rest) t limit = elim (cases_lt t s.time) [
  | inl h ↦ rw (next-here s rest t limit h) (let k = next-le rest t limit in omega arith)
  | inr h ↦ rw (next-passed s rest t limit h) (next-le rest t limit)
]

pub next-above : (settings : List Setting) (t limit : ℕ) → t < limit → t < next_setting settings t limit
next-above [] t limit l = unfold next_setting in l
next-above (s ∷ rest) t limit l = elim (cases_lt t s.time) [
  | inl h ↦ rw (next-here s rest t limit h) (let k = next-above rest t limit l in omega arith)
  | inr h ↦ rw (next-passed s rest t limit h) (next-above rest t limit l)
]

-- Each setting stands on the same side of t and of u.
abbrev Between : ℕ → ℕ → Setting → Type 0
Between t u s = (s.time ≤ t → s.time ≤ u) × (s.time ≤ u → s.time ≤ t)

same_last : (settings : List Setting) (t u : ℕ) → AllByRecursion (Between t u) settings → last_setting settings u ≡ last_setting settings t
unfolding last_setting
same_last [] t u h = refl
same_last (s ∷ rest) t u h = elim (cases_lt t s.time) [
  | inl l ↦ rw (lt-leb s.time t l, lt-leb s.time u (grind arith)) (same_last rest t u h.1)
  | inr l ↦ rw (le-leb s.time t l, le-leb s.time u (h.0.0 l)) (ap (later s) (same_last rest t u h.1))
]

same_next : (settings : List Setting) (t u limit : ℕ) → AllByRecursion (Between t u) settings → next_setting settings u limit ≡ next_setting settings t limit
unfolding next_setting
same_next [] t u limit h = refl
same_next (s ∷ rest) t u limit h = elim (cases_lt t s.time) [
  | inl l ↦ rw (lt-ltb t s.time l, lt-ltb u s.time (grind arith)) (ap (min s.time) (same_next rest t u limit h.1))
  | inr l ↦ rw (le-ltb t s.time l, le-ltb u s.time (h.0.0 l)) (same_next rest t u limit h.1)
]

-- no setting stands between the start and the end of the interval
in_between : (settings : List Setting) (t u limit : ℕ) → input_start (last_setting settings t) ≤ u → u < next_setting settings t limit → AllByRecursion (Between t u) settings
in_between [] t u limit l h = tt
in_between (s ∷ rest) t u limit l h = elim (cases_lt t s.time) [
  | inl k ↦
      let l' = rw (last-passed s rest t k) at l in
      let h' = rw (next-here s rest t limit k) at h in
      ((λ a. omega arith, λ a. omega arith), in_between rest t u limit l' (omega arith))
  | inr k ↦
      let l' = rw (start-here s rest t k) at l in
      let h' = rw (next-passed s rest t limit k) at h in
      ((λ a. omega arith, λ a. k), in_between rest t u limit (omega arith) h')
]

module _ (settings : List Setting) (t u limit : ℕ) (low : input_start (last_setting settings t) ≤ u) (high : u < next_setting settings t limit) where
  pub last-steady : last_setting settings u ≡ last_setting settings t
  last-steady = same_last settings t u (in_between settings t u limit low high)

  pub next-steady : next_setting settings u limit ≡ next_setting settings t limit
  next-steady = same_next settings t u limit (in_between settings t u limit low high)
