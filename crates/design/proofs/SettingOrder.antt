-- The last and the next of some settings, sorted and each time once, are those of the settings as they stand.
use Rattle.std.proofs.Common.{◌≡◌, ℕ, ◌<◌, ◌≤◌, Bool, true, false, cond, nat_lt, nat_le, eqb-true, lt-ltb, le-ltb, le-leb, List, [], ◌∷◌, Option, Some, None, refl, sym, ap, ◌∙◌, arith, ◌⊎◌, inl, inr}
use Rattle.std.specs.Prelude.{min, if◌then◌else◌}
use Rattle.std.specs.List.{dedup, dedup_from}
use Rattle.std.proofs.lemmas.Bool.{cases_lt, lt-leb}
use Rattle.circuit_meaning.specs.declared.Setting.{Setting}
use Rattle.circuit_meaning.specs.Forward.{later, last_setting}
use Rattle.circuit_meaning.specs.Cells.{next_setting}
use Rattle.design.specs.Join.{with_setting, in_time_order, is_at_one_time, schedule_of}
use Rattle.design.specs.Laws.{OrderIsFree}

-- the earlier of two settings that are swapped has passed where the later one has
later-swaps : (s x : Setting) (o : Option Setting) → x.time < s.time → later x (later s o) ≡ later s (later x o)
later-swaps s x None l = rw (lt-ltb x.time s.time l) (rw (le-ltb s.time x.time (omega (arith, l))) refl)
later-swaps s x (Some b) l = go (cases_lt s.time b.time) (cases_lt x.time b.time)
  where
    back : later x (Some s) ≡ Some s
    back = rw (lt-ltb x.time s.time l) refl

    forth : later s (Some x) ≡ Some s
    forth = rw (le-ltb s.time x.time (omega (arith, l))) refl

    go : (s.time < b.time) ⊎ (b.time ≤ s.time) → (x.time < b.time) ⊎ (b.time ≤ x.time) → later x (later s (Some b)) ≡ later s (later x (Some b))
    go (inl m) (inl n) = rw (lt-ltb s.time b.time m) (rw (lt-ltb x.time b.time n) (rw (lt-ltb s.time b.time m) refl))
    go (inl m) (inr n) = absurd (omega (arith, l, m, n))
    go (inr m) (inl n) = rw (le-ltb s.time b.time m) (back ∙ sym (rw (lt-ltb x.time b.time n) (rw (le-ltb s.time b.time m) refl)))
    go (inr m) (inr n) = rw (le-ltb s.time b.time m) (back ∙ sym (rw (le-ltb x.time b.time n) forth))

-- of two settings at one time the first counts
later-doubles : (k x : Setting) (o : Option Setting) → x.time ≡ k.time → later k (later x o) ≡ later k o
later-doubles k x None e = rw (le-ltb k.time x.time (omega (arith, e))) refl
later-doubles k x (Some b) e = go (cases_lt x.time b.time)
  where
    go : (x.time < b.time) ⊎ (b.time ≤ x.time) → later k (later x (Some b)) ≡ later k (Some b)
    go (inl m) = rw (lt-ltb x.time b.time m) refl
    go (inr m) = rw (le-ltb x.time b.time m) (rw (le-ltb k.time x.time (omega (arith, e))) (sym (rw (le-ltb k.time b.time (omega (arith, e, m))) refl)))

-- a property that last and next share: how one setting more changes what is answered of the others
module _ (A : Type 0) (step : Setting → A → A)
    (swaps : (s x : Setting) (a : A) → x.time < s.time → step x (step s a) ≡ step s (step x a))
    (doubles : (k x : Setting) (a : A) → x.time ≡ k.time → step k (step x a) ≡ step k a)
    (of : List Setting → A) (steps : (s : Setting) (xs : List Setting) → of (s ∷ xs) ≡ step s (of xs)) where
  placed-same : (s : Setting) (xs : List Setting) → of (with_setting s xs) ≡ of (s ∷ xs)
  placed-same s [] = refl
  placed-same s (x ∷ xs) = elim (cases_lt x.time s.time) [
    | inl l ↦ rw (lt-leb s.time x.time l) (steps x (with_setting s xs) ∙ ap (step x) (placed-same s xs ∙ steps s xs) ∙ swaps s x (of xs) l ∙ sym (steps s (x ∷ xs) ∙ ap (step s) (steps x xs)))
    | inr l ↦ rw (le-leb s.time x.time l) refl
  ]

  ordered-same : (xs : List Setting) → of (in_time_order xs) ≡ of xs
  ordered-same [] = refl
  ordered-same (x ∷ xs) = placed-same x (in_time_order xs) ∙ steps x (in_time_order xs) ∙ ap (step x) (ordered-same xs) ∙ sym (steps x xs)

  deduped-same : (k : Setting) (xs : List Setting) → of (dedup_from is_at_one_time k xs) ≡ of (k ∷ xs)
  deduped-same k [] = refl
  deduped-same k (x ∷ xs) = go (is_at_one_time x k) refl (deduped-same k xs) (deduped-same x xs)
    where
      go : (b : Bool) → is_at_one_time x k ≡ b → of (dedup_from is_at_one_time k xs) ≡ of (k ∷ xs) → of (dedup_from is_at_one_time x xs) ≡ of (x ∷ xs)
          → of (cond b (dedup_from is_at_one_time k xs) (k ∷ dedup_from is_at_one_time x xs)) ≡ of (k ∷ x ∷ xs)
      go true e same next = same ∙ steps k xs ∙ sym (steps k (x ∷ xs) ∙ ap (step k) (steps x xs) ∙ doubles k x (of xs) (eqb-true x.time k.time e))
      go false e same next = steps k (dedup_from is_at_one_time x xs) ∙ ap (step k) next ∙ sym (steps k (x ∷ xs))

  scheduled-same : (xs : List Setting) → of (schedule_of xs) ≡ of xs
  scheduled-same xs = go (in_time_order xs) refl ∙ ordered-same xs
    where
      go : (ys : List Setting) → in_time_order xs ≡ ys → of (dedup is_at_one_time ys) ≡ of ys
      go [] e = refl
      go (y ∷ ys) e = deduped-same y ys

abbrev last-step : ℕ → Setting → Option Setting → Option Setting
last-step t s o = if nat_le s.time t then later s o else o

abbrev next-step : ℕ → Setting → ℕ → ℕ
next-step t s n = if nat_lt t s.time then min s.time n else n

last-on : (t : ℕ) (s : Setting) (o : Option Setting) → s.time ≤ t → last-step t s o ≡ later s o
last-on t s o m = ap (λ b. cond b (later s o) o) (le-leb s.time t m)

last-off : (t : ℕ) (s : Setting) (o : Option Setting) → t < s.time → last-step t s o ≡ o
last-off t s o m = ap (λ b. cond b (later s o) o) (lt-leb s.time t m)

next-on : (t : ℕ) (s : Setting) (n : ℕ) → t < s.time → next-step t s n ≡ min s.time n
next-on t s n m = ap (λ b. cond b (min s.time n) n) (lt-ltb t s.time m)

next-off : (t : ℕ) (s : Setting) (n : ℕ) → s.time ≤ t → next-step t s n ≡ n
next-off t s n m = ap (λ b. cond b (min s.time n) n) (le-ltb t s.time m)

last-swaps : (t : ℕ) (s x : Setting) (o : Option Setting) → x.time < s.time → last-step t x (last-step t s o) ≡ last-step t s (last-step t x o)
last-swaps t s x o l = go (cases_lt t s.time) (cases_lt t x.time)
  where
    go : (t < s.time) ⊎ (s.time ≤ t) → (t < x.time) ⊎ (x.time ≤ t) → last-step t x (last-step t s o) ≡ last-step t s (last-step t x o)
    go (inl m) _ = ap (last-step t x) (last-off t s o m) ∙ sym (last-off t s (last-step t x o) m)
    go (inr m) (inl n) = absurd (omega (arith, l, m, n))
    go (inr m) (inr n) =
        ap (last-step t x) (last-on t s o m) ∙ last-on t x (later s o) n ∙ later-swaps s x o l ∙ sym (ap (last-step t s) (last-on t x o n) ∙ last-on t s (later x o) m)

last-doubles : (t : ℕ) (k x : Setting) (o : Option Setting) → x.time ≡ k.time → last-step t k (last-step t x o) ≡ last-step t k o
last-doubles t k x o e = go (cases_lt t x.time)
  where
    go : (t < x.time) ⊎ (x.time ≤ t) → last-step t k (last-step t x o) ≡ last-step t k o
    go (inl m) = ap (last-step t k) (last-off t x o m)
    go (inr m) =
        let n : k.time ≤ t = omega (arith, e, m) in
        ap (last-step t k) (last-on t x o m) ∙ last-on t k (later x o) n ∙ later-doubles k x o e ∙ sym (last-on t k o n)

next-swaps : (t : ℕ) (s x : Setting) (n : ℕ) → x.time < s.time → next-step t x (next-step t s n) ≡ next-step t s (next-step t x n)
next-swaps t s x n l = go (cases_lt t s.time) (cases_lt t x.time)
  where
    least : min x.time (min s.time n) ≡ min s.time (min x.time n)
    least = omega arith

    go : (t < s.time) ⊎ (s.time ≤ t) → (t < x.time) ⊎ (x.time ≤ t) → next-step t x (next-step t s n) ≡ next-step t s (next-step t x n)
    go (inr m) (inl p) = absurd (omega (arith, l, m, p))
    go (inr m) (inr p) = ap (next-step t x) (next-off t s n m) ∙ next-off t x n p ∙ sym (ap (next-step t s) (next-off t x n p) ∙ next-off t s n m)
    go (inl m) (inr p) = ap (next-step t x) (next-on t s n m) ∙ next-off t x (min s.time n) p ∙ sym (ap (next-step t s) (next-off t x n p) ∙ next-on t s n m)
    go (inl m) (inl p) = ap (next-step t x) (next-on t s n m) ∙ next-on t x (min s.time n) p ∙ least ∙ sym (ap (next-step t s) (next-on t x n p) ∙ next-on t s (min x.time n) m)

next-doubles : (t : ℕ) (k x : Setting) (n : ℕ) → x.time ≡ k.time → next-step t k (next-step t x n) ≡ next-step t k n
next-doubles t k x n e = go (cases_lt t x.time)
  where
    least : min k.time (min x.time n) ≡ min k.time n
    least = omega (arith, e)

    go : (t < x.time) ⊎ (x.time ≤ t) → next-step t k (next-step t x n) ≡ next-step t k n
    go (inr m) = ap (next-step t k) (next-off t x n m)
    go (inl m) =
        let p : t < k.time = omega (arith, e, m) in
        ap (next-step t k) (next-on t x n m) ∙ next-on t k (min x.time n) p ∙ least ∙ sym (next-on t k n p)

pub order-is-free : (settings : List Setting) (t limit : ℕ) → OrderIsFree settings t limit
unfolding last_setting next_setting
order-is-free settings t limit = record {
  last = scheduled-same (Option Setting) (last-step t) (last-swaps t) (last-doubles t) (λ xs. last_setting xs t) (λ s xs. refl) settings;
  next = scheduled-same ℕ (next-step t) (next-swaps t) (next-doubles t) (λ xs. next_setting xs t limit) (λ s xs. refl) settings;
}
