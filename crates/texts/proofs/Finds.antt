-- The first byte that passes a test, and a test by a table.
use Rattle.std.proofs.Common.{◌≡◌, ℕ, zero, suc, ◌<◌, Bool, true, false, ◌&&◌, not, cond, ltb, nat_eq, List, get_or, length, Option, Some, None, refl, sym, ◌∙◌, arith, inl, inr}
use Rattle.std.specs.Bool.{beq}
use Rattle.std.specs.List.{position, position_or_len}
use Rattle.std.proofs.lemmas.Bool.{cases_eq, cases_lt, ltb-true, false≢true, lt-ltb}
use Rattle.std.proofs.lemmas.List.Sums.{passes_at_first, fails_before_first}
use Rattle.memchr.specs.Find.{IsFirstByte}

pub first_is_position : (test : ℕ → Bool) (bytes : List ℕ) (found : Option ℕ) → IsFirstByte test bytes found → found ≡ position test bytes
first_is_position test bytes None h = cases (ltb (position_or_len test bytes) (length bytes)) refl
  where
    cases : (b : Bool) → ltb (position_or_len test bytes) (length bytes) ≡ b → None ≡ cond b (Some (position_or_len test bytes)) None
    cases true e = let lt = ltb-true _ _ e in absurd (h (position_or_len test bytes) (omega arith) lt (passes_at_first test bytes 0 lt))
    cases false e = refl
first_is_position test bytes (Some k) h = elim (cases_eq (position_or_len test bytes) k) [ inl same ↦ at same | inr other ↦ elim (cases_lt (position_or_len test bytes) k) [ inl lt ↦ absurd (h.0.before (position_or_len test bytes) (omega arith) lt (passes_at_first test bytes 0 (omega (arith, lt, h.0.high)))) | inr le ↦ absurd (false≢true (sym (fails_before_first test bytes k 0 (omega (arith, le, other))) ∙ h.1)) ] ]
  where
    at : position_or_len test bytes ≡ k → Some k ≡ position test bytes
    at same = rw (same, lt-ltb k (length bytes) h.0.high) refl

-- the two tests agree below n
unfoldable pub agree_below : (ℕ → Bool) → (ℕ → Bool) → ℕ → Bool
agree_below f g zero = true
agree_below f g (suc n) = beq (f n) (g n) && agree_below f g n

both_of : (x y rest : Bool) → (beq x y && rest) ≡ true → (x ≡ y) × (rest ≡ true)
both_of true true rest h = (refl, h)
both_of true false rest h = cc
both_of false true rest h = cc
both_of false false rest h = (refl, h)

agree_at : (f g : ℕ → Bool) (n : ℕ) → agree_below f g n ≡ true → (b : ℕ) → b < n → f b ≡ g b
unfolding agree_below
agree_at f g zero h b lt = absurd (omega arith)
agree_at f g (suc n) h b lt =
    let both = both_of (f n) (g n) (agree_below f g n) h in
    elim (cases_eq b n) [ inl same ↦ rw same both.0 | inr other ↦ agree_at f g n both.1 b (omega arith) ]

-- the table has a comma at each byte that fails the test, and there alone
abbrev pub is_marked : List ℕ → ℕ → Bool
is_marked table b = not (nat_eq (get_or table b 0) 44)

pub by_table : (table : List ℕ) (test : ℕ → Bool) (b : ℕ) → b < 256 → agree_below (is_marked table) test 256 ≡ true → is_marked table b ≡ test b
by_table table test b lt h = agree_at _ _ 256 h b lt
