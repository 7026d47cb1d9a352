-- Bytes of a name, counted one by one.
use Rattle.std.proofs.Common.{◌≡◌, ℕ, ◌+◌, ◌<◌, ◌≤◌, true, false, List, length, get_or, refl, sym, arith, inl, inr}
use Rattle.std.specs.List.{position_or_len}
use Rattle.std.proofs.lemmas.Bool.{cases_eq}
use Rattle.std.proofs.lemmas.List.Sums.{position_or_len_is}
use Rattle.texts.proofs.Tokens.{ends}
use Rattle.texts.specs.Text.{is_name_byte}

-- the first n bytes stand in a name
pub record AreNames (bytes : List ℕ) (n : ℕ) : Type 0 where
  pub within : n ≤ length bytes
  pub each : (k : ℕ) → k < n → ends (get_or bytes k 0) ≡ false

pub name_goes_on : (bytes : List ℕ) (n m : ℕ) → m ≡ n + 1 → AreNames bytes n → n < length bytes → is_name_byte (get_or bytes n 0) ≡ true → AreNames bytes m
name_goes_on bytes n m next h room is = record {
  within = omega (arith, next, room);
  each = λ k lt. elim (cases_eq k n) [ inl same ↦ rw (same, is) refl | inr other ↦ h.each k (below k lt other) ];
}
  where
    below : (k : ℕ) → k < m → (k ≡ n → ⊥) → k < n
    below k lt other = omega (arith, next, lt, other)

-- where the next one stands in no name, or there is none
pub counted : (bytes : List ℕ) (n : ℕ) → AreNames bytes n → (n < length bytes → is_name_byte (get_or bytes n 0) ≡ false) → n ≡ position_or_len ends bytes
counted bytes n h next = sym (position_or_len_is ends bytes n 0 h.within h.each (λ lt. rw (next lt) refl))
