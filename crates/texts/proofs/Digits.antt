-- Decimal numbers.
use Rattle.std.proofs.Common.{◌≡◌, ℕ, suc, ◌+◌, ◌-◌, ◌*◌, ◌<◌, ◌≤◌, min, Bool, true, false, ◌&&◌, cond, leb, List, [], ◌∷◌, length, drop, drop-cons, get_or, refl, sym, ap, ◌∙◌, arith, inl, inr}
use Rattle.std.specs.List.{fold, list_all}
use Rattle.std.proofs.lemmas.Bool.{cases_lt, leb-true}
use Rattle.texts.specs.declared.Amount.TheVariants.{NoNumber, Above, Within}
use Rattle.texts.specs.Text.{is_digit, is_number, decimal_value, amount}

abbrev pub with_digit : ℕ → ℕ → ℕ
with_digit n b = n * 10 + (b - 48)

-- further digits make no number less
pub grows : (n : ℕ) (bytes : List ℕ) → n ≤ fold with_digit n bytes
grows n [] = omega arith
grows n (b ∷ bytes) = let h = grows (with_digit n b) bytes in omega (arith, h)

-- a number that is above the limit stays so
pub capped : (n above : ℕ) (bytes : List ℕ) → min (fold with_digit (min n above) bytes) above ≡ min (fold with_digit n bytes) above
capped n above bytes = elim (cases_lt n above) [
  | inl below ↦ let same : min n above ≡ n = omega arith in ap (λ (m : ℕ). min (fold with_digit m bytes) above) same
  | inr past ↦
      let least : min n above ≡ above = omega arith in
      let one = grows (min n above) bytes in
      let two = grows n bytes in
      omega (arith, least, one, two)
]

digits_from : (word : List ℕ) (i : ℕ) → i < length word → drop i word ≡ get_or word i 0 ∷ drop (i + 1) word
digits_from word i lt = let more : suc i ≡ i + 1 = omega arith in drop-cons word i 0 lt ∙ ap (λ (k : ℕ). get_or word i 0 ∷ drop k word) more

-- one digit more, of a number that is capped
pub next_digit : (word : List ℕ) (above n i : ℕ) → i < length word → min (fold with_digit (min (with_digit n (get_or word i 0)) above) (drop (i + 1) word)) above ≡ min (fold with_digit n (drop i word)) above
next_digit word above n i lt =
    capped (with_digit n (get_or word i 0)) above (drop (i + 1) word)
    ∙ ap (λ (l : List ℕ). min (fold with_digit n l) above) (sym (digits_from word i lt))

-- whether all from this digit on are digits
pub digit_then : (word : List ℕ) (i : ℕ) → i < length word → list_all is_digit (drop i word) ≡ (is_digit (get_or word i 0) && list_all is_digit (drop (i + 1) word))
digit_then word i lt = ap (list_all is_digit) (digits_from word i lt)

pub number_is : (word : List ℕ) → 0 < length word → list_all is_digit word ≡ true → is_number word ≡ true
number_is [] h d = absurd (omega arith)
number_is (b ∷ word) h d = d

-- what is read is at most the limit
pub within : (limit : ℕ) (word : List ℕ) (n : ℕ) → amount limit word ≡ Within n → n ≤ limit
within limit word n h = cases (is_number word) (leb (decimal_value word) limit) refl h
  where
    cases : (a b : Bool) → leb (decimal_value word) limit ≡ b → cond a (cond b (Within (decimal_value word)) Above) NoNumber ≡ Within n → n ≤ limit
    cases false b e h = absurd cc
    cases true false e h = absurd cc
    cases true true e h = let same : decimal_value word ≡ n = cc in omega (arith, same, leb-true (decimal_value word) limit e)
