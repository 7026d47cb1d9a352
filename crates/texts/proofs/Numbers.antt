-- A number that is read is spelled so, and what is spelled so is read.
use Rattle.std.proofs.Common.{rules, ◌≡◌, ℕ, zero, suc, ◌+◌, ◌-◌, ◌*◌, ◌^◌, ◌<◌, ◌≤◌, Bool, true, false, cond, not, ◌||◌, ltb, leb, eqb, List, [], ◌∷◌, ◌++◌, length, get_or, Option, Some, None, refl, sym, ap, subst, ◌∙◌, length-append, arith, lt-ltb, ltb-true}
use Rattle.std.proofs.lemmas.Grind.{common_steps}
use Rattle.std.proofs.lemmas.Bool.{eqb-true, le-leb, leb-true, le-ltb, lt-leb, and_parts}
use Rattle.std.proofs.lemmas.Option.{cond_some}
use Rattle.std.proofs.lemmas.Str.Parse.{IsNumeralModel, numerals_by_fold}
use Rattle.std.proofs.lemmas.Fmt.{digits_decimal, digits_value-decimal, decimal-digits_value, decimal_nonempty, first_decimal, decimal_digit, length-decimal-le}
use Rattle.std.specs.Char.{is_ascii_digit}
use Rattle.std.specs.Fmt.{decimal}
use Rattle.std.specs.Str.{all_ascii_digits}
use Rattle.texts.specs.fields.Reading.{digits_at, is_number_at, number_at}
use Rattle.texts.specs.fields.inner.Reading.{digit_at}

-- the value of digits after others of this value
abbrev value_after : ℕ → List ℕ → ℕ
value_after n [] = n
value_after n (c ∷ cs) = value_after (10 * n + (c - 48)) cs

pub own : IsNumeralModel (λ ds. all_ascii_digits ds ≡ true) (value_after 0)
own = numerals_by_fold _ (search rules) value_after (search rules)

-- no digit follows
abbrev pub EndsNumber : List ℕ → Type 0
EndsNumber [] = Unit {0}
EndsNumber (b ∷ rest) = is_ascii_digit b ≡ false

-- ---- digits

abbrev Parts : List ℕ → ℕ → ℕ × List ℕ → Type 0
Parts text n read = (ds : List ℕ) × (all_ascii_digits ds ≡ true) × (text ≡ ds ++ read.1) × (read.0 ≡ value_after n ds)

digit_first : (c n : ℕ) (text : List ℕ) (read : ℕ × List ℕ) → is_ascii_digit c ≡ true → Parts text (10 * n + (c - 48)) read → Parts (c ∷ text) n read
digit_first c n text read digit (ds, all, parts, value) = (c ∷ ds, rw digit all, ap (λ (l : List ℕ). c ∷ l) parts, value)

digit_or_end : (c n : ℕ) (text : List ℕ) (b : Bool) → is_ascii_digit c ≡ b → Parts text (10 * n + (c - 48)) (digits_at (10 * n + (c - 48)) text) → Parts (c ∷ text) n (cond b (digits_at (10 * n + (c - 48)) text) (n, c ∷ text))
digit_or_end c n text true is more = digit_first c n text _ is more
digit_or_end c n text false is more = ([], refl, refl, refl)

digits_takes : (n : ℕ) (text : List ℕ) → Parts text n (digits_at n text)
digits_takes n [] = ([], refl, refl, refl)
digits_takes n (c ∷ text) = digit_or_end c n text (is_ascii_digit c) refl (digits_takes (10 * n + (c - 48)) text)

digits_end : (n : ℕ) (text : List ℕ) → EndsNumber text → digits_at n text ≡ (n, text)
digits_end n [] ends = refl
digits_end n (b ∷ text) ends = rw ends refl

digits_again : (n : ℕ) (ds text : List ℕ) → all_ascii_digits ds ≡ true → EndsNumber text → digits_at n (ds ++ text) ≡ (value_after n ds, text)
digits_again n [] text all ends = digits_end n text ends
digits_again n (c ∷ ds) text all ends =
    let both = and_parts (is_ascii_digit c) (all_ascii_digits ds) all in
    rw both.0 (digits_again (10 * n + (c - 48)) ds text both.1 ends)

-- digits only raise the value of what stands before them
pub digits_at_ge : (n : ℕ) (text : List ℕ) → n ≤ (digits_at n text).0
digits_at_ge n [] = omega arith
digits_at_ge n (c ∷ text) = at (is_ascii_digit c) (digits_at_ge (10 * n + (c - 48)) text)
  where
    at : (b : Bool) → 10 * n + (c - 48) ≤ (digits_at (10 * n + (c - 48)) text).0 → n ≤ (cond b (digits_at (10 * n + (c - 48)) text) (n, c ∷ text)).0
    at true more = omega arith
    at false more = omega arith

-- ---- numbers

first_is : (ds rest : List ℕ) → 0 < length ds → get_or (ds ++ rest) 0 0 ≡ get_or ds 0 0
first_is [] rest some = absurd (omega arith)
first_is (d ∷ ds) rest some = refl

one_digit : (first : ℕ) (short : Bool) → (not (eqb first 48) || short) ≡ true → first ≡ 48 → short ≡ true
one_digit first true either is = refl
one_digit first false either is = absurd (grind (arith, common_steps, either, is))

pub number_takes : (text : List ℕ) (n : ℕ) (rest : List ℕ) → number_at text ≡ Some (n, rest) → (text ≡ decimal n ++ rest) × (n < 2 ^ 32)
unfolding number_at
number_takes text n rest e =
    let read = digits_at 0 text in
    let is = cond_some (is_number_at text read) read (n, rest) e in
    let one = and_parts _ _ is.0 in
    let two = and_parts _ _ one.0 in
    let (ds, all, parts, value) = digits_takes 0 text in
    let longer : length read.1 < length text = ltb-true _ _ two.0 in
    let some : 0 < length ds = omega (arith, length-append ds read.1, ap length parts, longer) in
    let small : read.0 < 2 ^ 32 = ltb-true _ _ one.1 in
    let first : get_or text 0 0 ≡ get_or ds 0 0 = ap (λ (l : List ℕ). get_or l 0 0) parts ∙ first_is ds read.1 some in
    let alone : get_or ds 0 0 ≡ 48 → length ds ≡ 1 = λ zero. omega (arith, length-append ds read.1, ap length parts, leb-true _ _ (one_digit (get_or text 0 0) _ two.1 (first ∙ zero)), some) in
    let spelled : decimal (value_after 0 ds) ≡ ds = decimal-digits_value own ds all some alone (omega (arith, value, small)) in
    let whole : text ≡ decimal read.0 ++ read.1 = parts ∙ ap (λ (l : List ℕ). l ++ read.1) (sym spelled ∙ ap decimal (sym value)) in
    subst (λ (r : ℕ × List ℕ). (text ≡ decimal r.0 ++ r.1) × (r.0 < 2 ^ 32)) is.1 (whole, small)

-- the first digit of a number is no 0, or it is its only one
first_digit : (n : ℕ) (rest : List ℕ) → n < 2 ^ 64 → (not (eqb (get_or (decimal n ++ rest) 0 0) 48) || leb (length (decimal n ++ rest)) (length rest + 1)) ≡ true
first_digit zero rest small = grind (arith, common_steps, decimal_digit 0 (omega arith))
first_digit (suc n) rest small =
    let first = first_is (decimal (suc n)) rest (decimal_nonempty (suc n) small) in
    let above = first_decimal (suc n) (omega arith) small in
    grind (arith, common_steps, first, above)

pub number_again : (n : ℕ) (text : List ℕ) → n < 2 ^ 32 → EndsNumber text → number_at (decimal n ++ text) ≡ Some (n, text)
unfolding number_at
number_again n text small ends =
    let wide : n < 2 ^ 64 = omega (arith, small) in
    let read : digits_at 0 (decimal n ++ text) ≡ (n, text) = digits_again 0 (decimal n) text (digits_decimal own n wide) ends ∙ ap (λ (v : ℕ). (v, text)) (digits_value-decimal own n wide) in
    let longer : ltb (length text) (length (decimal n ++ text)) ≡ true = lt-ltb _ _ (omega (arith, length-append (decimal n) text, decimal_nonempty n wide)) in
    let below : ltb n (2 ^ 32) ≡ true = lt-ltb _ _ small in
    rw (read, longer, first_digit n text wide, below) refl

-- ---- the code's loop, and its tests

abbrev pub digit_read : ℕ → List ℕ → Option (ℕ × List ℕ)
digit_read d rest = Some (d, rest)

digit_first_is : (c n d : ℕ) (text rest : List ℕ) (b : Bool) → cond b (digit_read (c - 48) text) None ≡ digit_read d rest → cond b (digits_at (10 * n + (c - 48)) text) (n, c ∷ text) ≡ digits_at (10 * n + d) rest
digit_first_is c n d text rest true e = let same : (c - 48, text) ≡ (d, rest) = cc in ap (λ (r : ℕ × List ℕ). digits_at (10 * n + r.0) r.1) same
digit_first_is c n d text rest false e = absurd cc

pub digits_next : (n d : ℕ) (text rest : List ℕ) → digit_at text ≡ digit_read d rest → digits_at n text ≡ digits_at (10 * n + d) rest
digits_next n d [] rest e = absurd cc
digits_next n d (c ∷ text) rest e = digit_first_is c n d text rest (is_ascii_digit c) e

digit_none : (c n : ℕ) (text : List ℕ) (b : Bool) → cond b (digit_read (c - 48) text) None ≡ None → cond b (digits_at (10 * n + (c - 48)) text) (n, c ∷ text) ≡ (n, c ∷ text)
digit_none c n text true e = absurd cc
digit_none c n text false e = refl

pub digits_last : (n : ℕ) (text : List ℕ) → digit_at text ≡ None → digits_at n text ≡ (n, text)
digits_last n [] e = refl
digits_last n (c ∷ text) e = digit_none c n text (is_ascii_digit c) e

pub digits_shorter : (n : ℕ) (text : List ℕ) → length (digits_at n text).1 ≤ length text
digits_shorter n text = let (ds, all, parts, value) = digits_takes n text in omega (arith, ap length parts, length-append ds (digits_at n text).1)

no_number : (text : List ℕ) → is_number_at text (digits_at 0 text) ≡ false → None ≡ number_at text
unfolding number_at
no_number text is = rw is refl

pub number_wide : (text : List ℕ) → 2 ^ 32 ≤ (digits_at 0 text).0 → None ≡ number_at text
number_wide text wide = no_number text (let above : ltb (digits_at 0 text).0 (2 ^ 32) ≡ false = le-ltb _ _ wide in grind (arith, common_steps, above))

pub number_empty : (text rest : List ℕ) (n : ℕ) → (n, rest) ≡ digits_at 0 text → length text ≤ length rest → None ≡ number_at text
number_empty text rest n is short =
    let none : ltb (length (digits_at 0 text).1) (length text) ≡ false = le-ltb _ _ (omega (arith, short, ap (λ (r : ℕ × List ℕ). length r.1) is)) in
    no_number text (grind (arith, common_steps, none))

pub number_zero : (text rest : List ℕ) (n : ℕ) → (n, rest) ≡ digits_at 0 text → get_or text 0 0 ≡ 48 → length rest + 1 < length text → None ≡ number_at text
number_zero text rest n is first long =
    let more : leb (length text) (length (digits_at 0 text).1 + 1) ≡ false = lt-leb _ _ (omega (arith, long, ap (λ (r : ℕ × List ℕ). length r.1) is)) in
    no_number text (grind (arith, common_steps, more, first))

pub number_read : (text rest : List ℕ) (n : ℕ) → (n, rest) ≡ digits_at 0 text → n < 2 ^ 32 → length rest < length text → (get_or text 0 0 ≡ 48 → length text ≤ length rest + 1) → Some (n, rest) ≡ number_at text
unfolding number_at
number_read text rest n is small some alone =
    let longer : ltb (length rest) (length text) ≡ true = lt-ltb _ _ some in
    let below : ltb n (2 ^ 32) ≡ true = lt-ltb _ _ small in
    let first : (not (eqb (get_or text 0 0) 48) || leb (length text) (length rest + 1)) ≡ true = first_alone (get_or text 0 0) (length text) (length rest + 1) alone in
    rw (← is, longer, first, below) refl
  where
    first_alone : (f l m : ℕ) → (f ≡ 48 → l ≤ m) → (not (eqb f 48) || leb l m) ≡ true
    first_alone f l m alone = by (eqb f 48) refl
      where
        by : (b : Bool) → eqb f 48 ≡ b → (not b || leb l m) ≡ true
        by true e = le-leb l m (alone (eqb-true f 48 e))
        by false e = refl

-- ---- the code's writing

pub number_len : (n : ℕ) → n < 2 ^ 32 → length (decimal n) ≤ 10
number_len n small = length-decimal-le 10 n (omega arith) (omega (arith, small)) (omega (arith, small))
