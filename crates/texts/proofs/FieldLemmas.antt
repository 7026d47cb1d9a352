-- A field that is read is spelled so, and what is spelled so is read.
use Rattle.std.proofs.Common.{◌≡◌, ℕ, ◌+◌, Bool, true, false, cond, ◌&&◌, eqb, List, [], ◌∷◌, ◌++◌, length, Option, Some, None, refl, sym, ap, subst, ◌∙◌, take, drop, Bor, nat_eq, MatchOption}
use Rattle.std.specs.Cmp.Lexicographic.{pointwise}
use Rattle.std.proofs.lemmas.Bool.{eqb-true}
use Rattle.std.proofs.lemmas.Option.{same_Some}
use Rattle.gate_values.specs.Spelling.{byte_of_value}
use Rattle.gate_values.specs.declared.Value.{Value}
use Rattle.gate_values.specs.declared.Value.TheVariants.{Zero, One, X, Z}
use Rattle.texts.specs.fields.Spelling.{field, IsNumber}
use Rattle.texts.specs.fields.Reading.{◌>>=◌, behind_is, after_word, number_at, field_at, value_at}
use Rattle.texts.proofs.Numbers.{EndsNumber, number_takes, number_again}

-- the value of a step that read something
pub bind_some : {A B : Type 0} (o : Option A) (f : A → Option B) (y : B) → (o >>= f) ≡ Some y → (x : A) × (o ≡ Some x) × (f x ≡ Some y)
bind_some (Some x) f y e = (x, refl, e)
bind_some None f y e = absurd cc

-- ---- words

word_byte : (b c : ℕ) (same : Bool) (word text rest : List ℕ) → eqb c b ≡ same → ((r : List ℕ) → after_word word text ≡ Some r → text ≡ word ++ r) → cond same (after_word word text) None ≡ Some rest → c ∷ text ≡ b ∷ (word ++ rest)
word_byte b c true word text rest is more e = ap (λ (d : ℕ). d ∷ text) (eqb-true c b is) ∙ ap (λ (l : List ℕ). b ∷ l) (more rest e)
word_byte b c false word text rest is more e = absurd cc

pub after_takes : (word text rest : List ℕ) → after_word word text ≡ Some rest → text ≡ word ++ rest
after_takes [] text rest e = same_Some text rest e
after_takes (b ∷ word) [] rest e = absurd cc
after_takes (b ∷ word) (c ∷ text) rest e = word_byte b c (eqb c b) word text rest refl (λ r. after_takes word text r) e

-- ---- a number after a blank

pub field_takes : (text : List ℕ) (n : ℕ) (rest : List ℕ) → field_at text ≡ Some (n, rest) → (text ≡ field n ++ rest) × IsNumber n
unfolding field_at
field_takes text n rest e =
    let (digits, blank, number) = bind_some (after_word (32 ∷ []) text) number_at (n, rest) e in
    let taken = number_takes digits n rest number in
    (after_takes (32 ∷ []) text digits blank ∙ ap (λ (l : List ℕ). 32 ∷ l) taken.0, taken.1)

pub field_again : (n : ℕ) (text : List ℕ) → IsNumber n → EndsNumber text → field_at (field n ++ text) ≡ Some (n, text)
unfolding field_at
field_again n text small ends = number_again n text small ends

-- ---- a value

value_byte : (b : ℕ) (text : List ℕ) (v : Value) (rest : List ℕ) → value_at (b ∷ text) ≡ Some (v, rest) → (b ≡ byte_of_value v) × (text ≡ rest)
value_byte b text v rest e = by_zero (eqb b 48) refl e
  where
    by_z : (z : Bool) → eqb b 122 ≡ z → cond {A = Option (Value × List ℕ)} z (Some (Z, text)) None ≡ Some (v, rest) → (b ≡ byte_of_value v) × (text ≡ rest)
    by_z true is e = subst (λ (r : Value × List ℕ). (b ≡ byte_of_value r.0) × (text ≡ r.1)) (same_Some (Z, text) (v, rest) e) (eqb-true b 122 is, refl)
    by_z false is e = absurd cc

    by_x : (x : Bool) → eqb b 120 ≡ x → cond {A = Option (Value × List ℕ)} x (Some (X, text)) (cond (eqb b 122) (Some (Z, text)) None) ≡ Some (v, rest) → (b ≡ byte_of_value v) × (text ≡ rest)
    by_x true is e = subst (λ (r : Value × List ℕ). (b ≡ byte_of_value r.0) × (text ≡ r.1)) (same_Some (X, text) (v, rest) e) (eqb-true b 120 is, refl)
    by_x false is e = by_z (eqb b 122) refl e

    by_one : (o : Bool) → eqb b 49 ≡ o → cond {A = Option (Value × List ℕ)} o (Some (One, text)) (cond (eqb b 120) (Some (X, text)) (cond (eqb b 122) (Some (Z, text)) None)) ≡ Some (v, rest) → (b ≡ byte_of_value v) × (text ≡ rest)
    by_one true is e = subst (λ (r : Value × List ℕ). (b ≡ byte_of_value r.0) × (text ≡ r.1)) (same_Some (One, text) (v, rest) e) (eqb-true b 49 is, refl)
    by_one false is e = by_x (eqb b 120) refl e

    by_zero : (z : Bool) → eqb b 48 ≡ z → cond {A = Option (Value × List ℕ)} z (Some (Zero, text)) (cond (eqb b 49) (Some (One, text)) (cond (eqb b 120) (Some (X, text)) (cond (eqb b 122) (Some (Z, text)) None))) ≡ Some (v, rest) → (b ≡ byte_of_value v) × (text ≡ rest)
    by_zero true is e = subst (λ (r : Value × List ℕ). (b ≡ byte_of_value r.0) × (text ≡ r.1)) (same_Some (Zero, text) (v, rest) e) (eqb-true b 48 is, refl)
    by_zero false is e = by_one (eqb b 49) refl e

pub value_takes : (text : List ℕ) (v : Value) (rest : List ℕ) → value_at text ≡ Some (v, rest) → text ≡ byte_of_value v ∷ rest
value_takes [] v rest e = absurd cc
value_takes (b ∷ text) v rest e =
    let taken = value_byte b text v rest e in
    ap (λ (c : ℕ). c ∷ text) taken.0 ∙ ap (λ (l : List ℕ). byte_of_value v ∷ l) taken.1

pub value_again : (v : Value) (text : List ℕ) → value_at (byte_of_value v ∷ text) ≡ Some (v, text)
value_again Zero text = refl
value_again One text = refl
value_again X text = refl
value_again Z text = refl

-- ---- the code's `strip_prefix`

word_or_none : (b c : ℕ) (same : Bool) (word text : List ℕ) → eqb c b ≡ same → (after_word word text ≡ cond (pointwise nat_eq (take (length word) text) word) (Some (drop (length word) text)) None) → cond same (after_word word text) None ≡ cond (same && pointwise nat_eq (take (length word) text) word) (Some (drop (length word) text)) None
word_or_none b c true word text is more = more
word_or_none b c false word text is more = refl

after_is : (word text : List ℕ) → after_word word text ≡ cond (pointwise nat_eq (take (length word) text) word) (Some (drop (length word) text)) None
after_is [] text = refl
after_is (b ∷ word) [] = refl
after_is (b ∷ word) (c ∷ text) = word_or_none b c (eqb c b) word text refl (after_is word text)

pub after_strips : (word text : List ℕ) (r : Option (Bor (List ℕ))) → MatchOption r (pointwise nat_eq (take (length word) text) word ≡ false) (λ x. (pointwise nat_eq (take (length word) text) word ≡ true) × (x.now ≡ drop (length word) text) × (length x.now + length word ≡ length text)) → behind_is r ≡ after_word word text
after_strips word text None other = sym (after_is word text ∙ ap (λ b. cond b (Some (drop (length word) text)) None) other)
after_strips word text (Some x) (same, rest, len) = ap Some rest ∙ sym (after_is word text ∙ ap (λ b. cond b (Some (drop (length word) text)) None) same)
