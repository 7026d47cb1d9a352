-- A line that has a form as it stands has no comment.
use Rattle.std.proofs.Common.{◌≡◌, ℕ, Bool, true, false, ◌&&◌, not, cond, List, [], ◌∷◌, Option, Some, None, refl, sym, ap, subst, ◌∙◌, leb, eqb-true}
use Rattle.std.specs.List.{list_all}
use Rattle.std.specs.Prelude.{codes}
use Rattle.std.specs.Str.{bytes_eq}
use Rattle.std.proofs.lemmas.Slice.Eq.{bytes_eq-Decides}
use Rattle.gate_values.specs.declared.Value.{Value}
use Rattle.gate_values.specs.Spelling.{value_of_byte, value_of_word}
use Rattle.texts.specs.declared.Amount.{Amount}
use Rattle.texts.specs.declared.Amount.TheVariants.{NoNumber, Above, Within}
use Rattle.texts.specs.Text.{amount, decimal_value, is_hash, is_name, is_number, words}
use Rattle.texts.proofs.Callers.{is_clean, content_clean, words_clean, name_clean, number_clean}
use Rattle.stimulus_file.specs.declared.form.Form.{Form}
use Rattle.stimulus_file.specs.declared.form.Form.TheVariants as forms
use Rattle.stimulus_file.specs.Forms.{Other, horizon_of_amount, horizon_line, setting_of_parts, setting_line, by_words, line_of}
use Rattle.stimulus_file.specs.inner.Reading.{line_seen}

abbrev AreClean : List (List ℕ) → Type 0
AreClean ws = list_all is_clean ws ≡ true

-- a word that was read as a number
amount_clean : (limit : ℕ) (word : List ℕ) → (amount limit word ≡ NoNumber → ⊥) → is_clean word ≡ true
amount_clean limit word some = cases (is_number word) refl some
  where
    cases : (b : Bool) → is_number word ≡ b → (cond b (cond (leb (decimal_value word) limit) (Within (decimal_value word)) Above) NoNumber ≡ NoNumber → ⊥) → is_clean word ≡ true
    cases true e some = number_clean word e
    cases false e some = absurd (some refl)

word_clean : (word known : List ℕ) → is_clean known ≡ true → bytes_eq word known ≡ true → is_clean word ≡ true
word_clean word known clean same = subst (λ (w : List ℕ). is_clean w ≡ true) (sym ((bytes_eq-Decides word known).0 same)) clean

value_clean : (word : List ℕ) (value : Value) → value_of_word word ≡ Some value → is_clean word ≡ true
value_clean [] value h = refl
value_clean (b ∷ []) value h = cases (is_hash b) refl
  where
    cases : (v : Bool) → is_hash b ≡ v → (not v && true) ≡ true
    cases false e = refl
    cases true e = absurd (let none : value_of_byte b ≡ None = subst (λ (c : ℕ). value_of_byte c ≡ None) (sym (eqb-true b 35 e)) refl in cc)
value_clean (b ∷ c ∷ word) value h = absurd cc

horizon_clean : (keyword horizon : List ℕ) → (horizon_line keyword horizon ≡ Other → ⊥) → AreClean (keyword ∷ horizon ∷ [])
horizon_clean keyword horizon formed = cases (bytes_eq keyword (codes "horizon")) refl formed
  where
    cases : (b : Bool) → bytes_eq keyword (codes "horizon") ≡ b → (cond b (horizon_of_amount (amount 1000000 horizon)) Other ≡ Other → ⊥) → AreClean (keyword ∷ horizon ∷ [])
    cases true e formed = rw (word_clean keyword (codes "horizon") refl e, amount_clean 1000000 horizon (λ none. formed (ap horizon_of_amount none))) refl
    cases false e formed = absurd (formed refl)

setting_clean : (keyword name time value : List ℕ) → (setting_line keyword name time value ≡ Other → ⊥) → AreClean (keyword ∷ name ∷ time ∷ value ∷ [])
setting_clean keyword name time value formed = cases (bytes_eq keyword (codes "set")) (is_name name) (value_of_word value) refl refl refl formed
  where
    no_value : (a : Amount) → setting_of_parts name a None ≡ Other
    no_value NoNumber = refl
    no_value Above = refl
    no_value (Within t) = refl

    cases : (k n : Bool) (v : Option Value) → bytes_eq keyword (codes "set") ≡ k → is_name name ≡ n → value_of_word value ≡ v → (cond (k && n) (setting_of_parts name (amount 1000000 time) v) Other ≡ Other → ⊥) → AreClean (keyword ∷ name ∷ time ∷ value ∷ [])
    cases false n v p q r formed = absurd (formed refl)
    cases true false v p q r formed = absurd (formed refl)
    cases true true None p q r formed = absurd (formed (no_value (amount 1000000 time)))
    cases true true (Some x) p q r formed =
        rw (word_clean keyword (codes "set") refl p, name_clean name q, amount_clean 1000000 time (λ none. formed (ap (λ (a : Amount). setting_of_parts name a (Some x)) none)), value_clean value x r) refl

words_formed : (ws : List (List ℕ)) → (by_words ws ≡ Other → ⊥) → AreClean ws
words_formed [] formed = refl
words_formed (a ∷ []) formed = absurd (formed refl)
words_formed (a ∷ b ∷ []) formed = horizon_clean a b formed
words_formed (a ∷ b ∷ c ∷ []) formed = absurd (formed refl)
words_formed (a ∷ b ∷ c ∷ d ∷ []) formed = setting_clean a b c d formed
words_formed (a ∷ b ∷ c ∷ d ∷ e ∷ more) formed = absurd (formed refl)

-- a form that is seen as none
other_seen : (f : Form) → line_seen f ≡ Other → f ≡ forms.Other
other_seen forms.Blank h = absurd cc
other_seen forms.Other h = refl
other_seen (forms.Horizon h) e = absurd cc
other_seen (forms.Setting name time value) e = absurd cc

-- the form of such a line is that of its content
pub no_comment : (line : List ℕ) (f : Form) → line_seen f ≡ by_words (words line) → (f ≡ forms.Other → ⊥) → line_seen f ≡ line_of line
unfolding line_of
no_comment line f is formed =
    let clean : AreClean (words line) = words_formed (words line) (λ e. formed (other_seen f (is ∙ e))) in
    is ∙ ap (λ (b : List ℕ). by_words (words b)) (sym (content_clean line (sym (words_clean line) ∙ clean)))
