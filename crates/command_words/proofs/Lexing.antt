-- What clap's lexer makes of a word, by what the word is.
use Rattle.std.proofs.Common.{◌≡◌, ◌∙◌, ◌==◌, ℕ, List, [], ◌∷◌, Bool, true, false, refl, sym, Option, Some, None, option_map, ap, subst, length, arith, suc}
use Rattle.std.specs.Prelude.{slice_get, if◌then◌else◌}
use Rattle.std.specs.List.{list_any, before_first, after_first}
use Rattle.std.specs.Str.{bytes_eq, chars, IsUtf8}
use Rattle.std.specs.Option.{option_map_or}
use Rattle.std.specs.Char.{encode_utf8}
use Rattle.std.proofs.lemmas.Bool.Decides.{nat_tests}
use Rattle.std.proofs.lemmas.Str.{encodes-chars}
use Rattle.std.proofs.Math.Utf8.{encodes}
use Rattle.clap.specs.Lexer.{long_of, short_of}
use Rattle.clap.specs.Walk.{Row, Text, Held, arg_by_long}
use Rattle.clap.specs.Faults.{flag_word_fault, flags_fault, bundle_fault, bundle_step_fault}
use Rattle.clap.specs.declared.error.kind.ErrorKind.TheVariants as kind
use Rattle.command_words.specs.Words.{Key, Word, Dashes, Alone, Valued, Name, Refused, key_of, is_equals, what_is, after_dash, after_two_dashes, option_by}
use Rattle.command_words.proofs.Rules.{rules, rule_at, by_long}

abbrev pub two_dashes : Text
two_dashes = 45 ∷ 45 ∷ []

abbrev pub held : List Row → Option (Text × List Text) → Held
held rows pending = record { rows = rows; pending = pending; skip = 0 }

abbrev pub Lexes : Text → Word → Type 0
Lexes word Dashes = bytes_eq word two_dashes ≡ true
Lexes word (Alone key) = (bytes_eq word two_dashes ≡ false)
    × (text : Text) × (long_of word ≡ Some (text, None)) × (arg_by_long rules text ≡ Some (rule_at key))
Lexes word (Valued key value) = (bytes_eq word two_dashes ≡ false)
    × (text : Text) × (long_of word ≡ Some (text, Some value)) × (arg_by_long rules text ≡ Some (rule_at key))
Lexes word Name = (bytes_eq word two_dashes ≡ false) × (long_of word ≡ None) × (short_of word ≡ None)
Lexes word Refused = (bytes_eq word two_dashes ≡ false)
    × ((rows : List Row) (pending : Option (Text × List Text)) → flag_word_fault rules false (long_of word) word (held rows pending) ≡ kind.UnknownArgument ∷ [])

-- a text that begins with `-` and isn't `-` alone has a character after it
some_char : (x : ℕ) (xs : List ℕ) → IsUtf8 (45 ∷ x ∷ xs) → (c : ℕ) × (slice_get (chars (x ∷ xs)) 0 ≡ Some c)
unfolding chars encode_utf8
some_char x xs utf8 = go (chars (x ∷ xs)) refl
  where
    go : (cs : List ℕ) → chars (x ∷ xs) ≡ cs → (c : ℕ) × (slice_get (chars (x ∷ xs)) 0 ≡ Some c)
    go [] e =
        let whole : encodes (45 ∷ chars (x ∷ xs)) ≡ 45 ∷ x ∷ xs = encodes-chars (45 ∷ x ∷ xs) utf8 in
        let short : 45 ∷ [] ≡ 45 ∷ x ∷ xs = rw e at whole in
        let bad : 1 ≡ length (45 ∷ x ∷ xs) = ap length short in
        absurd (omega arith)
    go (c ∷ cs) e = (c, ap (λ l. slice_get l 0) e)

flags_refused : (k x : ℕ) (xs : List ℕ) (c : ℕ) (h : Held) → slice_get (chars (x ∷ xs)) 0 ≡ Some c
    → flags_fault rules false (suc k) (x ∷ xs) 0 h ≡ kind.UnknownArgument ∷ []
unfolding flags_fault
flags_refused k x xs c h first = ap (λ o. bundle_step_fault rules false o (x ∷ xs) 0 h (flags_fault rules false k)) first

long_is : (x : ℕ) (xs : List ℕ) → (x == 45) ≡ false → long_of (45 ∷ x ∷ xs) ≡ None
long_is x xs e = rw e refl

short_is : (x : ℕ) (xs : List ℕ) → (x == 45) ≡ false → short_of (45 ∷ x ∷ xs) ≡ Some (x ∷ xs)
short_is x xs e = rw e refl

refused_short : (x : ℕ) (xs : List ℕ) (c : ℕ) → slice_get (chars (x ∷ xs)) 0 ≡ Some c → (x == 45) ≡ false
    → (rows : List Row) (pending : Option (Text × List Text))
    → flag_word_fault rules false (long_of (45 ∷ x ∷ xs)) (45 ∷ x ∷ xs) (held rows pending) ≡ kind.UnknownArgument ∷ []
refused_short x xs c first e rows pending =
    ap (λ l. flag_word_fault rules false l (45 ∷ x ∷ xs) (held rows pending)) (long_is x xs e)
    ∙ (ap (λ s. option_map_or (λ flags. bundle_fault rules false flags (held rows pending)) s []) (short_is x xs e)
    ∙ flags_refused (length xs) x xs c (held rows pending) first)

option_lexes : (x : ℕ) (xs : List ℕ) (o : Option Key) → key_of (before_first is_equals (x ∷ xs)) ≡ o → Lexes (45 ∷ 45 ∷ x ∷ xs) (option_by o (x ∷ xs))
option_lexes x xs None e =
    (refl, λ rows pending. rw (by_long (before_first is_equals (x ∷ xs)) ∙ ap (option_map rule_at) e) refl)
option_lexes x xs (Some key) e = go (list_any is_equals (x ∷ xs)) refl
  where
    found : arg_by_long rules (before_first is_equals (x ∷ xs)) ≡ Some (rule_at key)
    found = by_long (before_first is_equals (x ∷ xs)) ∙ ap (option_map rule_at) e

    go : (t : Bool) → list_any is_equals (x ∷ xs) ≡ t
        → Lexes (45 ∷ 45 ∷ x ∷ xs) (if t then Valued key (after_first is_equals (x ∷ xs)) else Alone key)
    go true has = (refl, before_first is_equals (x ∷ xs), rw has refl, found)
    go false has = (refl, before_first is_equals (x ∷ xs), rw has refl, found)

two_lexes : (bytes : Text) → Lexes (45 ∷ 45 ∷ bytes) (after_two_dashes bytes)
two_lexes [] = refl
two_lexes (x ∷ xs) = option_lexes x xs (key_of (before_first is_equals (x ∷ xs))) refl

is_dash : (x : ℕ) → (x == 45) ≡ true → x ≡ 45
is_dash x e = grind (arith, nat_tests)

dash_lexes : (bytes : Text) → IsUtf8 (45 ∷ bytes) → Lexes (45 ∷ bytes) (after_dash bytes)
dash_lexes [] utf8 = (refl, refl, refl)
dash_lexes (x ∷ xs) utf8 = go (x == 45) refl
  where
    go : (t : Bool) → (x == 45) ≡ t → Lexes (45 ∷ x ∷ xs) (if t then after_two_dashes xs else Refused)
    go true e = subst (λ d. Lexes (45 ∷ d ∷ xs) (after_two_dashes xs)) (sym (is_dash x e)) (two_lexes xs)
    go false e =
        let some = some_char x xs utf8 in
        (rw e refl, refused_short x xs some.0 some.1 e)

pub lexes : (word : Text) → IsUtf8 word → Lexes word (what_is word)
lexes [] utf8 = (refl, refl, refl)
lexes (x ∷ xs) utf8 = go (x == 45) refl
  where
    go : (t : Bool) → (x == 45) ≡ t → Lexes (x ∷ xs) (if t then after_dash xs else Name)
    go true e = subst (λ d. Lexes (d ∷ xs) (after_dash xs)) (sym (is_dash x e)) (dash_lexes xs (subst (λ d. IsUtf8 (d ∷ xs)) (is_dash x e) utf8))
    go false e = (rw e refl, rw e refl, rw e refl)
