-- A value that begins with `-` is no number, so the words are none of the forms, whether it is refused as a word or as a value.
use Rattle.std.proofs.Common.{◌≡◌, ◌∙◌, ◌||◌, ◌==◌, ℕ, List, [], ◌∷◌, Bool, true, false, refl, sym, subst, Option, Some, None, is_some, ap, arith}
use Rattle.std.specs.Prelude.{option_and_then, if◌then◌else◌}
use Rattle.std.proofs.lemmas.Bool.{or_right}
use Rattle.std.proofs.lemmas.Bool.Decides.{nat_tests}
use Rattle.texts.specs.Text.{is_number}
use Rattle.command_words.specs.Words.{Text, Key, Workers, Shards, Cells, Work, Word, Dashes, Alone, Valued, Name, Refused, Said, Form, what_is, by_word, with_value, with_at, with_names, value_at, read, form_of, form_by, first_form, second_form, number_at, number_in, number_or, workload_of}
use Rattle.command_words.proofs.Rows.{at_other, same_key, key_is}
use Rattle.command_words.proofs.Walks.{taken, by_value}

-- the value is no number
abbrev pub NoNumber : Option Text → Type 0
NoNumber None = ⊥
NoNumber (Some text) = (key : Key) → number_at key text ≡ None

abbrev pub IsBad : Said → Type 0
IsBad said = (key : Key) × NoNumber (value_at key said)

no_number_in : (least most : ℕ) (text : Text) → is_number text ≡ false → number_in least most text ≡ None
no_number_in least most text e = rw e refl

no_number : (text : Text) → is_number text ≡ false → (key : Key) → number_at key text ≡ None
no_number text e Workers = no_number_in 1 64 text e
no_number text e Shards = no_number_in 1 64 text e
no_number text e Cells = no_number_in 1 65536 text e
no_number text e Work = no_number_in 0 2147483647 text e

-- a word that is no name is no number
not_number : (text : Text) (what : Word) → what_is text ≡ what → (what ≡ Name → ⊥) → is_number text ≡ false
not_number [] what e other = absurd (other (sym e))
not_number (x ∷ xs) what e other = go (x == 45) refl
  where
    go : (t : Bool) → (x == 45) ≡ t → is_number (x ∷ xs) ≡ false
    go true d = let is : x ≡ 45 = grind (arith, nat_tests) in rw is refl
    go false d = absurd (other (sym e ∙ rw d refl))

then_none : {A B : Type 0} (o : Option A) → option_and_then {T = A} {U = B} (λ _. None) o ≡ None
then_none None = refl
then_none (Some x) = refl

given : (o : Option Text) → NoNumber o → is_some o ≡ true
given None bad = absurd bad
given (Some text) bad = refl

none_or : (key : Key) (n : ℕ) (o : Option Text) → NoNumber o → number_or key n o ≡ None
none_or key n None bad = absurd bad
none_or key n (Some text) bad = bad key

first_bad : (said : Said) (key : Key) → NoNumber (value_at key said) → said.work ≡ None → first_form said ≡ None
first_bad said Workers bad none = rw (none_or Workers 4 said.workers bad) refl
first_bad said Shards bad none = rw (none_or Shards 8 said.shards bad) (then_none (number_or Workers 4 said.workers))
first_bad said Cells bad none = rw (none_or Cells 16384 said.cells bad) (inner (number_or Workers 4 said.workers) (number_or Shards 8 said.shards))
  where
    inner : (a b : Option ℕ) → option_and_then {T = ℕ} {U = Form} (λ workers. option_and_then {T = ℕ} {U = Form} (λ shards. None) b) a ≡ None
    inner None b = refl
    inner (Some n) b = then_none b
first_bad said Work bad none = absurd (subst NoNumber none bad)

second_bad : (said : Said) (text : Text) (key : Key) → NoNumber (value_at key said) → said.work ≡ Some text → second_form said text ≡ None
second_bad said text key bad work = go (is_some said.shards || is_some said.cells) refl key bad
  where
    rest : Option Form
    rest = option_and_then (λ n. option_and_then (λ workers. workload_of said.names n workers) (number_or Workers 4 said.workers)) (number_at Work text)

    go : (t : Bool) → (is_some said.shards || is_some said.cells) ≡ t → (k : Key) → NoNumber (value_at k said) → (if t then None else rest) ≡ None
    go true e k b = refl
    go false e Workers b = rw (none_or Workers 4 said.workers b) (then_none (number_at Work text))
    go false e Shards b = let bad' : true ≡ false = sym (ap (λ x. x || is_some said.cells) (given said.shards b)) ∙ e in cc
    go false e Cells b = let bad' : true ≡ false = sym (or_right (is_some said.shards) (is_some said.cells) (given said.cells b)) ∙ e in cc
    go false e Work b = let none : number_at Work text ≡ None = subst NoNumber work b Work in rw none refl

bad_form : (said : Said) → IsBad said → form_of said ≡ None
bad_form said bad = go said.work refl
  where
    go : (o : Option Text) → said.work ≡ o → form_by o said ≡ None
    go None e = first_bad said bad.0 bad.1 e
    go (Some text) e = second_bad said text bad.0 bad.1 e

-- ---- a bad value stays

said_stays : (key k : Key) (v : Text) (said : Said) → is_some (value_at key said) ≡ false → NoNumber (value_at k said) → NoNumber (value_at k (with_at key v said))
said_stays key k v said none bad = go (same_key key k) refl
  where
    go : (t : Bool) → same_key key k ≡ t → NoNumber (value_at k (with_at key v said))
    go true e =
        let is = key_is key k e in
        let bad' : true ≡ false = sym (given (value_at k said) bad) ∙ (ap (λ j. is_some (value_at j said)) (sym is) ∙ none) in
        cc
    go false e = subst NoNumber (sym (at_other key k v said e)) bad

names_stay : (k : Key) (names : List Text) (said : Said) → NoNumber (value_at k said) → NoNumber (value_at k (with_names names said))
names_stay Workers names said bad = bad
names_stay Shards names said bad = bad
names_stay Cells names said bad = bad
names_stay Work names said bad = bad

abbrev pub Ends : List Text → Type 0
Ends words = (k : Option Key) (said : Said) → IsBad said → option_and_then form_of (read words k said) ≡ None

value_bad : (key : Key) (v : Text) (words : List Text) (said : Said) → IsBad said → Ends words
    → option_and_then form_of (option_and_then (read words None) (with_value key v said)) ≡ None
value_bad key v words said bad rest = go (is_some (value_at key said)) refl
  where
    go : (t : Bool) → is_some (value_at key said) ≡ t
        → option_and_then form_of (option_and_then (read words None) (if t then None else Some (with_at key v said))) ≡ None
    go true e = refl
    go false e = rest None (with_at key v said) (bad.0, said_stays key bad.0 v said e bad.1)

stays_bad : (words : List Text) → Ends words
stays_bad [] None said bad = bad_form said bad
stays_bad [] (Some key) said bad = refl
stays_bad (word ∷ words) None said bad = go (what_is word) (stays_bad words)
  where
    go : (what : Word) → Ends words → option_and_then form_of (by_word what word said (read words) words) ≡ None
    go Dashes rest = bad_form (with_names words said) (bad.0, names_stay bad.0 words said bad.1)
    go (Alone key) rest = rest (Some key) said bad
    go (Valued key v) rest = value_bad key v words said bad rest
    go Name rest = rest None (with_names (word ∷ []) said) (bad.0, names_stay bad.0 (word ∷ []) said bad.1)
    go Refused rest = refl
stays_bad (word ∷ words) (Some key) said bad = value_bad key word words said bad (stays_bad words)

-- ---- both readings give one form

abbrev pub Same : List Text → Type 0
Same words = (k : Option Key) (said : Said) → option_and_then form_of (read words k said) ≡ option_and_then form_of (taken words k said)

value_at_set : (key : Key) (v : Text) (said : Said) → ((k : Key) → number_at k v ≡ None) → NoNumber (value_at key (with_at key v said))
value_at_set Workers v said bad = bad
value_at_set Shards v said bad = bad
value_at_set Cells v said bad = bad
value_at_set Work v said bad = bad

value_same : (key : Key) (v : Text) (words : List Text) (said : Said) → Same words
    → option_and_then form_of (option_and_then (read words None) (with_value key v said)) ≡ option_and_then form_of (option_and_then (taken words None) (with_value key v said))
value_same key v words said rest = go (with_value key v said)
  where
    go : (o : Option Said) → option_and_then form_of (option_and_then (read words None) o) ≡ option_and_then form_of (option_and_then (taken words None) o)
    go None = refl
    go (Some s) = rest None s

-- a value that clap refuses
value_none : (key : Key) (word : Text) (words : List Text) (said : Said) → is_number word ≡ false
    → option_and_then form_of (option_and_then (read words None) (with_value key word said)) ≡ None
value_none key word words said bad = go (is_some (value_at key said))
  where
    go : (t : Bool) → option_and_then form_of (option_and_then (read words None) (if t then None else Some (with_at key word said))) ≡ None
    go true = refl
    go false = stays_bad words None (with_at key word said) (key, value_at_set key word said (no_number word bad))

pub same : (words : List Text) → Same words
same [] None said = refl
same [] (Some key) said = refl
same (word ∷ words) None said = go (what_is word) (same words)
  where
    go : (what : Word) → Same words
        → option_and_then form_of (by_word what word said (read words) words) ≡ option_and_then form_of (by_word what word said (taken words) words)
    go Dashes rest = refl
    go (Alone key) rest = rest (Some key) said
    go (Valued key v) rest = value_same key v words said rest
    go Name rest = rest None (with_names (word ∷ []) said)
    go Refused rest = refl
same (word ∷ words) (Some key) said = go (what_is word) refl (same words)
  where
    go : (what : Word) → what_is word ≡ what → Same words
        → option_and_then form_of (option_and_then (read words None) (with_value key word said)) ≡ option_and_then form_of (by_value what key word said (taken words None))
    go Dashes e rest = value_none key word words said (not_number word Dashes e (λ is. cc))
    go (Alone other) e rest = value_none key word words said (not_number word (Alone other) e (λ is. cc))
    go (Valued other v) e rest = value_none key word words said (not_number word (Valued other v) e (λ is. cc))
    go Name e rest = value_same key word words said rest
    go Refused e rest = value_none key word words said (not_number word Refused e (λ is. cc))
