-- What the parse answers, by the form that the words are.
use Rattle.std.proofs.Common.{◌≡◌, ◌∙◌, ◌==◌, ℕ, List, [], ◌∷◌, Bool, true, false, refl, sym, subst, Option, Some, None, option_map, ap, ap₂, length, suc, arith, inl, inr, map}
use Rattle.std.specs.Borrow.{Bor}
use Rattle.std.specs.List.{All, list_all}
use Rattle.std.specs.Str.{IsUtf8, bytes_eq}
use Rattle.std.proofs.lemmas.Bool.{and_parts}
use Rattle.std.proofs.lemmas.Bool.Decides.{nat_tests}
use Rattle.std.proofs.lemmas.List.Elements.{All-get_or, All-drop}
use Rattle.clap.specs.Kinds.{IsAmong, HasKind, Kinds, or_else}
use Rattle.clap.specs.Values.{kind_of}
use Rattle.clap.specs.declared.error.Error.{Error}
use Rattle.clap.specs.declared.error.kind.ErrorKind.TheVariants.{OutOfMemory}
use Rattle.std.specs.Prelude.{option_and_then, slice_get, fold, find, unwrap_or}
use Rattle.clap.specs.Matches.{first_value, matched_of, raw_values}
use Rattle.clap.specs.Walk.{Row, Rule, Text, all_of, first_of, rows_of, is_empty, with_default, default_rows, has_row, settled, nothing_held, idle, Walk}
use Rattle.clap.specs.Simple.{matches_of, built}
use Rattle.clap.specs.Faults.{fault_of, default_fault, defaults_fault, settle_fault, walk_fault}
use Rattle.clap.specs.declared.builder.value_parser.Reading.{Reading}
use Rattle.clap.specs.declared.parser.matches.Found.{Found}
use Rattle.clap.proofs.FaultLemmas.{leaf_fault}
use Rattle.clap.proofs.WalkLemmas.{first_value-rows, raw_values-rows}
use Rattle.command_words.specs.inner.Answer.{said_in}
use Rattle.command_words.specs.inner.Command.{command_app}
use Rattle.command_words.specs.Words.{Key, Workers, Shards, Cells, Work, Said, form_of, nothing_said, words_of, value_at}
use Rattle.command_words.proofs.Rules.{id_of, names_id, rules, shape}
use Rattle.command_words.proofs.Rows.{Shows}
use Rattle.command_words.proofs.Turns.{walk_at}
use Rattle.command_words.proofs.Walks.{Utf8s, Meets, taken, meets, fault_from, rows_from, end_of, or_else_nil}
use Rattle.command_words.proofs.Document.{same}

-- ---- no argument has a default

abbrev has_none : Rule → Bool
has_none a = is_empty a.defaults

never_zero : (n : ℕ) → (suc n == 0) ≡ true → ⊥
never_zero n e = grind (arith, nat_tests)

no_rows : (id : Text) (how : Reading) (ds : List Text) (rows : List Row) → is_empty ds ≡ true → default_rows id how ds rows ≡ rows
no_rows id how [] rows e = refl
no_rows id how (d ∷ ds) rows e = absurd (never_zero (length ds) e)

with_none : (rows : List Row) (a : Rule) → has_none a ≡ true → with_default rows a ≡ rows
with_none rows a e = go (has_row a.id rows) refl
  where
    go : (t : Bool) → has_row a.id rows ≡ t → with_default rows a ≡ rows
    go true h = rw h refl
    go false h = rw h (no_rows a.id _ a.defaults rows e)

fault_none : (rows : List Row) (a : Rule) → has_none a ≡ true → default_fault rows a ≡ []
fault_none rows a e = go (has_row a.id rows) refl
  where
    go : (t : Bool) → has_row a.id rows ≡ t → default_fault rows a ≡ []
    go true h = rw h refl
    go false h = rw (h, e) refl

all_none : (rs : List Rule) (rows : List Row) → list_all has_none rs ≡ true → (fold with_default rows rs ≡ rows) × (defaults_fault rows rs ≡ [])
unfolding defaults_fault
all_none [] rows e = (refl, refl)
all_none (a ∷ rs) rows e =
    let each = and_parts (has_none a) (list_all has_none rs) e in
    let rest = all_none rs rows each.1 in
    let now = with_none rows a each.0 in (
      ap (λ r. fold with_default r rs) now ∙ rest.0,
      ap₂ or_else (fault_none rows a each.0) (ap (λ r. defaults_fault r rs) now ∙ rest.1),
    )

rules_none : list_all has_none rules ≡ true
rules_none = refl

-- ---- the parse is the walk

abbrev start : Walk
start = walk_at [] None idle false

rows_are : (words : List Text) → matches_of command_app words ≡ rows_from start words
rows_are words = (all_none rules (settled rules (end_of start words).held).rows rules_none).0

fault_is : (words : List Text) → fault_of command_app words ≡ fault_from start words
fault_is words =
    leaf_fault (built command_app) nothing_held words refl
    ∙ ap (or_else (walk_fault shape [] start words))
    (ap (or_else (settle_fault rules false (end_of start words).held))
    (ap (λ k. or_else k []) (all_none rules (settled rules (end_of start words).held).rows rules_none).1)
    ∙ or_else_nil (settle_fault rules false (end_of start words).held))

-- ---- what the matches say

first_is : (id : Text) (rows : List Row) → first_of id rows ≡ option_and_then (λ vs. slice_get vs 0) (all_of id rows)
first_is id rows = go (find (λ r. bytes_eq r.id id) rows)
  where
    go : (o : Option Row) → option_and_then (λ r. slice_get r.values 0) o ≡ option_and_then (λ vs. slice_get vs 0) (option_map (λ r. r.values) o)
    go None = refl
    go (Some r) = refl

one_is : (o : Option Text) → option_and_then (λ vs. slice_get vs 0) (option_map (λ v. v ∷ []) o) ≡ o
one_is None = refl
one_is (Some v) = refl

value_in : (found : Found) (said : Said) → Shows said (rows_of found) → (key : Key) → first_value found (id_of key) ≡ value_at key said
value_in found said shows key =
    first_value-rows found (id_of key) ∙ (first_is (id_of key) (rows_of found)
    ∙ (ap (option_and_then (λ vs. slice_get vs 0)) (shows.0 key) ∙ one_is (value_at key said)))

said_is : (found : Found) (said : Said) → Shows said (rows_of found) → said_in found ≡ said
said_is found said shows =
    let names : unwrap_or (option_map raw_values (matched_of found names_id)) [] ≡ said.names =
    ap (λ o. unwrap_or o []) (raw_values-rows found names_id) ∙ shows.1 in
    rw (value_in found said shows Workers, value_in found said shows Shards, value_in found said shows Cells, value_in found said shows Work, names) refl

by_taken : (words : List Text) → words_of words ≡ option_and_then form_of (taken words None nothing_said)
by_taken words = same words None nothing_said

met : (words : List Text) → Utf8s words → Meets (taken words None nothing_said) start words
met words utf8 = meets words utf8 None nothing_said [] None idle (true, refl, refl, (nothing, refl))
  where
    nothing : (key : Key) → all_of (id_of key) [] ≡ option_map (λ v. v ∷ []) (value_at key nothing_said)
    nothing Workers = refl
    nothing Shards = refl
    nothing Cells = refl
    nothing Work = refl

-- words that clap takes are the form that its matches say
pub ok_form : (words : List Text) → Utf8s words → (found : Found) → fault_of command_app words ≡ [] → rows_of found ≡ matches_of command_app words
    → form_of (said_in found) ≡ words_of words
ok_form words utf8 found none rows = go (taken words None nothing_said) refl (met words utf8)
  where
    go : (o : Option Said) → taken words None nothing_said ≡ o → Meets o start words → form_of (said_in found) ≡ words_of words
    go None e m = absurd (m (sym (fault_is words) ∙ none))
    go (Some said) e m =
        let shows = subst (Shows said) (sym (rows ∙ rows_are words)) m.1 in
        ap form_of (said_is found said shows) ∙ sym (by_taken words ∙ ap (option_and_then form_of) e)

-- words that clap refuses are none of the forms
pub err_form : (words : List Text) → Utf8s words → (fault_of command_app words ≡ [] → ⊥) → words_of words ≡ None
err_form words utf8 some = go (taken words None nothing_said) refl (met words utf8)
  where
    go : (o : Option Said) → taken words None nothing_said ≡ o → Meets o start words → words_of words ≡ None
    go None e m = by_taken words ∙ ap (option_and_then form_of) e
    go (Some said) e m = absurd (some (fault_is words ∙ m.0))

pub utf8s : (words : List (Bor Text)) → All (λ w. IsUtf8 w.now) words → Utf8s (map (λ w. w.now) words)
utf8s [] h = tt
utf8s (word ∷ words) h =
    (All-get_or (λ w. IsUtf8 w.now) (word ∷ words) 0 word (omega arith) h, utf8s words (All-drop (λ w. IsUtf8 w.now) 1 (word ∷ words) h))

-- an error that isn't want of memory has one of the kinds
pub other_kind : (kinds : Kinds) (e : Error) → HasKind kinds e → (kind_of e ≡ OutOfMemory → ⊥) → kinds ≡ [] → ⊥
other_kind kinds e (inl memory) other none = other memory
other_kind kinds e (inr among) other none = subst (IsAmong (kind_of e)) none among
