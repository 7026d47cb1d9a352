-- What the rows of a walk show, and how one use changes that.
use Rattle.std.proofs.Common.{◌≡◌, ◌∙◌, ◌++◌, List, [], ◌∷◌, Bool, true, false, refl, sym, Option, Some, None, option_map, is_some, ap, subst}
use Rattle.std.specs.Prelude.{unwrap_or}
use Rattle.std.specs.Str.{bytes_eq}
use Rattle.std.proofs.lemmas.Slice.Eq.{bytes_eq-Decides}
use Rattle.clap.specs.Walk.{Row, Text, all_of, has_row, with_values, without, used}
use Rattle.clap.specs.declared.parser.matches.ValueSource.{ValueSource}
use Rattle.clap.specs.declared.builder.value_parser.Reading.{Reading}
use Rattle.command_words.specs.Words.{Key, Workers, Shards, Cells, Work, Said, value_at, with_at, with_names}
use Rattle.command_words.proofs.Rules.{id_of, names_id, rule_at, names_built}

pub has_all : (id : Text) (rows : List Row) → has_row id rows ≡ is_some (all_of id rows)
has_all id [] = refl
has_all id (r ∷ rows) = go (bytes_eq r.id id) refl (has_all id rows)
  where
    go : (t : Bool) → bytes_eq r.id id ≡ t → has_row id rows ≡ is_some (all_of id rows) → has_row id (r ∷ rows) ≡ is_some (all_of id (r ∷ rows))
    go true e rec = rw e refl
    go false e rec = rw e rec

pub without_none : (id : Text) (rows : List Row) → has_row id rows ≡ false → without id rows ≡ rows
without_none id [] none = refl
without_none id (r ∷ rows) none = go (bytes_eq r.id id) refl (without_none id rows)
  where
    go : (t : Bool) → bytes_eq r.id id ≡ t → (has_row id rows ≡ false → without id rows ≡ rows) → without id (r ∷ rows) ≡ r ∷ rows
    go true e rec = let bad : true ≡ false = rw e at none in cc
    go false e rec = let rest : has_row id rows ≡ false = rw e at none in rw e (ap (λ xs. r ∷ xs) (rec rest))

pub with_same : (id : Text) (how : Reading) (s : ValueSource) (vs : List Text) (rows : List Row)
    → all_of id (with_values id how s vs rows) ≡ Some (unwrap_or (all_of id rows) [] ++ vs)
with_same id how s vs [] = rw ((bytes_eq-Decides id id).1 refl) refl
with_same id how s vs (r ∷ rows) = go (bytes_eq r.id id) refl (with_same id how s vs rows)
  where
    go : (t : Bool) → bytes_eq r.id id ≡ t → all_of id (with_values id how s vs rows) ≡ Some (unwrap_or (all_of id rows) [] ++ vs)
        → all_of id (with_values id how s vs (r ∷ rows)) ≡ Some (unwrap_or (all_of id (r ∷ rows)) [] ++ vs)
    go true e rec = rw (e, e) refl
    go false e rec = rw (e, e) rec

pub with_other : (id other : Text) (how : Reading) (s : ValueSource) (vs : List Text) (rows : List Row) → bytes_eq id other ≡ false
    → all_of other (with_values id how s vs rows) ≡ all_of other rows
with_other id other how s vs [] differs = rw differs refl
with_other id other how s vs (r ∷ rows) differs = go (bytes_eq r.id id) refl (with_other id other how s vs rows differs)
  where
    more : (t : Bool) → bytes_eq r.id other ≡ t → bytes_eq r.id id ≡ false → all_of other (with_values id how s vs rows) ≡ all_of other rows
        → all_of other (with_values id how s vs (r ∷ rows)) ≡ all_of other (r ∷ rows)
    more true e f rec = rw (f, e) refl
    more false e f rec = rw (f, e) rec

    go : (t : Bool) → bytes_eq r.id id ≡ t → all_of other (with_values id how s vs rows) ≡ all_of other rows
        → all_of other (with_values id how s vs (r ∷ rows)) ≡ all_of other (r ∷ rows)
    go true e rec =
        let differs' : bytes_eq r.id other ≡ false = subst (λ x. bytes_eq x other ≡ false) (sym ((bytes_eq-Decides r.id id).0 e)) differs in
        rw (e, differs') refl
    go false e rec = more (bytes_eq r.id other) refl e rec

-- ---- what the rows show

abbrev pub Shows : Said → List Row → Type 0
Shows said rows = ((key : Key) → all_of (id_of key) rows ≡ option_map (λ v. v ∷ []) (value_at key said))
    × (unwrap_or (all_of names_id rows) [] ≡ said.names)

abbrev pub same_key : Key → Key → Bool
same_key key k = bytes_eq (id_of key) (id_of k)

pub key_is : (key k : Key) → same_key key k ≡ true → key ≡ k
key_is Workers Workers e = refl
key_is Shards Shards e = refl
key_is Cells Cells e = refl
key_is Work Work e = refl
key_is Workers Shards e = cc
key_is Workers Cells e = cc
key_is Workers Work e = cc
key_is Shards Workers e = cc
key_is Shards Cells e = cc
key_is Shards Work e = cc
key_is Cells Workers e = cc
key_is Cells Shards e = cc
key_is Cells Work e = cc
key_is Work Workers e = cc
key_is Work Shards e = cc
key_is Work Cells e = cc

at_same : (key : Key) (v : Text) (said : Said) → value_at key (with_at key v said) ≡ Some v
at_same Workers v said = refl
at_same Shards v said = refl
at_same Cells v said = refl
at_same Work v said = refl

pub at_other : (key k : Key) (v : Text) (said : Said) → same_key key k ≡ false → value_at k (with_at key v said) ≡ value_at k said
at_other Workers Workers v said e = cc
at_other Shards Shards v said e = cc
at_other Cells Cells v said e = cc
at_other Work Work v said e = cc
at_other Workers Shards v said e = refl
at_other Workers Cells v said e = refl
at_other Workers Work v said e = refl
at_other Shards Workers v said e = refl
at_other Shards Cells v said e = refl
at_other Shards Work v said e = refl
at_other Cells Workers v said e = refl
at_other Cells Shards v said e = refl
at_other Cells Work v said e = refl
at_other Work Workers v said e = refl
at_other Work Shards v said e = refl
at_other Work Cells v said e = refl

names_stay : (key : Key) (v : Text) (said : Said) → (with_at key v said).names ≡ said.names
names_stay Workers v said = refl
names_stay Shards v said = refl
names_stay Cells v said = refl
names_stay Work v said = refl

no_name : (key : Key) → bytes_eq (id_of key) names_id ≡ false
no_name Workers = refl
no_name Shards = refl
no_name Cells = refl
no_name Work = refl

no_key : (key : Key) → bytes_eq names_id (id_of key) ≡ false
no_key Workers = refl
no_key Shards = refl
no_key Cells = refl
no_key Work = refl

-- an option that was said has a row
pub has_said : (key : Key) (said : Said) (rows : List Row) → Shows said rows → has_row (id_of key) rows ≡ is_some (value_at key said)
has_said key said rows shows = has_all (id_of key) rows ∙ (ap is_some (shows.0 key) ∙ go (value_at key said))
  where
    go : (o : Option Text) → is_some (option_map (λ v. v ∷ []) o) ≡ is_some o
    go None = refl
    go (Some v) = refl

pub shows_value : (key : Key) (v : Text) (said : Said) (rows : List Row) → Shows said rows → has_row (id_of key) rows ≡ false
    → Shows (with_at key v said) (used (rule_at key) (v ∷ []) rows)
shows_value key v said rows shows none = (each, names)
  where
    rows_stay : without (id_of key) rows ≡ rows
    rows_stay = without_none (id_of key) rows none

    empty : (o : Option (List Text)) → is_some o ≡ false → unwrap_or o [] ≡ []
    empty None e = refl
    empty (Some x) e = cc

    at : (k : Key) (t : Bool) → same_key key k ≡ t → all_of (id_of k) (used (rule_at key) (v ∷ []) rows) ≡ option_map (λ w. w ∷ []) (value_at k (with_at key v said))
    at k true e =
        let is = key_is key k e in
        let nothing = empty (all_of (id_of key) rows) (sym (has_all (id_of key) rows) ∙ none) in
        let now : all_of (id_of key) (used (rule_at key) (v ∷ []) rows) ≡ Some (v ∷ []) =
        rw rows_stay (with_same (id_of key) _ _ (v ∷ []) rows ∙ ap (λ xs. Some (xs ++ v ∷ [])) nothing) in
        subst (λ j. all_of (id_of j) (used (rule_at key) (v ∷ []) rows) ≡ option_map (λ w. w ∷ []) (value_at j (with_at key v said))) is
        (now ∙ ap (option_map (λ w. w ∷ [])) (sym (at_same key v said)))
    at k false e =
        rw rows_stay (with_other (id_of key) (id_of k) _ _ (v ∷ []) rows e ∙ (shows.0 k ∙ ap (option_map (λ w. w ∷ [])) (sym (at_other key k v said e))))

    each : (k : Key) → all_of (id_of k) (used (rule_at key) (v ∷ []) rows) ≡ option_map (λ w. w ∷ []) (value_at k (with_at key v said))
    each k = at k (same_key key k) refl

    names : unwrap_or (all_of names_id (used (rule_at key) (v ∷ []) rows)) [] ≡ (with_at key v said).names
    names = rw rows_stay (ap (λ o. unwrap_or o []) (with_other (id_of key) names_id _ _ (v ∷ []) rows (no_name key)) ∙ (shows.1 ∙ sym (names_stay key v said)))

pub shows_name : (v : Text) (said : Said) (rows : List Row) → Shows said rows → Shows (with_names (v ∷ []) said) (used names_built (v ∷ []) rows)
shows_name v said rows shows = (each, names)
  where
    stays : (k : Key) → value_at k said ≡ value_at k (with_names (v ∷ []) said)
    stays Workers = refl
    stays Shards = refl
    stays Cells = refl
    stays Work = refl

    each : (k : Key) → all_of (id_of k) (used names_built (v ∷ []) rows) ≡ option_map (λ w. w ∷ []) (value_at k (with_names (v ∷ []) said))
    each k = with_other names_id (id_of k) _ _ (v ∷ []) rows (no_key k) ∙ (shows.0 k ∙ ap (option_map (λ w. w ∷ [])) (stays k))

    names : unwrap_or (all_of names_id (used names_built (v ∷ []) rows)) [] ≡ said.names ++ v ∷ []
    names = ap (λ o. unwrap_or o []) (with_same names_id _ _ (v ∷ []) rows) ∙ ap (λ xs. xs ++ v ∷ []) shows.1
