-- The words as clap takes them: where they fail, and what the rows show, by induction over the walk.
use Rattle.std.proofs.Common.{◌≡◌, ◌∙◌, List, [], ◌∷◌, Bool, true, false, refl, sym, subst, Option, Some, None, is_some, ap}
use Rattle.std.specs.Prelude.{option_and_then, fold, ⊤, if◌then◌else◌}
use Rattle.std.specs.Str.{IsUtf8}
use Rattle.std.proofs.lemmas.List.{append-nil, append_assoc}
use Rattle.clap.specs.Walk.{Row, Text, Walk, Waiting, idle, option, positional, walked, settled, settled_rows, used}
use Rattle.clap.specs.Faults.{turn_fault, settle_fault, react_fault, walk_fault, use_fault}
use Rattle.clap.specs.Kinds.{Kinds, or_else}
use Rattle.clap.specs.declared.error.kind.ErrorKind.{ErrorKind}
use Rattle.clap.specs.declared.error.kind.ErrorKind.TheVariants as kind
use Rattle.command_words.specs.Words.{Key, Word, Dashes, Alone, Valued, Name, Refused, Said, what_is, by_word, with_value, with_at, with_names, value_at}
use Rattle.command_words.proofs.Rules.{id_of, names_id, rules, shape, rule_at, names_built, by_id, use_once, use_twice, use_bare}
use Rattle.command_words.proofs.Rows.{Shows, shows_value, shows_name, has_said}
use Rattle.command_words.proofs.Lexing.{Lexes, held, lexes}
use Rattle.command_words.proofs.Turns.{Pending, WalksOver, walk_at, free, turn_dashes, turn_alone, turn_valued, turn_refused, turn_name, turn_trailing, turn_value}

-- ---- the words' reading as clap's: a value is no word that begins with `-`, but `-` alone

abbrev pub by_value : Word → Key → Text → Said → (Said → Option Said) → Option Said
by_value Name key word said next = option_and_then next (with_value key word said)
by_value _ key word said next = None

abbrev pub taken : List Text → Option Key → Said → Option Said
taken [] None said = Some said
taken [] (Some key) said = None
taken (word ∷ words) None said = by_word (what_is word) word said (taken words) words
taken (word ∷ words) (Some key) said = by_value (what_is word) key word said (taken words None)

-- ---- the walk to its end

abbrev pub end_of : Walk → List Text → Walk
end_of w words = fold (walked rules []) w words

abbrev pub fault_from : Walk → List Text → Kinds
fault_from w words = or_else (walk_fault shape [] w words) (settle_fault rules false (end_of w words).held)

abbrev pub rows_from : Walk → List Text → List Row
rows_from w words = (settled rules (end_of w words).held).rows

abbrev pub Fails : Kinds → Type 0
Fails kinds = kinds ≡ [] → ⊥

abbrev pub Meets : Option Said → Walk → List Text → Type 0
Meets None w words = Fails (fault_from w words)
Meets (Some said) w words = (fault_from w words ≡ []) × Shows said (rows_from w words)

some_fails : (k : ErrorKind) (ks : Kinds) → Fails (k ∷ ks)
some_fails k ks e = cc

or_else_assoc : (a b c : Kinds) → or_else (or_else a b) c ≡ or_else a (or_else b c)
or_else_assoc [] b c = refl
or_else_assoc (k ∷ ks) b c = refl

pub or_else_nil : (a : Kinds) → or_else a [] ≡ a
or_else_nil [] = refl
or_else_nil (k ∷ ks) = refl

or_else_fails : (a b : Kinds) → Fails a → Fails (or_else a b)
or_else_fails [] b f e = f refl
or_else_fails (k ∷ ks) b f e = some_fails k ks e

fault_by_word : (w : Walk) (word : Text) (words : List Text)
    → fault_from w (word ∷ words) ≡ or_else (turn_fault shape [] w word) (fault_from (walked rules [] w word) words)
unfolding walk_fault
fault_by_word w word words = or_else_assoc (turn_fault shape [] w word) (walk_fault shape [] (walked rules [] w word) words) (settle_fault rules false (end_of (walked rules [] w word) words).held)

turn_fails : (w : Walk) (word : Text) (words : List Text) → Fails (turn_fault shape [] w word) → Fails (fault_from w (word ∷ words))
turn_fails w word words f e = or_else_fails _ (fault_from (walked rules [] w word) words) f (sym (fault_by_word w word words) ∙ e)

turn_passes : (w after : Walk) (word : Text) (words : List Text) → WalksOver w word [] after → fault_from w (word ∷ words) ≡ fault_from after words
turn_passes w after word words t =
    fault_by_word w word words ∙ (ap (λ k. or_else k (fault_from (walked rules [] w word) words)) t.0 ∙ ap (λ v. fault_from v words) t.1)

rows_pass : (w after : Walk) (word : Text) (words : List Text) → walked rules [] w word ≡ after → rows_from w (word ∷ words) ≡ rows_from after words
rows_pass w after word words e = ap (λ v. rows_from v words) e

-- what meets the walk after the word, meets the walk before it
passes : (o : Option Said) (w after : Walk) (word : Text) (words : List Text) → WalksOver w word [] after → Meets o after words → Meets o w (word ∷ words)
passes None w after word words t m = λ e. m (sym (turn_passes w after word words t) ∙ e)
passes (Some said) w after word words t m =
    (turn_passes w after word words t ∙ m.0, subst (Shows said) (sym (rows_pass w after word words t.1)) m.1)

-- each word is text
abbrev pub Utf8s : List Text → Type 0
Utf8s [] = ⊤
Utf8s (word ∷ words) = IsUtf8 word × Utf8s words

-- ---- what is pending

abbrev pub settle : List Row → Pending → Kinds
settle rows pending = settle_fault rules false (held rows pending)

option_settles : (key : Key) (vs : List Text) (rows : List Row)
    → (settle rows (Some (id_of key, vs)) ≡ use_fault false (rule_at key) vs rows) × (settled_rows rules (Some (id_of key, vs)) rows ≡ used (rule_at key) vs rows)
option_settles key vs rows = (rw (by_id key) refl, rw (by_id key) refl)

bare_fails : (key : Key) (rows : List Row) → Fails (settle rows (Some (id_of key, [])))
bare_fails key rows e = some_fails kind.InvalidValue [] (sym ((option_settles key [] rows).0 ∙ use_bare key rows) ∙ e)

name_settles : (word : Text) (rows : List Row)
    → (settle rows (Some (names_id, word ∷ [])) ≡ []) × (settled_rows rules (Some (names_id, word ∷ [])) rows ≡ used names_built (word ∷ []) rows)
name_settles word rows = (refl, refl)

-- ---- after the first `--`

trailing_fails : (words : List Text) (rows : List Row) (pending : Pending) (waiting : Waiting) → Fails (settle rows pending)
    → Fails (fault_from (walk_at rows pending waiting true) words)
unfolding walk_fault
trailing_fails [] rows pending waiting f = f
trailing_fails (word ∷ words) rows pending waiting f =
    let t = turn_trailing rows pending waiting word in
    turn_fails (walk_at rows pending waiting true) word words (λ e. f (sym t.0 ∙ e))

trailing_meets : (words : List Text) (said : Said) (rows : List Row) (pending : Pending) (waiting : Waiting) → settle rows pending ≡ []
    → Shows said (settled_rows rules pending rows) → Meets (Some (with_names words said)) (walk_at rows pending waiting true) words
unfolding walk_fault
trailing_meets [] said rows pending waiting none shows =
    let same : said ≡ with_names [] said = ap (λ names. record said { names = names }) (sym (append-nil said.names)) in
    (none, subst (λ s. Shows s (settled_rows rules pending rows)) same shows)
trailing_meets (word ∷ words) said rows pending waiting none shows =
    let t = turn_trailing rows pending waiting word in
    let after = walk_at (settled_rows rules pending rows) (Some (names_id, word ∷ [])) positional true in
    let rest = trailing_meets words (with_names (word ∷ []) said) (settled_rows rules pending rows) (Some (names_id, word ∷ [])) positional refl
    (shows_name word said (settled_rows rules pending rows) shows) in
    let same : with_names words (with_names (word ∷ []) said) ≡ with_names (word ∷ words) said =
    ap (λ names. record said { names = names }) (append_assoc said.names (word ∷ []) words) in
    passes (Some (with_names (word ∷ words) said)) (walk_at rows pending waiting true) after word words (t.0 ∙ none, t.1) (subst (λ s. Meets (Some s) after words) same rest)

-- ---- an option that came twice

doomed : (words : List Text) (b : Bool) (rows : List Row) (pending : Pending) → Fails (settle rows pending)
    → Utf8s words → Fails (fault_from (walk_at rows pending (free b) false) words)
unfolding walk_fault
doomed [] b rows pending f utf8 = f
doomed (word ∷ words) b rows pending f utf8 = go (what_is word) (lexes word utf8.0)
  where
    go : (what : Word) → Lexes word what → Fails (fault_from (walk_at rows pending (free b) false) (word ∷ words))
    go Dashes l =
        let t = turn_dashes rows pending (free b) word l in
        λ e. trailing_fails words rows pending (free b) f (sym (turn_passes (walk_at rows pending (free b) false) (walk_at rows pending (free b) true) word words t) ∙ e)
    go (Alone key) l =
        let t = turn_alone key rows pending (free b) word l in
        turn_fails (walk_at rows pending (free b) false) word words (λ e. or_else_fails _ [] f (sym t.0 ∙ e))
    go (Valued key value) l =
        let t = turn_valued key value rows pending (free b) word l in
        turn_fails (walk_at rows pending (free b) false) word words (λ e. or_else_fails _ [] (or_else_fails _ _ f) (sym t.0 ∙ e))
    go Name l =
        let t = turn_name b rows pending word l in
        turn_fails (walk_at rows pending (free b) false) word words (λ e. f (sym t.0 ∙ e))
    go Refused l = turn_fails (walk_at rows pending (free b) false) word words (λ e. some_fails kind.UnknownArgument [] (sym (turn_refused rows pending (free b) word l) ∙ e))

-- ---- before it

abbrev pub Stands : Option Key → Said → List Row → Pending → Waiting → Type 0
Stands None said rows pending waiting = (b : Bool) × (waiting ≡ free b) × (settle rows pending ≡ []) × Shows said (settled_rows rules pending rows)
Stands (Some key) said rows pending waiting = (waiting ≡ option (id_of key)) × (pending ≡ Some (id_of key, [])) × Shows said rows

-- the words after one are read as clap walks over them
abbrev pub Rest : List Text → Type 0
Rest words = (k : Option Key) (said : Said) (rows : List Row) (pending : Pending) (waiting : Waiting) → Stands k said rows pending waiting
    → Meets (taken words k said) (walk_at rows pending waiting false) words

-- the value of an option was read as a word of its own
option_said : (key : Key) (value : Text) (words : List Text) (said : Said) (rows : List Row) → Shows said rows → Utf8s words → Rest words
    → Meets (option_and_then (taken words None) (with_value key value said)) (walk_at rows (Some (id_of key, value ∷ [])) idle false) words
option_said key value words said rows shows utf8 rest = go (is_some (value_at key said)) refl
  where
    pending : Pending
    pending = Some (id_of key, value ∷ [])

    go : (t : Bool) → is_some (value_at key said) ≡ t
        → Meets (option_and_then (taken words None) (if t then None else Some (with_at key value said))) (walk_at rows pending idle false) words
    go true e =
        let once = (option_settles key (value ∷ []) rows).0 in
        doomed words true rows pending (λ f. some_fails kind.ArgumentConflict [] (sym (once ∙ use_twice key value rows (has_said key said rows shows ∙ e)) ∙ f)) utf8
    go false e =
        let stands = option_settles key (value ∷ []) rows in
        let none = has_said key said rows shows ∙ e in
        rest None (with_at key value said) rows pending idle
        (true, refl, stands.0 ∙ use_once key value rows none, subst (Shows (with_at key value said)) (sym stands.1) (shows_value key value said rows shows none))

-- the value of an option was read in the option's word
valued_said : (key : Key) (value : Text) (word : Text) (words : List Text) (said : Said) (rows : List Row) (pending : Pending) (b : Bool) → Lexes word (Valued key value)
    → settle rows pending ≡ [] → Shows said (settled_rows rules pending rows) → Rest words
    → Meets (option_and_then (taken words None) (with_value key value said)) (walk_at rows pending (free b) false) (word ∷ words)
valued_said key value word words said rows pending b l none shows rest = go (is_some (value_at key said)) refl
  where
    now : List Row
    now = settled_rows rules pending rows

    kinds : turn_fault shape [] (walk_at rows pending (free b) false) word ≡ use_fault false (rule_at key) (value ∷ []) now
    kinds = (turn_valued key value rows pending (free b) word l).0
        ∙ (or_else_nil (react_fault rules false (rule_at key) (value ∷ []) (held rows pending))
        ∙ ap (λ k. or_else k (use_fault false (rule_at key) (value ∷ []) now)) none)

    go : (t : Bool) → is_some (value_at key said) ≡ t
        → Meets (option_and_then (taken words None) (if t then None else Some (with_at key value said))) (walk_at rows pending (free b) false) (word ∷ words)
    go true e = turn_fails (walk_at rows pending (free b) false) word words (λ f. some_fails kind.ArgumentConflict [] (sym (kinds ∙ use_twice key value now (has_said key said now shows ∙ e)) ∙ f))
    go false e =
        let first = has_said key said now shows ∙ e in
        passes (taken words None (with_at key value said)) (walk_at rows pending (free b) false) (walk_at (used (rule_at key) (value ∷ []) now) None idle false) word words
        (kinds ∙ use_once key value now first, (turn_valued key value rows pending (free b) word l).1)
        (rest None (with_at key value said) (used (rule_at key) (value ∷ []) now) None idle
        (true, refl, refl, shows_value key value said now shows first))

idle_turn : (word : Text) (words : List Text) (said : Said) (rows : List Row) (pending : Pending) (b : Bool) → IsUtf8 word
    → settle rows pending ≡ [] → Shows said (settled_rows rules pending rows) → Rest words
    → Meets (by_word (what_is word) word said (taken words) words) (walk_at rows pending (free b) false) (word ∷ words)
idle_turn word words said rows pending b utf8 none shows rest = go (what_is word) (lexes word utf8)
  where
    now : List Row
    now = settled_rows rules pending rows

    go : (what : Word) → Lexes word what → Meets (by_word what word said (taken words) words) (walk_at rows pending (free b) false) (word ∷ words)
    go Dashes l =
        passes (Some (with_names words said)) (walk_at rows pending (free b) false) (walk_at rows pending (free b) true) word words (turn_dashes rows pending (free b) word l)
        (trailing_meets words said rows pending (free b) none shows)
    go (Alone key) l =
        let t = turn_alone key rows pending (free b) word l in
        passes (taken words (Some key) said) (walk_at rows pending (free b) false) (walk_at now (Some (id_of key, [])) (option (id_of key)) false) word words
        (t.0 ∙ ap (λ k. or_else k []) none, t.1)
        (rest (Some key) said now (Some (id_of key, [])) (option (id_of key)) (refl, refl, shows))
    go (Valued key value) l = valued_said key value word words said rows pending b l none shows rest
    go Name l =
        let t = turn_name b rows pending word l in
        passes (taken words None (with_names (word ∷ []) said)) (walk_at rows pending (free b) false) (walk_at now (Some (names_id, word ∷ [])) positional false) word words
        (t.0 ∙ none, t.1)
        (rest None (with_names (word ∷ []) said) now (Some (names_id, word ∷ [])) positional (false, refl, refl, shows_name word said now shows))
    go Refused l = turn_fails (walk_at rows pending (free b) false) word words (λ e. some_fails kind.UnknownArgument [] (sym (turn_refused rows pending (free b) word l) ∙ e))

value_turn : (word : Text) (words : List Text) (key : Key) (said : Said) (rows : List Row) → IsUtf8 word → Utf8s words
    → Shows said rows → Rest words
    → Meets (by_value (what_is word) key word said (taken words None)) (walk_at rows (Some (id_of key, [])) (option (id_of key)) false) (word ∷ words)
value_turn word words key said rows utf8 utf8s shows rest = go (what_is word) (lexes word utf8)
  where
    pending : Pending
    pending = Some (id_of key, [])

    fails : Fails (settle rows pending)
    fails = bare_fails key rows

    go : (what : Word) → Lexes word what
        → Meets (by_value what key word said (taken words None)) (walk_at rows pending (option (id_of key)) false) (word ∷ words)
    go Dashes l =
        let t = turn_dashes rows pending (option (id_of key)) word l in
        λ e. trailing_fails words rows pending (option (id_of key)) fails (sym (turn_passes (walk_at rows pending (option (id_of key)) false) (walk_at rows pending (option (id_of key)) true) word words t) ∙ e)
    go (Alone other) l =
        let t = turn_alone other rows pending (option (id_of key)) word l in
        turn_fails (walk_at rows pending (option (id_of key)) false) word words (λ e. or_else_fails _ [] fails (sym t.0 ∙ e))
    go (Valued other value) l =
        let t = turn_valued other value rows pending (option (id_of key)) word l in
        turn_fails (walk_at rows pending (option (id_of key)) false) word words (λ e. or_else_fails _ [] (or_else_fails _ _ fails) (sym t.0 ∙ e))
    go Name l =
        passes (option_and_then (taken words None) (with_value key word said)) (walk_at rows pending (option (id_of key)) false) (walk_at rows (Some (id_of key, word ∷ [])) idle false) word words
        (turn_value key rows word l) (option_said key word words said rows shows utf8s rest)
    go Refused l = turn_fails (walk_at rows pending (option (id_of key)) false) word words (λ e. some_fails kind.UnknownArgument [] (sym (turn_refused rows pending (option (id_of key)) word l) ∙ e))

pub meets : (words : List Text) → Utf8s words → Rest words
unfolding walk_fault
meets [] utf8 None said rows pending waiting s = (s.2, s.3)
meets [] utf8 (Some key) said rows pending waiting s = λ e. bare_fails key rows (subst (λ p. settle rows p ≡ []) s.1 e)
meets (word ∷ words) utf8 None said rows pending waiting s =
    subst (λ v. Meets (taken (word ∷ words) None said) (walk_at rows pending v false) (word ∷ words)) (sym s.1)
    (idle_turn word words said rows pending s.0 utf8.0 s.2 s.3 (meets words utf8.1))
meets (word ∷ words) utf8 (Some key) said rows pending waiting s =
    subst (λ v. Meets (taken (word ∷ words) (Some key) said) (walk_at rows pending v false) (word ∷ words)) (sym s.0)
    (subst (λ p. Meets (taken (word ∷ words) (Some key) said) (walk_at rows p (option (id_of key)) false) (word ∷ words)) (sym s.1)
    (value_turn word words key said rows utf8.0 utf8.1 s.2 (meets words utf8.1)))
