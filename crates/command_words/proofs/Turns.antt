-- What one word does to clap's walk, by what the word is.
use Rattle.std.proofs.Common.{◌≡◌, List, [], ◌∷◌, Bool, true, false, refl, Option, Some, None, ap}
use Rattle.std.proofs.Math.Bool.{and-false}
use Rattle.clap.specs.Walk.{Row, Text, Walk, Waiting, idle, option, positional, walked, settled_rows, used, subcommand_met, is_pending, positional_held}
use Rattle.clap.specs.Faults.{turn_fault, settle_fault, react_fault, positional_fault}
use Rattle.clap.specs.Kinds.{Kinds, or_else}
use Rattle.clap.specs.declared.error.kind.ErrorKind.TheVariants as kind
use Rattle.command_words.specs.Words.{Key, Workers, Shards, Cells, Work, Dashes, Alone, Valued, Name, Refused}
use Rattle.command_words.proofs.Rules.{id_of, names_id, rules, shape, rule_at, names_built}
use Rattle.command_words.proofs.Lexing.{Lexes, held}

abbrev pub Pending : Type 0
Pending = Option (Text × List Text)

abbrev pub walk_at : List Row → Pending → Waiting → Bool → Walk
walk_at rows pending waiting trailing = record { held = held rows pending; waiting = waiting; position = 1; is_trailing = trailing; stopped = None }

-- no option waits for a value
abbrev pub free : Bool → Waiting
free true = idle
free false = positional

-- the kinds at which the word fails, and the walk after it
abbrev pub WalksOver : Walk → Text → Kinds → Walk → Type 0
WalksOver w word kinds after = (turn_fault shape [] w word ≡ kinds) × (walked rules [] w word ≡ after)

no_subcommand : (waiting : Waiting) (word : Text) → subcommand_met [] waiting word ≡ None
no_subcommand idle word = refl
no_subcommand (option id) word = refl
no_subcommand positional word = refl

pub turn_dashes : (rows : List Row) (pending : Pending) (waiting : Waiting) (word : Text) → Lexes word Dashes
    → WalksOver (walk_at rows pending waiting false) word [] (walk_at rows pending waiting true)
unfolding walked
turn_dashes rows pending waiting word e = (rw (no_subcommand waiting word, e) refl, rw (no_subcommand waiting word, e) refl)

pub turn_alone : (key : Key) (rows : List Row) (pending : Pending) (waiting : Waiting) (word : Text) → Lexes word (Alone key)
    → WalksOver (walk_at rows pending waiting false) word (or_else (settle_fault rules false (held rows pending)) [])
    (walk_at (settled_rows rules pending rows) (Some (id_of key, [])) (option (id_of key)) false)
unfolding walked
turn_alone key rows pending waiting word l =
    (rw (no_subcommand waiting word, l.0, l.2, l.3) refl, rw (no_subcommand waiting word, l.0, l.2, l.3) refl)

pub turn_valued : (key : Key) (value : Text) (rows : List Row) (pending : Pending) (waiting : Waiting) (word : Text) → Lexes word (Valued key value)
    → WalksOver (walk_at rows pending waiting false) word (or_else (react_fault rules false (rule_at key) (value ∷ []) (held rows pending)) [])
    (walk_at (used (rule_at key) (value ∷ []) (settled_rows rules pending rows)) None idle false)
unfolding walked
turn_valued key value rows pending waiting word l =
    (rw (no_subcommand waiting word, l.0, l.2, l.3) refl, rw (no_subcommand waiting word, l.0, l.2, l.3) refl)

pub turn_refused : (rows : List Row) (pending : Pending) (waiting : Waiting) (word : Text) → Lexes word Refused
    → turn_fault shape [] (walk_at rows pending waiting false) word ≡ kind.UnknownArgument ∷ []
turn_refused rows pending waiting word l = rw (no_subcommand waiting word, l.0, l.1 rows pending) refl

to_names : (rows : List Row) (pending : Pending) (word : Text)
    → positional_held rules names_built word (held rows pending) ≡ held (settled_rows rules pending rows) (Some (names_id, word ∷ []))
to_names rows pending word = rw (and-false (is_pending names_built pending)) refl

names_settle : (rows : List Row) (pending : Pending)
    → positional_fault rules false names_built (held rows pending) ≡ settle_fault rules false (held rows pending)
names_settle rows pending = rw (and-false (is_pending names_built pending)) refl

pub turn_name : (b : Bool) (rows : List Row) (pending : Pending) (word : Text) → Lexes word Name
    → WalksOver (walk_at rows pending (free b) false) word (settle_fault rules false (held rows pending))
    (walk_at (settled_rows rules pending rows) (Some (names_id, word ∷ [])) positional false)
unfolding walked
turn_name true rows pending word l =
    (rw (l.0, l.1, l.2) (names_settle rows pending), rw (l.0, l.1, l.2) (ap (λ h. record (walk_at rows pending positional false) { held = h }) (to_names rows pending word)))
turn_name false rows pending word l =
    (rw (l.0, l.1, l.2) (names_settle rows pending), rw (l.0, l.1, l.2) (ap (λ h. record (walk_at rows pending positional false) { held = h }) (to_names rows pending word)))

pub turn_trailing : (rows : List Row) (pending : Pending) (waiting : Waiting) (word : Text)
    → WalksOver (walk_at rows pending waiting true) word (settle_fault rules false (held rows pending))
    (walk_at (settled_rows rules pending rows) (Some (names_id, word ∷ [])) positional true)
unfolding walked
turn_trailing rows pending waiting word =
    (names_settle rows pending, ap (λ h. record (walk_at rows pending positional true) { held = h }) (to_names rows pending word))

pub turn_value : (key : Key) (rows : List Row) (word : Text) → Lexes word Name
    → WalksOver (walk_at rows (Some (id_of key, [])) (option (id_of key)) false) word [] (walk_at rows (Some (id_of key, word ∷ [])) idle false)
unfolding walked
turn_value Workers rows word l = (rw (l.0, l.1, l.2) refl, rw (l.0, l.1, l.2) refl)
turn_value Shards rows word l = (rw (l.0, l.1, l.2) refl, rw (l.0, l.1, l.2) refl)
turn_value Cells rows word l = (rw (l.0, l.1, l.2) refl, rw (l.0, l.1, l.2) refl)
turn_value Work rows word l = (rw (l.0, l.1, l.2) refl, rw (l.0, l.1, l.2) refl)
