-- The command as built, and what one use of an option or a name comes to.
use Rattle.std.proofs.Common.{◌≡◌, ℕ, List, [], ◌∷◌, Bool, true, false, codes, refl, Some, None, option_map, cond, ◌||◌}
use Rattle.clap.specs.Simple.{Shape, built, filled, with_index}
use Rattle.clap.specs.Walk.{Rule, Row, Text, used, with_values, without, has_row, arg_by_id, arg_by_index, arg_by_long, arg_by_short, reading_by}
use Rattle.clap.specs.Faults.{use_fault}
use Rattle.clap.specs.declared.error.kind.ErrorKind.TheVariants as kind
use Rattle.clap.specs.declared.parser.matches.ValueSource.TheVariants.{CommandLine}
use Rattle.std.specs.Str.{bytes_eq}
use Rattle.std.specs.Prelude.{if◌then◌else◌}
use Rattle.command_words.specs.inner.Command.{option_rule, names_rule, command_app}
use Rattle.command_words.specs.Words.{Key, Workers, Shards, Cells, Work, key_of}

abbrev pub id_of : Key → Text
id_of Workers = codes "workers"
id_of Shards = codes "shards"
id_of Cells = codes "cells"
id_of Work = codes "work"

abbrev pub names_id : Text
names_id = codes "names"

abbrev pub shape : Shape
shape = (built command_app).top

abbrev pub rules : List Rule
rules = shape.rules

abbrev pub rule_at : Key → Rule
rule_at key = with_index 1 (filled (option_rule (id_of key)))

abbrev pub names_built : Rule
names_built = with_index 1 (filled names_rule)

pub by_id : (key : Key) → arg_by_id rules (id_of key) ≡ Some (rule_at key)
by_id Workers = refl
by_id Shards = refl
by_id Cells = refl
by_id Work = refl

pub names_by_id : arg_by_id rules names_id ≡ Some names_built
names_by_id = refl

pub names_by_index : arg_by_index rules 1 ≡ Some names_built
names_by_index = refl

pub none_by_short : (c : ℕ) → arg_by_short rules c ≡ None
none_by_short c = refl

pub by_long : (text : Text) → arg_by_long rules text ≡ option_map rule_at (key_of text)
by_long text = go (bytes_eq (codes "workers") text) (bytes_eq (codes "shards") text) (bytes_eq (codes "cells") text) (bytes_eq (codes "work") text)
  where
    go : (a b c d : Bool)
        → cond (a || false) (Some (rule_at Workers)) (cond (b || false) (Some (rule_at Shards)) (cond (c || false) (Some (rule_at Cells)) (cond (d || false) (Some (rule_at Work)) None)))
        ≡ option_map rule_at (if a then Some Workers else (if b then Some Shards else (if c then Some Cells else (if d then Some Work else None))))
    go true b c d = refl
    go false true c d = refl
    go false false true d = refl
    go false false false true = refl
    go false false false false = refl

pub use_once : (key : Key) (v : Text) (rows : List Row) → has_row (id_of key) rows ≡ false → use_fault false (rule_at key) (v ∷ []) rows ≡ []
use_once key v rows e = rw e refl

pub use_twice : (key : Key) (v : Text) (rows : List Row) → has_row (id_of key) rows ≡ true → use_fault false (rule_at key) (v ∷ []) rows ≡ kind.ArgumentConflict ∷ []
use_twice key v rows e = rw e refl

pub use_bare : (key : Key) (rows : List Row) → use_fault false (rule_at key) [] rows ≡ kind.InvalidValue ∷ []
use_bare key rows = refl

pub use_name : (v : Text) (rows : List Row) → use_fault false names_built (v ∷ []) rows ≡ []
use_name v rows = refl

pub used_key : (key : Key) (v : Text) (rows : List Row)
    → used (rule_at key) (v ∷ []) rows ≡ with_values (id_of key) (reading_by (rule_at key)) CommandLine (v ∷ []) (without (id_of key) rows)
used_key key v rows = refl

pub used_name : (v : Text) (rows : List Row)
    → used names_built (v ∷ []) rows ≡ with_values names_id (reading_by names_built) CommandLine (v ∷ []) rows
used_name v rows = refl
