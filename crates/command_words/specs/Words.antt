-- The words of the command line, read from left to right.
use Rattle.std.specs.Prelude.{ℕ, ◌==◌, Bool, ◌&&◌, ◌||◌, List, [], ◌∷◌, ◌++◌, length, nat_le, Option, Some, None, is_some, if◌then◌else◌, codes, option_and_then}
use Rattle.std.specs.List.{list_any, before_first, after_first}
use Rattle.std.specs.Str.{bytes_eq}
use Rattle.texts.specs.Text.{is_number, decimal_value}

abbrev pub Text : Type 0
Text = List ℕ

-- ---- one word

-- the four options
pub data Key : Type 0 where
  Workers : Key
  Shards : Key
  Cells : Key
  Work : Key

-- a word before the first `--` that is not the value of an option
pub data Word : Type 0 where
  -- `--`
  Dashes : Word
  -- `--workers` and the like, whose value is the next word
  Alone : Key → Word
  -- `--workers=V` and the like
  Valued : Key → Text → Word
  Name : Word
  Refused : Word

abbrev pub key_of : Text → Option Key
key_of text =
    if bytes_eq (codes "workers") text then Some Workers else (
    if bytes_eq (codes "shards") text then Some Shards else (
    if bytes_eq (codes "cells") text then Some Cells else (
    if bytes_eq (codes "work") text then Some Work else None)))

abbrev pub is_equals : ℕ → Bool
is_equals b = b == 61

-- after `--`: the name of an option, and the text after the first `=`, if there is one
abbrev pub option_by : Option Key → Text → Word
option_by None text = Refused
option_by (Some key) text =
    if list_any is_equals text then Valued key (after_first is_equals text) else Alone key

-- after `--`
abbrev pub after_two_dashes : Text → Word
after_two_dashes [] = Dashes
after_two_dashes (b ∷ bytes) = option_by (key_of (before_first is_equals (b ∷ bytes))) (b ∷ bytes)

-- after `-` (45)
abbrev pub after_dash : Text → Word
after_dash [] = Name
after_dash (b ∷ bytes) = if b == 45 then after_two_dashes bytes else Refused

abbrev pub what_is : Text → Word
what_is [] = Name
what_is (b ∷ bytes) = if b == 45 then after_dash bytes else Name

-- ---- all the words

-- the values of the options so far, and the names so far
pub record Said : Type 0 where
  pub workers : Option Text
  pub shards : Option Text
  pub cells : Option Text
  pub work : Option Text
  pub names : List Text

abbrev pub nothing_said : Said
nothing_said = record { workers = None; shards = None; cells = None; work = None; names = [] }

abbrev pub value_at : Key → Said → Option Text
value_at Workers said = said.workers
value_at Shards said = said.shards
value_at Cells said = said.cells
value_at Work said = said.work

abbrev pub with_at : Key → Text → Said → Said
with_at Workers text said = record said { workers = Some text }
with_at Shards text said = record said { shards = Some text }
with_at Cells text said = record said { cells = Some text }
with_at Work text said = record said { work = Some text }

-- an option that comes twice is refused
abbrev pub with_value : Key → Text → Said → Option Said
with_value key text said = if is_some (value_at key said) then None else Some (with_at key text said)

abbrev pub with_names : List Text → Said → Said
with_names names said = record said { names = said.names ++ names }

-- one word; `next` reads the words after it
abbrev pub by_word : Word → Text → Said → (Option Key → Said → Option Said) → List Text → Option Said
by_word Dashes word said next words = Some (with_names words said)
by_word (Alone key) word said next words = next (Some key) said
by_word (Valued key text) word said next words = option_and_then (next None) (with_value key text said)
by_word Name word said next words = next None (with_names (word ∷ []) said)
by_word Refused word said next words = None

-- the content of the words, added to what came before; if an option waits, the first word is its value
abbrev pub read : List Text → Option Key → Said → Option Said
read [] None said = Some said
read [] (Some key) said = None
read (word ∷ words) None said = by_word (what_is word) word said (read words) words
read (word ∷ words) (Some key) said = option_and_then (read words None) (with_value key word said)

-- ---- the forms

-- the words of a session with four files, and of a run of the workload
pub data Form : Type 0 where
  Session : (netlist timing stimulus journal : Text) → (workers shards cells : ℕ) → Form
  Workload : (number : ℕ) → (journal : Text) → (workers : ℕ) → Form

-- one to ten digits, from `least` to `most`
abbrev pub number_in : ℕ → ℕ → Text → Option ℕ
number_in least most text =
    if is_number text && nat_le (length text) 10 && nat_le least (decimal_value text) && nat_le (decimal_value text) most
    then Some (decimal_value text) else None

abbrev pub number_at : Key → Text → Option ℕ
number_at Workers = number_in 1 64
number_at Shards = number_in 1 64
number_at Cells = number_in 1 65536
number_at Work = number_in 0 2147483647

-- the value of an option, or its default
abbrev pub number_or : Key → ℕ → Option Text → Option ℕ
number_or key default None = Some default
number_or key default (Some text) = number_at key text

-- exactly four names
abbrev pub session_of : List Text → ℕ → ℕ → ℕ → Option Form
session_of (netlist ∷ timing ∷ stimulus ∷ journal ∷ []) workers shards cells = Some (Session netlist timing stimulus journal workers shards cells)
session_of _ workers shards cells = None

-- exactly one name
abbrev pub workload_of : List Text → ℕ → ℕ → Option Form
workload_of (journal ∷ []) number workers = Some (Workload number journal workers)
workload_of _ number workers = None

-- without `--work`
abbrev pub first_form : Said → Option Form
first_form said =
    option_and_then (λ workers. option_and_then (λ shards. option_and_then (λ cells.
    session_of said.names workers shards cells)
    (number_or Cells 16384 said.cells)) (number_or Shards 8 said.shards)) (number_or Workers 4 said.workers)

-- with `--work`: neither `--shards` nor `--cells`
abbrev pub second_form : Said → Text → Option Form
second_form said number =
    if is_some said.shards || is_some said.cells then None else
    option_and_then (λ n. option_and_then (λ workers. workload_of said.names n workers)
    (number_or Workers 4 said.workers)) (number_at Work number)

abbrev pub form_by : Option Text → Said → Option Form
form_by None said = first_form said
form_by (Some number) said = second_form said number

abbrev pub form_of : Said → Option Form
form_of said = form_by said.work said

-- the form of the words, or none
abbrev pub words_of : List Text → Option Form
words_of words = option_and_then form_of (read words None nothing_said)
