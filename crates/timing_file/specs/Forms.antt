-- The forms of a line of the timing file.
use Rattle.std.specs.Prelude.{ℕ, ◌&&◌, nat_le, List, [], ◌∷◌, Option, Some, None, if◌then◌else◌, codes}
use Rattle.std.specs.Str.{bytes_eq}
use Rattle.gate_values.specs.declared.Value.{Value}
use Rattle.gate_values.specs.declared.Value.TheVariants.{Z}
use Rattle.gate_values.specs.declared.Kind.{Kind}
use Rattle.gate_values.specs.Spelling.{kind_of_word, value_of_word}
use Rattle.circuit_meaning.specs.declared.flip_flop.Clock.{Clock}
use Rattle.texts.specs.declared.Amount.{Amount}
use Rattle.texts.specs.declared.Amount.TheVariants.{NoNumber, Above, Within}
use Rattle.texts.specs.Text.{amount, content, is_name, words}
use Rattle.timing_file.specs.declared.form.Reading.{Reading}
use Rattle.timing_file.specs.declared.form.Reading.TheVariants.{NotNumbers, Outside, Inside}

-- what a line states, with its numbers in their ranges
pub data Statement : Type 0 where
  CommonClock : (clock : Clock) → Statement
  NamedClock : (name : List ℕ) (clock : Clock) → Statement
  Default : (delay : ℕ) → Statement
  DefaultOf : (kind : Kind) (delay : ℕ) → Statement
  DelayOf : (name : List ℕ) (delay : ℕ) → Statement
  InitOf : (name : List ℕ) (value : Value) → Statement
  PinOf : (name : List ℕ) (place delay : ℕ) → Statement
  ClockedBy : (flop clock : List ℕ) → Statement

-- a line by its form: of every file, or of a file of version 2; where a number is outside its range there is no statement
pub data Line : Type 0 where
  Blank : Line
  Other : Line
  Version : Line
  Plain : (statement : Option Statement) → Line
  Versioned : (statement : Option Statement) → Line

abbrev pub from_least : ℕ → Amount → Reading ℕ
from_least least NoNumber = NotNumbers
from_least least Above = Outside
from_least least (Within n) = if nat_le least n then Inside n else Outside

-- a number from the least to the greatest
abbrev pub number_in : ℕ → ℕ → List ℕ → Reading ℕ
number_in least greatest word = from_least least (amount greatest word)

abbrev pub both : Reading ℕ → Reading ℕ → Reading (ℕ × ℕ)
both NotNumbers b = NotNumbers
both Outside NotNumbers = NotNumbers
both Outside Outside = Outside
both Outside (Inside b) = Outside
both (Inside a) NotNumbers = NotNumbers
both (Inside a) Outside = Outside
both (Inside a) (Inside b) = Inside (a, b)

abbrev pub as_clock : Reading (ℕ × ℕ) → Reading Clock
as_clock NotNumbers = NotNumbers
as_clock Outside = Outside
as_clock (Inside numbers) = Inside (record { first = numbers.0; period = numbers.1 })

abbrev pub delay_in : List ℕ → Reading ℕ
delay_in word = number_in 1 1000000 word

-- FIRST and PERIOD
abbrev pub clock_in : List ℕ → List ℕ → Reading Clock
clock_in first period = as_clock (both (number_in 0 1000000 first) (number_in 1 1000000 period))

-- the place of a pin, and its delay
abbrev pub pin_in : List ℕ → List ℕ → Reading (ℕ × ℕ)
pin_in place delay = both (number_in 0 63 place) (delay_in delay)

-- a line of every file
abbrev pub plain : {T : Type 0} → (T → Statement) → Reading T → Line
plain statement NotNumbers = Other
plain statement Outside = Plain None
plain statement (Inside x) = Plain (Some (statement x))

-- a line of a file of version 2
abbrev pub versioned_line : {T : Type 0} → (T → Statement) → Reading T → Line
versioned_line statement NotNumbers = Other
versioned_line statement Outside = Versioned None
versioned_line statement (Inside x) = Versioned (Some (statement x))

-- `version 2`
abbrev pub version_line : List ℕ → Line
version_line version = if bytes_eq version (codes "2") then Version else Other

-- `default DELAY`
abbrev pub default_line : List ℕ → Line
default_line delay = plain Default (delay_in delay)

abbrev pub default_of_kind : Option Kind → List ℕ → Line
default_of_kind None delay = Other
default_of_kind (Some kind) delay = plain (DefaultOf kind) (delay_in delay)

-- `default KIND DELAY`
abbrev pub default_of_line : List ℕ → List ℕ → Line
default_of_line kind delay = default_of_kind (kind_of_word kind) delay

-- `clock FIRST PERIOD`
abbrev pub common_clock_line : List ℕ → List ℕ → Line
common_clock_line first period = plain CommonClock (clock_in first period)

-- `delay NAME DELAY`
abbrev pub delay_line : List ℕ → List ℕ → Line
delay_line name delay = if is_name name then plain (DelayOf name) (delay_in delay) else Other

abbrev pub init_to : List ℕ → Option Value → Line
init_to name None = Other
init_to name (Some Z) = Other
init_to name (Some value) = Plain (Some (InitOf name value))

-- `init NAME VALUE`
abbrev pub init_line : List ℕ → List ℕ → Line
init_line name value = if is_name name then init_to name (value_of_word value) else Other

-- `clocked FLOP NAME`
abbrev pub clocked_line : List ℕ → List ℕ → Line
clocked_line flop clock = if is_name flop && is_name clock then Versioned (Some (ClockedBy flop clock)) else Other

-- `clock NAME FIRST PERIOD`
abbrev pub named_clock_line : List ℕ → List ℕ → List ℕ → Line
named_clock_line name first period = if is_name name then versioned_line (NamedClock name) (clock_in first period) else Other

-- `pin NAME K DELAY`
abbrev pub pin_line : List ℕ → List ℕ → List ℕ → Line
pin_line name place delay = if is_name name then versioned_line (λ numbers. PinOf name numbers.0 numbers.1) (pin_in place delay) else Other

abbrev pub two_words : List ℕ → List ℕ → Line
two_words keyword a =
    if bytes_eq keyword (codes "version") then version_line a else (
    if bytes_eq keyword (codes "default") then default_line a else Other)

abbrev pub three_words : List ℕ → List ℕ → List ℕ → Line
three_words keyword a b =
    if bytes_eq keyword (codes "clock") then common_clock_line a b else (
    if bytes_eq keyword (codes "default") then default_of_line a b else (
    if bytes_eq keyword (codes "delay") then delay_line a b else (
    if bytes_eq keyword (codes "init") then init_line a b else (
    if bytes_eq keyword (codes "clocked") then clocked_line a b else Other))))

abbrev pub four_words : List ℕ → List ℕ → List ℕ → List ℕ → Line
four_words keyword a b c =
    if bytes_eq keyword (codes "clock") then named_clock_line a b c else (
    if bytes_eq keyword (codes "pin") then pin_line a b c else Other)

-- a line by its words
abbrev pub by_words : List (List ℕ) → Line
by_words [] = Blank
by_words (keyword ∷ []) = Other
by_words (keyword ∷ a ∷ []) = two_words keyword a
by_words (keyword ∷ a ∷ b ∷ []) = three_words keyword a b
by_words (keyword ∷ a ∷ b ∷ c ∷ []) = four_words keyword a b c
by_words (keyword ∷ a ∷ b ∷ c ∷ d ∷ more) = Other

unfoldable pub line_of : List ℕ → Line
line_of bytes = by_words (words (content bytes))
