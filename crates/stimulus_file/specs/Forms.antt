-- The forms of a line of the stimulus file.
use Rattle.std.specs.Prelude.{ℕ, ◌&&◌, List, [], ◌∷◌, Option, Some, None, if◌then◌else◌, codes}
use Rattle.std.specs.Str.{bytes_eq}
use Rattle.gate_values.specs.declared.Value.{Value}
use Rattle.gate_values.specs.Spelling.{value_of_word}
use Rattle.texts.specs.declared.Amount.{Amount}
use Rattle.texts.specs.declared.Amount.TheVariants.{NoNumber, Above, Within}
use Rattle.texts.specs.Text.{amount, content, is_name, words}

-- a line by its form, where a number above its range is None
pub data Line : Type 0 where
  Blank : Line
  Other : Line
  Horizon : (horizon : Option ℕ) → Line
  Setting : (name : List ℕ) (time : Option ℕ) (value : Value) → Line

abbrev pub horizon_of_amount : Amount → Line
horizon_of_amount NoNumber = Other
horizon_of_amount Above = Horizon None
horizon_of_amount (Within n) = Horizon (Some n)

-- `horizon H`
abbrev pub horizon_line : List ℕ → List ℕ → Line
horizon_line keyword horizon = if bytes_eq keyword (codes "horizon") then horizon_of_amount (amount 1000000 horizon) else Other

abbrev pub setting_of_parts : List ℕ → Amount → Option Value → Line
setting_of_parts name NoNumber value = Other
setting_of_parts name Above None = Other
setting_of_parts name Above (Some value) = Setting name None value
setting_of_parts name (Within t) None = Other
setting_of_parts name (Within t) (Some value) = Setting name (Some t) value

-- `set NAME T VALUE`
abbrev pub setting_line : List ℕ → List ℕ → List ℕ → List ℕ → Line
setting_line keyword name time value = if bytes_eq keyword (codes "set") && is_name name then setting_of_parts name (amount 1000000 time) (value_of_word value) else Other

-- a line by its words
abbrev pub by_words : List (List ℕ) → Line
by_words [] = Blank
by_words (keyword ∷ []) = Other
by_words (keyword ∷ horizon ∷ []) = horizon_line keyword horizon
by_words (keyword ∷ name ∷ time ∷ []) = Other
by_words (keyword ∷ name ∷ time ∷ value ∷ []) = setting_line keyword name time value
by_words (keyword ∷ name ∷ time ∷ value ∷ word ∷ more) = Other

unfoldable pub line_of : List ℕ → Line
line_of bytes = by_words (words (content bytes))
