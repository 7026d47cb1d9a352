-- How values and kinds are spelled.
use Rattle.std.specs.Prelude.{ℕ, Bool, ◌==◌, ◌||◌, List, [], ◌∷◌, Option, Some, None, if◌then◌else◌, codes}
use Rattle.std.specs.Str.{str_eq_ignore_ascii_case}
use Rattle.gate_values.specs.declared.Value.{Value}
use Rattle.gate_values.specs.declared.Value.TheVariants.{Zero, One, X, Z}
use Rattle.gate_values.specs.declared.Kind.{Kind}
use Rattle.gate_values.specs.declared.Kind.TheVariants.{And, Nand, Or, Nor, Xor, Xnor, Not, Buff, Dff}

abbrev pub value_of_byte : ℕ → Option Value
value_of_byte b = if b == 48 then Some Zero else (if b == 49 then Some One else (if b == 120 || b == 88 then Some X else (if b == 122 || b == 90 then Some Z else None)))

abbrev pub byte_of_value : Value → ℕ
byte_of_value Zero = 48
byte_of_value One = 49
byte_of_value X = 120
byte_of_value Z = 122

-- a word is a value if it is one byte that spells a value
abbrev pub value_of_word : List ℕ → Option Value
value_of_word [] = None
value_of_word (b ∷ []) = value_of_byte b
value_of_word (b ∷ c ∷ more) = None

-- two words are equal up to case
abbrev pub spells : List ℕ → List ℕ → Bool
spells word text = str_eq_ignore_ascii_case word text

abbrev pub kind_of_word : List ℕ → Option Kind
kind_of_word w =
    if spells w (codes "and") then Some And else (
    if spells w (codes "nand") then Some Nand else (
    if spells w (codes "or") then Some Or else (
    if spells w (codes "nor") then Some Nor else (
    if spells w (codes "xor") then Some Xor else (
    if spells w (codes "xnor") then Some Xnor else (
    if spells w (codes "not") then Some Not else (
    if spells w (codes "buff") || spells w (codes "buf") then Some Buff else (
    if spells w (codes "dff") then Some Dff else None))))))))
