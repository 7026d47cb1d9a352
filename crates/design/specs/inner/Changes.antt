-- How the settings that change a value are found among settings in the order of time.
use Rattle.std.specs.Prelude.{Bool, false, List, [], ◌∷◌}
use Rattle.gate_values.specs.declared.Value.TheVariants.{X}
use Rattle.gate_values.specs.Gates.{same_value}
use Rattle.circuit_meaning.specs.declared.Setting.{Setting}

-- they give one value
abbrev pub is_at_one_value : Setting → Setting → Bool
is_at_one_value a b = same_value a.value b.value

abbrev pub begins_with_x : List Setting → Bool
begins_with_x [] = false
begins_with_x (setting ∷ later) = same_value setting.value X
