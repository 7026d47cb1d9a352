-- The pins of a gate, from its signals and delays.
use Rattle.std.specs.Prelude.{ℕ, List, [], ◌∷◌}
use Rattle.circuit_meaning.specs.declared.Pin.{Pin}

-- the pins that read these signals after these delays
abbrev pub pins_with : List ℕ → List ℕ → List Pin
pins_with [] delays = []
pins_with (s ∷ signals) [] = []
pins_with (s ∷ signals) (d ∷ delays) = record { signal = s; delay = d } ∷ pins_with signals delays
