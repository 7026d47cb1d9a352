-- Definitions for proofs and private functions, beside `Forced`.
use Rattle.std.specs.Prelude.{◌≡◌, ℕ, ◌≤◌, ◌<◌, Option, MatchOption, ◌≢◌}
use Rattle.gate_values.specs.declared.Value.{Value}
use Rattle.circuit_meaning.specs.Circuit.{Circuit}
use Rattle.circuit_meaning.specs.Forward.{value}

-- t is the first time in the window from a to b at which s has the value w; or there is none
abbrev pub IsFirstTime : Circuit → ℕ → Value → ℕ → ℕ → Option ℕ → Type 0
IsFirstTime c s w a b first = MatchOption first
    ((u : ℕ) → a ≤ u → u < b → value c s u ≢ w)
    (λ t. (a ≤ t) × (t < b) × (value c s t ≡ w) × ((u : ℕ) → a ≤ u → u < t → value c s u ≢ w))
