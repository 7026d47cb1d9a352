-- A circuit with one signal forced to a value.
use Rattle.std.specs.Prelude.{◌≡◌, ℕ, [], ◌∷◌, slice_set}
use Rattle.gate_values.specs.declared.Value.{Value}
use Rattle.circuit_meaning.specs.Circuit.{Input, Circuit, driver, IsCircuit}
use Rattle.circuit_meaning.specs.Forward.{value}
use Rattle.circuit_meaning.specs.Cells.{span}
use Rattle.circuit_meaning.specs.declared.Window.{Window}
use Rattle.circuit_meaning.specs.Base.{base_answer}
use Rattle.circuit_meaning.specs.Need.{children, IsNeeded, IsInCone, IsClosedUnderChildren}
use Rattle.circuit_meaning.specs.Laws.{look}

-- The signal s has the value w at all times; all other drivers are unchanged.
abbrev pub forced_circuit : Circuit → ℕ → Value → Circuit
forced_circuit c s w = record c { drivers = slice_set c.drivers s (Input (record { time = 0; value = w } ∷ [])) }

-- a signal is free of s if s is not in its fan-in cone
abbrev pub IsFree : Circuit → ℕ → ℕ → Type 0
IsFree c s x = IsInCone c x s → ⊥

-- the circuits agree on the signal x at t
pub record IsAlike (c d : Circuit) (x t : ℕ) : Type 0 where
  pub value : value d x t ≡ value c x t
  pub span : span d x t ≡ span c x t
  pub look : look d t (driver d x) ≡ look c t (driver c x)
  pub driver : driver d x ≡ driver c x
  pub base : base_answer d x t ≡ base_answer c x t
  pub children : children d x t ≡ children c x t

abbrev pub FreeAreAlike : Type 0
FreeAreAlike = (c : Circuit) (s : ℕ) (w : Value) → IsCircuit c → (x t : ℕ) → IsFree c s x → IsAlike c (forced_circuit c s w) x t

-- what a query for one point of a free signal needs is free, and is needed by the same query of the forced circuit
abbrev pub FreeNeedIsNeeded : Type 0
FreeNeedIsNeeded = (c : Circuit) (s : ℕ) (w : Value) → IsCircuit c → (q : Window) → IsFree c s q.signal → (u x : ℕ) → IsNeeded c q u x → IsNeeded (forced_circuit c s w) q u x × IsFree c s u

-- The free points that a query needs in the forced circuit are a set of points of the original circuit that is closed under children.
abbrev pub ForcedNeedIsClosed : Type 0
ForcedNeedIsClosed = (c : Circuit) (s : ℕ) (w : Value) → IsCircuit c → (q : Window) → IsClosedUnderChildren c (λ u t. IsNeeded (forced_circuit c s w) q u t × IsFree c s u)
