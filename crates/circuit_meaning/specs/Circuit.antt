-- A circuit: what drives each signal, and its horizon.
use Rattle.std.specs.Prelude.{ℕ, ◌≤◌, ◌<◌, IsTrue, List, [], ◌∷◌, length, slice_index_or, map, All, AllPairs, ◌≢◌, IfSome, sum_by}
use Rattle.gate_values.specs.declared.Kind.{Kind}
use Rattle.gate_values.specs.Gates.{allows}
pub use Rattle.circuit_meaning.specs.declared.Setting.{Setting}
pub use Rattle.circuit_meaning.specs.declared.Pin.{Pin}
pub use Rattle.circuit_meaning.specs.declared.flip_flop.Clock.{Clock}
use Rattle.circuit_meaning.specs.Edges.{IsClock}
use Rattle.gate_values.specs.declared.Value.TheVariants.{Z}
pub use Rattle.circuit_meaning.specs.declared.FlipFlop.{FlipFlop}

-- What drives a signal.
pub data Driver : Type 0 where
  Input : List Setting → Driver
  Gate : Kind → List Pin → Driver
  Flop : FlipFlop → Driver

pub record Circuit : Type 0 where
  pub horizon : ℕ
  pub drivers : List Driver

-- the driver of a signal; a number that is no signal stands for an input without settings
abbrev pub driver : Circuit → ℕ → Driver
driver c s = slice_index_or c.drivers s (Input [])

-- the signals that a signal reads
abbrev pub read_by : Driver → List ℕ
read_by (Input settings) = []
read_by (Gate kind pins) = map (λ p. p.signal) pins
read_by (Flop f) = f.pin ∷ []

-- The settings of an input are in any order. None is after the horizon, and no two have the same time.
pub record AreSettings (horizon : ℕ) (settings : List Setting) : Type 0 where
  pub within : All (λ s. s.time ≤ horizon) settings
  pub different : AllPairs (λ a b. a.time ≢ b.time) settings

-- a gate has as many pins as its kind allows; each pin reads a signal of the circuit with a delay of at least 1
pub record ArePins (signals : ℕ) (kind : Kind) (pins : List Pin) : Type 0 where
  pub count : IsTrue (allows kind (length pins))
  pub signal : All (λ p. p.signal < signals) pins
  pub delay : All (λ p. 1 ≤ p.delay) pins

-- the initial value of a flip-flop is 0, 1 or x
pub record IsFlipFlop (signals : ℕ) (f : FlipFlop) : Type 0 where
  pub pin : f.pin < signals
  pub delay : 1 ≤ f.delay
  pub period : IfSome f.clock (λ clock. 1 ≤ clock.period)
  pub initial : f.initial ≢ Z

-- a driver of a circuit with this many signals and this horizon
abbrev pub IsDriver : ℕ → ℕ → Driver → Type 0
IsDriver signals horizon (Input settings) = AreSettings horizon settings
IsDriver signals horizon (Gate kind pins) = ArePins signals kind pins
IsDriver signals horizon (Flop f) = IsFlipFlop signals f

-- every driver fits the circuit; cycles are allowed
abbrev pub IsCircuit : Circuit → Type 0
IsCircuit c = All (IsDriver (length c.drivers) c.horizon) c.drivers

-- the delay and the clock of a flip-flop are within the limits of the files
abbrev pub AreFlopLimits : FlipFlop → Type 0
AreFlopLimits f = (f.delay ≤ 1000000) × IfSome f.clock IsClock

-- the numbers of a driver are within the limits of the files
abbrev pub AreDriverLimits : Driver → Type 0
AreDriverLimits (Input settings) = Unit {0}
AreDriverLimits (Gate kind pins) = All (λ p. p.delay ≤ 1000000) pins
AreDriverLimits (Flop f) = AreFlopLimits f

abbrev pub pin_count : Driver → ℕ
pin_count d = length (read_by d)

-- the limits within which a circuit is simulated
pub record AreLimits (c : Circuit) : Type 0 where
  pub horizon : c.horizon ≤ 1000000
  pub signals : length c.drivers ≤ 1048576
  pub pins : sum_by pin_count c.drivers ≤ 4194304
  pub drivers : All AreDriverLimits c.drivers
