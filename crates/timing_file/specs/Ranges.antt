-- The ranges of what a timing file says.
use Rattle.std.specs.Prelude.{◌≢◌, ℕ, ◌≤◌, ⊤, All, IfSome}
use Rattle.gate_values.specs.declared.Value.TheVariants.{Z}
use Rattle.circuit_meaning.specs.Edges.{IsClock}
use Rattle.timing_file.specs.declared.TimingWhat.{TimingWhat}
use Rattle.timing_file.specs.declared.TimingWhat.TheVariants.{Delay, Init, Pin, Clocked}
use Rattle.timing_file.specs.Timing.{Content}

abbrev pub IsDelay : ℕ → Type 0
IsDelay delay = (1 ≤ delay) × (delay ≤ 1000000)

abbrev pub IsWithin : TimingWhat → Type 0
IsWithin (Delay delay) = IsDelay delay
IsWithin (Init value) = value ≢ Z
IsWithin (Pin place delay) = (place ≤ 63) × IsDelay delay
IsWithin (Clocked clock) = ⊤

-- each number is in its range, and no initial value is z
pub record IsTiming (c : Content) : Type 0 where
  pub clock : IfSome c.clock IsClock
  pub default : IfSome c.default IsDelay
  pub kinds : All (λ stated. IsDelay stated.1) c.kinds
  pub rows : All (λ row. IsWithin row.what) c.rows
  pub clocks : All (λ row. IsClock row.clock) c.clocks
