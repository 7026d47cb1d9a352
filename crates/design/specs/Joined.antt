-- A design: a netlist, and the circuit that it makes with its delays, clocks and settings.
use Rattle.std.specs.Prelude.{◌≡◌, length}
use Rattle.bench_reader.specs.Netlists.{Content}
use Rattle.circuit_meaning.specs.Circuit.{Circuit, IsCircuit, AreLimits}

pub record Joined : Type 0 where
  pub netlist : Content
  pub circuit : Circuit

-- What holds of every design.
pub record IsDesign (d : Joined) : Type 0 where
  pub circuit : IsCircuit d.circuit
  pub limits : AreLimits d.circuit
  pub signals : length d.netlist.names ≡ length d.circuit.drivers
