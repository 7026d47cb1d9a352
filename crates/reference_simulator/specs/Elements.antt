-- The circuit that a simulator's elements stand for.
use Rattle.std.specs.Prelude.{ℕ, List, map}
use Rattle.reference_simulator.specs.declared.Element.{Element}
use Rattle.reference_simulator.specs.declared.Element.TheVariants as element
use Rattle.circuit_meaning.specs.Circuit.{Driver, Input, Gate, Flop, Circuit}

abbrev pub driver_of : Element → Driver
driver_of (element.Input settings) = Input settings.items
driver_of (element.Gate kind pins) = Gate kind pins.items
driver_of (element.Flop f) = Flop f

abbrev pub circuit_of : ℕ → List Element → Circuit
circuit_of horizon elements = record { horizon = horizon; drivers = map driver_of elements }
