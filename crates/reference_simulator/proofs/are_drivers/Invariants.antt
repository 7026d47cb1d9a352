use Rattle.std.proofs.Common.{ℕ, ◌<◌, length, get_or}
use Rattle.circuit_meaning.specs.Circuit.{IsDriver}
use Rattle.reference_simulator.specs.declared.Element.{Element}
use Rattle.reference_simulator.specs.Elements.{driver_of}
use Rattle.reference_simulator.proofs.are_drivers.Given as goal

abbrev pub invariant-loop-element : goal.invariant-loop-element
invariant-loop-element l = (k : ℕ) (d : Element) → k < l.element-index → IsDriver (length l.elements) l.horizon (driver_of (get_or l.elements k d))
