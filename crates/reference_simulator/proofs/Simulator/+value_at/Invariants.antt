use Rattle.std.proofs.Common.{◌≡◌, map, take, length}
use Rattle.circuit_meaning.specs.Forward.{value, seen_value}
use Rattle.reference_simulator.proofs.Simulator.+value_at.Given as goal

abbrev pub decreases-value_at : goal.decreases-value_at
decreases-value_at l = l.time

abbrev pub invariant-loop-i : goal.invariant-loop-i
invariant-loop-i l = record { long : length l.seen ≡ 64; same : take l.i l.seen ≡ map (seen_value (value l.self) l.time) (take l.i l.pins.items) }
