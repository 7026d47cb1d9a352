use Rattle.std.proofs.Common.{◌≡◌, ◌≤◌, length, drop}
use Rattle.circuit_meaning.specs.Forward.{last_setting}
use Rattle.reference_simulator.proofs.setting_at.Given as goal

abbrev pub invariant-loop-left : goal.invariant-loop-left
invariant-loop-left l = record { within : l.left ≤ length l.settings; best : l.best ≡ last_setting (drop l.left l.settings) l.time }

abbrev pub decreases-loop-left : goal.decreases-loop-left
decreases-loop-left l = l.left
