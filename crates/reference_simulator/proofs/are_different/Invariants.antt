use Rattle.std.proofs.Common.{◌≢◌, ℕ, ◌<◌, get_or}
use Rattle.circuit_meaning.specs.declared.Setting.{Setting}
use Rattle.reference_simulator.proofs.are_different.Given as goal

abbrev pub invariant-loop-j : goal.invariant-loop-j
invariant-loop-j l = (a : ℕ) (d : Setting) → a < l.j → (get_or l.settings a d).time ≢ l.time

abbrev pub invariant-loop-i : goal.invariant-loop-i
invariant-loop-i l = (a b : ℕ) (d : Setting) → a < b → b < l.i → (get_or l.settings a d).time ≢ (get_or l.settings b d).time
