use Rattle.std.proofs.Common.{◌≡◌, length}
use Rattle.plan_core.proofs.tests.make_turns.Given as goal

abbrev pub invariant-loop-number : goal.invariant-loop-number
invariant-loop-number g l = length l.plan.strands ≡ 2
