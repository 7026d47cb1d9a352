use Rattle.plan_core.proofs.Chains.{IsDoubled}
use Rattle.plan_core.proofs.asked.places.chains_for.Given as goal

abbrev pub invariant-loop-step : goal.invariant-loop-step
invariant-loop-step l = IsDoubled l.entries l._step l.chains
