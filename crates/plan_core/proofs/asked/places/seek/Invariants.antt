use Rattle.std.proofs.Common.{◌-◌, ℕ, List}
use Rattle.plan_core.specs.asked.inner.Places.{points_of, numbers_before, IsChain}
use Rattle.plan_core.proofs.Chains.{IsSought}
use Rattle.plan_core.proofs.asked.places.seek.Given as goal

abbrev pub invariant-loop-step : goal.invariant-loop-step
invariant-loop-step l = (places : List ℕ) → IsChain (numbers_before l.noted) l.last places → IsSought (points_of l.journal l.noted) l.p (numbers_before l.noted) l.number places (32 - l._step)
