use Rattle.std.proofs.Common.{subst}
use Rattle.plan_machine.specs.Plans.{Plan}
use Rattle.plan_machine.specs.Sound.{IsSound}
use Rattle.plan_core.proofs.plan.Plan.facts.Goals as goal

pub returns : goal.returns
returns g c = record {
  lawful = c.self.invariant.lawful;
  sound = subst (λ (z : Plan). IsSound g.B.BatchName.batch g.B.BatchName.opening z) c.self.view_is c.self.invariant.sound;
}
