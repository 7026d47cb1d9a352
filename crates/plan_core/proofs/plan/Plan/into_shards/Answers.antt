use Rattle.std.proofs.Common.{ap, sym, ◌∙◌}
use Rattle.plan_machine.specs.Plans.{Plan}
use Rattle.plan_core.proofs.Beginning.{shards-same}
use Rattle.plan_core.proofs.plan.Plan.into_shards.Goals as goal

pub returns-clause-shards : goal.returns-clause-shards
returns-clause-shards g c = sym (shards-same c.self.inside.shards.items) ∙ ap (λ (z : Plan). z.shards) c.self.view_is
