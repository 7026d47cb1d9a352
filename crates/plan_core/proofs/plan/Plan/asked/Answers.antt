use Rattle.std.proofs.Common.{◌≡◌, List, slice_get, subst, sym, ap, ◌∙◌, Option, Some}
use Rattle.plan_machine.specs.Strands.{next}
use Rattle.demand_points.specs.Demands.{Demand}
use Rattle.plan_core.proofs.Resting.{awake-placed}
use Rattle.plan_core.proofs.plan.Plan.asked.Goals as goal

pub returns : goal.returns
returns g c = λ p asks.
    let k = awake-placed g.B.BatchName.batch g.B.BatchName.opening c.self.inside.places.items c.self.inside.shards.items c.self.invariant c.args.number c.args.self.now c.self.view_is asks.strand asks.at asks.awake in
    c.asked_at.ensures.all k.0 p (subst (λ (l : List (Option Demand)). slice_get l c.args.number ≡ Some (Some k.0)) (sym c.deref.ensures.value) k.1.0) (ap next k.1.1 ∙ asks.asks)
