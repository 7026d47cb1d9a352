use Rattle.std.proofs.Common.{IfSome, subst}
use Rattle.demand_points.specs.Demands.{Demand, IsRootCell}
use Rattle.demand_points.proofs.Keeps.{last-root}
use Rattle.demand_points.proofs.strand.Strand.last.Goals as goal

pub returns-clause-right : goal.returns-clause-right
returns-clause-right g c =
    let b = g.B.BatchName.batch in
    subst (λ (v : Demand). IfSome c.self.inside.parts.last (IsRootCell b.circuit v)) c.self.view_is (last-root b c.self.inside.parts c.self.invariant.0)
