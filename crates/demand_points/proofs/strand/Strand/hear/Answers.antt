use Rattle.std.proofs.lemmas.Bool.{false≢true}
use Rattle.demand_points.proofs.Keeps.{heard-demand}
use Rattle.demand_points.proofs.strand.Strand.hear.Goals as goal

pub invariant_of-self : goal.invariant_of-self
invariant_of-self g c = (heard-demand g.B.BatchName.batch c.design-design.result.now.circuit c.design-design.ensures.circuit c.self.inside.parts c.settle_unless.new.self c.hear.new.self c.self.invariant.0 c.settle_unless.ensures.steps c.hear.ensures, λ h. absurd (false≢true h))
