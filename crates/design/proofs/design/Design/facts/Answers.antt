use Rattle.design.proofs.Holding.{is-design}
use Rattle.design.proofs.design.Design.facts.Goals as goal

pub returns : goal.returns
returns c = is-design _ _ _ c.self.invariant c.args.self.now c.self.view_is
