use Rattle.std.proofs.Common.{ℕ, Some, sym, subst}
use Rattle.plan_machine.specs.Strands.{after_answer}
use Rattle.demand_points.specs.declared.parts.Parts.{Parts}
use Rattle.demand_points.specs.inner.Demands.{TakesStepTo}
use Rattle.demand_points.proofs.PartLemmas.{asked, hears-root}
use Rattle.demand_points.proofs.parts.Parts.hear.Goals as goal

pub returns-in-None : goal.returns-in-None
returns-in-None c =
    let d = c.args.design.now.circuit in
    let s = c.args.self.now in
    let p = c.requires.answer.0 in
    let a = asked d c.facts.ensures.circuit s c.requires.running p c.requires.ready c.requires.answer.1 in
    let at : ℕ → Parts = λ t. record s { root = t; last = Some c.args.cell.now } in
    subst (λ t. TakesStepTo d after_answer s (at t)) (sym c.end-self.ensures.end) (hears-root d c.facts.ensures.circuit s c.requires.running c.args.cell.now p c.in-None.ensures a c.requires.answer.2)
