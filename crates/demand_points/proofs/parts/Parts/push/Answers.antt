use Rattle.std.proofs.Common.{◌+◌, List, sym, subst, refl}
use Rattle.plan_machine.specs.Strands.{after_claim}
use Rattle.design.specs.declared.pin_walk.PinWalk.{PinWalk}
use Rattle.demand_points.specs.declared.parts.Parts.{Parts}
use Rattle.demand_points.specs.inner.Demands.{TakesStepTo}
use Rattle.demand_points.proofs.PartLemmas.{asked, asked-point, claims}
use Rattle.demand_points.proofs.parts.Parts.push.Goals as goal

pub new-requires-clause-point : goal.new-requires-clause-point
new-requires-clause-point c =
    let d = c.args.design.now.circuit in
    asked-point d c.facts.ensures.circuit c.args.self.now c.requires.running c.args.p (asked d c.facts.ensures.circuit c.args.self.now c.requires.running c.args.p c.requires.ready c.requires.asks)

pub new-requires-clause-evaluable : goal.new-requires-clause-evaluable
new-requires-clause-evaluable c = (asked c.args.design.now.circuit c.facts.ensures.circuit c.args.self.now c.requires.running c.args.p c.requires.ready c.requires.asks).evaluable

pub returns-clause-ok : goal.returns-clause-ok
returns-clause-ok c =
    let d = c.args.design.now.circuit in
    let s = c.args.self.now in
    let p = c.args.p in
    let at : List PinWalk → Parts = λ st. record s { stack = st; charged = s.charged + 1 } in
    subst (λ st. TakesStepTo d (λ x. after_claim d x p) s (at st)) (sym c.in_ok-push.ensures.ok)
    (claims d c.facts.ensures.circuit s c.requires.running c.new.result p (s.charged + 1) (asked d c.facts.ensures.circuit s c.requires.running p c.requires.ready c.requires.asks) c.new.ensures.walk c.new.ensures.point c.new.ensures.looked refl)
