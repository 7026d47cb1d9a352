use Rattle.std.proofs.Common.{ap, ◌∙◌, arith}
use Rattle.design.specs.Joined.{Joined}
use Rattle.design.proofs.Holding.{horizon-is, is-design}
use Rattle.design.proofs.design.Design.horizon.Goals as goal

pub returns : goal.returns
returns c =
    let same = c.horizon.ensures ∙ ap (λ (k : Joined). k.circuit.horizon) c.deref.ensures ∙ horizon-is _ _ _ c.self.invariant c.args.self.now c.self.view_is in
    let limits = (is-design _ _ _ c.self.invariant c.args.self.now c.self.view_is).limits.horizon in
    record { horizon = same; limit = omega (arith, same, limits) }
