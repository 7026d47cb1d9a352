use Rattle.std.proofs.Common.{ap, sym, ◌∙◌, length}
use Rattle.design.specs.Joined.{Joined}
use Rattle.design.proofs.Holding.{signals-are}
use Rattle.design.proofs.design.Design.signals.Goals as goal

pub returns : goal.returns
returns c = c.signals.ensures ∙ ap (λ (k : Joined). length k.circuit.drivers) c.deref.ensures ∙ sym (signals-are _ _ _ c.self.invariant c.args.self.now c.self.view_is)
