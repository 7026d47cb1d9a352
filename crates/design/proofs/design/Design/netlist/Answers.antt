use Rattle.std.proofs.Common.{ap, ◌∙◌}
use Rattle.design.specs.Joined.{Joined}
use Rattle.design.proofs.Holding.{netlist-is}
use Rattle.design.proofs.design.Design.netlist.Goals as goal

pub returns : goal.returns
returns c = c.netlist.ensures ∙ ap (λ (k : Joined). k.netlist) c.deref.ensures ∙ netlist-is _ _ _ c.self.invariant c.args.self.now c.self.view_is
