use Rattle.std.proofs.Common.{sym, refl}
use Rattle.design.proofs.Answered.{gate-reads}
use Rattle.design.proofs.design.Design.gate_of.Goals as goal

pub returns-in-Gate-clause-pins : goal.returns-in-Gate-clause-pins
returns-in-Gate-clause-pins c =
    sym (gate-reads c.args.self.now.circuit c.view.ensures.design.circuit c.args.signal 0 _ refl c.in-Gate.kind c.in-Gate.signals c.in-Gate.delays c.in-Gate.least c.in-Gate.ensures.view)
