use Rattle.std.proofs.lemmas.Option.{IfSome_then}
use Rattle.design.proofs.Answered.{input-is, gate-early, flop-idle}
use Rattle.design.proofs.design.Design.base.Goals as goal

pub returns-in-Input-clause-cell : goal.returns-in-Input-clause-cell
returns-in-Input-clause-cell c =
    input-is c.args.self.now.circuit c.view.ensures.design.circuit c.args.signal c.args.time c.limit-limit.result c.limit-limit.ensures.limit c.in-Input.settings c.in-Input.ensures.view
    c.input_cell.result c.input_cell.ensures.span c.input_cell.ensures.value

pub returns-in-Gate-clause-cell : goal.returns-in-Gate-clause-cell
returns-in-Gate-clause-cell c =
    IfSome_then c.early_gate.result c.early_gate.ensures.some (λ cell h. gate-early c.args.self.now.circuit c.view.ensures.design.circuit c.args.signal c.args.time c.limit-limit.result c.limit-limit.ensures.limit
    c.in-Gate.kind c.in-Gate.signals c.in-Gate.delays c.in-Gate.least c.in-Gate.ensures.view h.0 cell h.1)

pub returns-in-Flop-clause-cell : goal.returns-in-Flop-clause-cell
returns-in-Flop-clause-cell c =
    IfSome_then c.idle_flop.result c.idle_flop.ensures.some (λ cell h. flop-idle c.args.self.now.circuit c.view.ensures.design.circuit c.args.signal c.args.time c.limit-limit.result c.limit-limit.ensures.limit
    c.in-Flop.flop c.in-Flop.signals c.in-Flop.ensures.view h.0 cell h.1)
