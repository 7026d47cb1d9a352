use Rattle.design.proofs.PinWalkLemmas.{done-cell}
use Rattle.design.proofs.pin_walk.PinWalk.cell.Goals as goal

pub returns : goal.returns
returns c = done-cell c.args.design.now.circuit c.facts.ensures.circuit c.args.self.now c.requires.walk c.requires.done c.span_over.result c.span_over.ensures
