use Rattle.design.proofs.PinWalkLemmas.{read-point}
use Rattle.design.proofs.pin_walk.source_of.Goals as goal

pub returns-clause-point : goal.returns-clause-point
returns-clause-point c = read-point c.args.design.now.circuit c.facts.ensures.circuit c.args.point c.requires.point c.args.pin c.args.pins.now c.in_ok-time.time c.requires.pins c.requires.pin c.in_ok-time.ensures.earlier
