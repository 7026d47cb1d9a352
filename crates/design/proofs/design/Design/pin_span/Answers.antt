use Rattle.std.proofs.Common.{refl}
use Rattle.design.proofs.Pinned.{gate-pin, gate-delay, heard-starts, gate-sees, flop-sees}
use Rattle.design.proofs.design.Design.pin_span.Goals as goal

pub bounds-delays-pin : goal.bounds-delays-pin
bounds-delays-pin c =
    gate-pin c.args.self.now.circuit c.view.ensures.design.circuit c.args.signal c.args.time c.args.pin c.limit-limit.result c.limit-limit.ensures.limit c.requires.time
    c.in-Gate.kind c.in-Gate.signals c.in-Gate.delays c.in-Gate.least c.in-Gate.ensures.view c.requires.pin

pub later_span-requires-clause-delay : goal.later_span-requires-clause-delay
later_span-requires-clause-delay c =
    gate-delay c.args.self.now.circuit c.view.ensures.design.circuit c.args.signal c.args.time c.args.pin c.limit-limit.result c.limit-limit.ensures.limit c.requires.time
    c.in-Gate.kind c.in-Gate.signals c.in-Gate.delays c.in-Gate.least c.in-Gate.ensures.view c.requires.pin _ refl

pub later_span-requires-clause-heard : goal.later_span-requires-clause-heard
later_span-requires-clause-heard c =
    heard-starts c.args.self.now.circuit c.view.ensures.design.circuit c.args.signal c.args.time c.args.pin c.limit-limit.result c.limit-limit.ensures.limit c.requires.time
    c.in-Gate.kind c.in-Gate.signals c.in-Gate.delays c.in-Gate.least c.in-Gate.ensures.view c.requires.pin _ refl c.args.heard c.requires.heard

pub returns-in-Gate : goal.returns-in-Gate
returns-in-Gate c =
    gate-sees c.args.self.now.circuit c.view.ensures.design.circuit c.args.signal c.args.time c.args.pin c.limit-limit.result c.limit-limit.ensures.limit c.requires.time
    c.in-Gate.kind c.in-Gate.signals c.in-Gate.delays c.in-Gate.least c.in-Gate.ensures.view c.requires.pin _ refl c.args.heard c.requires.heard c.later_span.result c.later_span.ensures

pub returns-in-Flop : goal.returns-in-Flop
returns-in-Flop c =
    flop-sees c.args.self.now.circuit c.view.ensures.design.circuit c.args.signal c.args.time c.args.pin c.limit-limit.result c.limit-limit.ensures.limit c.requires.time
    c.in-Flop.flop c.in-Flop.signals c.in-Flop.ensures.view c.requires.pin c.requires.evaluable c.flop_span.result c.flop_span.ensures
