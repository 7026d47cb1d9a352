use Rattle.std.proofs.Common.{refl}
use Rattle.design.proofs.Pinned.{gate-pin, gate-view, gate-earlier, flop-view, flop-earlier}
use Rattle.design.proofs.design.Design.child_time.Goals as goal

pub bounds-delays-pin : goal.bounds-delays-pin
bounds-delays-pin c =
    gate-pin c.args.self.now.circuit c.view.ensures.design.circuit c.args.signal c.args.time c.args.pin _ refl c.requires.time
    c.in-Gate.kind c.in-Gate.signals c.in-Gate.delays c.in-Gate.least c.in-Gate.ensures.view c.requires.pin

pub returns-in-Gate : goal.returns-in-Gate
returns-in-Gate c = record {
  source = gate-view c.args.self.now.circuit c.view.ensures.design.circuit c.args.signal c.args.time c.args.pin _ refl c.requires.time
      c.in-Gate.kind c.in-Gate.signals c.in-Gate.delays c.in-Gate.least c.in-Gate.ensures.view c.requires.pin _ refl c.checked_sub.result c.checked_sub.ensures;
  earlier = gate-earlier c.args.self.now.circuit c.view.ensures.design.circuit c.args.signal c.args.time c.args.pin _ refl c.requires.time
      c.in-Gate.kind c.in-Gate.signals c.in-Gate.delays c.in-Gate.least c.in-Gate.ensures.view c.requires.pin _ refl c.checked_sub.result c.checked_sub.ensures;
}

pub returns-in-Flop : goal.returns-in-Flop
returns-in-Flop c = record {
  source = flop-view c.args.self.now.circuit c.view.ensures.design.circuit c.args.signal c.args.time c.args.pin _ refl c.requires.time
      c.in-Flop.flop c.in-Flop.signals c.in-Flop.ensures.view c.requires.pin c.requires.evaluable c.shown_edge.result c.shown_edge.ensures;
  earlier = flop-earlier c.args.self.now.circuit c.view.ensures.design.circuit c.args.signal c.args.time c.args.pin _ refl c.requires.time
      c.in-Flop.flop c.in-Flop.signals c.in-Flop.ensures.view c.requires.pin c.requires.evaluable c.shown_edge.result c.shown_edge.ensures;
}
