use Rattle.std.proofs.Common.{◌≡◌, ◌∙◌}
use Rattle.valid_intervals.specs.Spans.{meet}
use Rattle.design.proofs.Overlap.{gate-over, gate-overlaps, flop-over, some_unless}
use Rattle.design.proofs.design.Design.span_over.Goals as goal

pub unwrap-requires : goal.unwrap-requires
unwrap-requires c =
    some_unless c.meet.result (λ none. gate-overlaps c.args.self.now.circuit c.view.ensures.design.circuit c.args.signal c.args.time c.limit-limit.result c.limit-limit.ensures.limit c.limit-limit.ensures.small c.requires.time c.requires.evaluable
    c.in-Gate.kind c.in-Gate.signals c.in-Gate.delays c.in-Gate.least c.in-Gate.ensures.view c.args.looked c.span_of.result c.requires.looked c.span_of.ensures (c.meet.ensures.none.0 none))

pub returns-in-Gate : goal.returns-in-Gate
returns-in-Gate c =
    let met : c.unwrap.result ≡ meet c.args.looked c.span_of.result = rw c.unwrap.ensures at c.meet.ensures.some in
    met ∙ gate-over c.args.self.now.circuit c.view.ensures.design.circuit c.args.signal c.args.time c.limit-limit.result c.limit-limit.ensures.limit c.limit-limit.ensures.small c.requires.time c.requires.evaluable
    c.in-Gate.kind c.in-Gate.signals c.in-Gate.delays c.in-Gate.least c.in-Gate.ensures.view c.args.looked c.span_of.result c.requires.looked c.span_of.ensures

pub returns-in-Flop : goal.returns-in-Flop
returns-in-Flop c =
    flop-over c.args.self.now.circuit c.view.ensures.design.circuit c.args.signal c.args.time c.limit-limit.result c.limit-limit.ensures.limit c.limit-limit.ensures.small c.requires.time c.requires.evaluable
    c.in-Flop.flop c.in-Flop.signals c.in-Flop.ensures.view c.args.looked c.requires.looked
