use Rattle.demand_points.proofs.PartLemmas.{filling-top, popped-running, popped-ready, popped-answer, popped-finishes}
use Rattle.demand_points.proofs.parts.Parts.finish.Goals as goal

pub hear-requires-clause-running : goal.hear-requires-clause-running
hear-requires-clause-running c =
    let d = c.args.design.now.circuit in
    let ok = c.facts.ensures.circuit in
    let t = filling-top d ok c.args.self.now c.requires.running c.pop.result c.pop.new.self c.pop.ensures c.requires.fills.0 c.requires.fills.1 in
    popped-running d ok c.args.self.now c.requires.running c.requires.fills.0 c.requires.fills.1 t.0 c.pop.new.self t.1

pub hear-requires-clause-ready : goal.hear-requires-clause-ready
hear-requires-clause-ready c =
    let d = c.args.design.now.circuit in
    let ok = c.facts.ensures.circuit in
    let t = filling-top d ok c.args.self.now c.requires.running c.pop.result c.pop.new.self c.pop.ensures c.requires.fills.0 c.requires.fills.1 in
    popped-ready d ok c.args.self.now c.requires.running c.requires.fills.0 c.requires.fills.1 t.0 c.pop.new.self t.1

pub hear-requires-clause-answer : goal.hear-requires-clause-answer
hear-requires-clause-answer c =
    let d = c.args.design.now.circuit in
    let ok = c.facts.ensures.circuit in
    let p = c.requires.fills.0 in
    let t = filling-top d ok c.args.self.now c.requires.running c.pop.result c.pop.new.self c.pop.ensures p c.requires.fills.1 in
    popped-answer d ok c.args.self.now c.requires.running p c.requires.fills.1 t.0 c.pop.new.self t.1 c.args.cell.now (c.requires.cell p c.requires.fills.1)

pub returns : goal.returns
returns c =
    let d = c.args.design.now.circuit in
    let ok = c.facts.ensures.circuit in
    let t = filling-top d ok c.args.self.now c.requires.running c.pop.result c.pop.new.self c.pop.ensures c.requires.fills.0 c.requires.fills.1 in
    popped-finishes d ok c.args.self.now c.requires.running c.requires.fills.0 c.requires.fills.1 t.0 c.pop.new.self t.1 c.hear.new.self c.hear.ensures
