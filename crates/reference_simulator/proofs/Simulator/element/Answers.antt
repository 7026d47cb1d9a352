use Rattle.reference_simulator.proofs.Elements.{element-driver, element-fits, view-circuit}
use Rattle.reference_simulator.proofs.Simulator.element.Goals as goal

pub returns : goal.returns
returns c =
    let e = element-driver c.self.inside.horizon c.self.inside.elements.items c.args.self.now c.args.signal c.index.result.now c.self.view_is c.requires c.index.ensures in
    let ok = view-circuit c.self.inside.horizon c.self.inside.elements.items c.args.self.now c.self.view_is c.self.invariant in
    record {
      driver = e;
      fits = element-fits c.args.self.now ok c.args.signal c.index.result.now e;
      circuit = ok;
    }
