use Rattle.std.proofs.Common.{sym, subst, length}
use Rattle.bench_reader.specs.Netlists as netlists
use Rattle.design.proofs.Rowed.{row-is, row-sound}
use Rattle.design.proofs.signal_timing.row_at.Goals as goal

pub returns : goal.returns
returns c =
    let e = row-is c.args.netlist.now c.args.signal _ c.row.ensures in
    record {
      driver = e;
      sound = subst (netlists.IsNetlistDriver (length c.args.netlist.now.names)) (sym e) (row-sound c.args.netlist.now c.facts.ensures c.args.signal c.requires);
    }
