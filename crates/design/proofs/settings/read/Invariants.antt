use Rattle.std.proofs.Common.{◌≡◌, take, drop}
use Rattle.stimulus_file.specs.Named.{named_rows}
use Rattle.design.specs.Join.{first_fault, set_fault}
use Rattle.design.specs.inner.Said.{HasSets}
use Rattle.design.proofs.settings.read.Given as goal

abbrev pub invariant-loop-row : goal.invariant-loop-row
invariant-loop-row l = record {
  has : HasSets l.netlist (take l.row-index (named_rows l.stimulus.names.now l.stimulus.sets.now)) l.settings.items;
  fault : first_fault (set_fault l.netlist l.horizon) (named_rows l.stimulus.names.now l.stimulus.sets.now) ≡ first_fault (set_fault l.netlist l.horizon) (drop l.row-index (named_rows l.stimulus.names.now l.stimulus.sets.now));
}
