use Rattle.std.proofs.Common.{◌≡◌, take, drop}
use Rattle.design.specs.Join.{first_fault, timing_fault}
use Rattle.design.specs.inner.Said.{HasStated}
use Rattle.design.proofs.signal_timing.SignalTiming.read.Given as goal

abbrev pub invariant-loop-row : goal.invariant-loop-row
invariant-loop-row l = record {
  has : HasStated l.netlist l.timing (take l.row-index l.rows) l.stated;
  fault : first_fault (timing_fault l.netlist l.timing) l.rows ≡ first_fault (timing_fault l.netlist l.timing) (drop l.row-index l.rows);
}
