use Rattle.design.specs.inner.Said.{KeepsRows}
use Rattle.design.proofs.signal_timing.SignalTiming.rows.Given as goal

abbrev pub invariant-loop-signal : goal.invariant-loop-signal
invariant-loop-signal l = KeepsRows l.netlist l.timing l.signal l.kept
