use Rattle.std.proofs.Common.{take}
use Rattle.design.specs.inner.Said.{KnowsClocks}
use Rattle.design.proofs.signal_timing.NamedClocks.read.Given as goal

abbrev pub invariant-loop-row : goal.invariant-loop-row
invariant-loop-row l = KnowsClocks (take l.row-index l.rows) l.clocks
