use Rattle.std.proofs.Common.{take}
use Rattle.design.specs.inner.Walk.{AddsReader}
use Rattle.design.proofs.readers.Readers.add_to_all.Given as goal

abbrev pub invariant-loop-signal : goal.invariant-loop-signal
invariant-loop-signal l = AddsReader l.reader (take l.signal-index l.signals) l.initial.self l.self
