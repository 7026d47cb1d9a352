use Rattle.std.proofs.Common.{take}
use Rattle.design.specs.inner.Walk.{Marks}
use Rattle.design.proofs.cone.Walk.mark_all.Given as goal

abbrev pub invariant-loop-signal : goal.invariant-loop-signal
invariant-loop-signal l = Marks (take l.signal-index l.signals) l.initial.self.marks.items l.self.marks.items l.initial.self.ahead.items l.self.ahead.items
