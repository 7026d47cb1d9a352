use Rattle.design.specs.inner.Walk.{HaveReaders}
use Rattle.design.proofs.readers.readers_in.Given as goal

abbrev pub invariant-loop-signal : goal.invariant-loop-signal
invariant-loop-signal l = HaveReaders l.origin.circuit l.signal l.readers
