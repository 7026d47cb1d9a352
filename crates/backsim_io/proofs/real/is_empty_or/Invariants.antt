-- The bytes that were read are those of the head.
use Rattle.std.proofs.Common.{take}
use Rattle.std.specs.Io.KnownBytes.{Consumes}
use Rattle.backsim_io.proofs.real.is_empty_or.Given as goal

abbrev pub invariant-loop-at : goal.invariant-loop-at
invariant-loop-at g l = Consumes (g.F.Read.remaining l.initial.file) (g.F.Read.remaining l.file) (take l.at l.head)
