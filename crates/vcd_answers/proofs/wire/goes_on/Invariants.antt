-- What is left goes on behind the last run.
use Rattle.std.proofs.Common.{◌≡◌, drop}
use Rattle.vcd_answers.specs.Wires.{goes_on}
use Rattle.vcd_answers.proofs.wire.goes_on.Given as goal

abbrev pub invariant-loop-run : goal.invariant-loop-run
invariant-loop-run l = goes_on l.last (drop l.run-index l.rest) ≡ goes_on l.fn.first l.rest
