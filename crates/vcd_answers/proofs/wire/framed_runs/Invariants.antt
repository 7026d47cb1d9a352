-- The points so far are gone over.
use Rattle.std.proofs.Common.{◌≡◌, ◌++◌, take}
use Rattle.window_walks.specs.Runs.{maximal_runs}
use Rattle.vcd_answers.specs.Wires.{before_window}
use Rattle.vcd_answers.proofs.wire.framed_runs.Given as goal

abbrev pub invariant-loop-run : goal.invariant-loop-run
invariant-loop-run l = l.points ≡ maximal_runs (before_window l.start ++ take l.run-index l.runs)
