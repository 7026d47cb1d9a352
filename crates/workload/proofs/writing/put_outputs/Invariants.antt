-- The lines so far are written.
use Rattle.std.proofs.Common.{◌≡◌, ◌++◌}
use Rattle.workload.specs.Texts.{lines_of, output_line}
use Rattle.workload.proofs.writing.put_outputs.Given as goal

abbrev pub invariant-loop-place : goal.invariant-loop-place
invariant-loop-place l = l.text.items ≡ l.initial.text.items ++ lines_of output_line l.place
