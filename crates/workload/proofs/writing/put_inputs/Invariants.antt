-- The lines so far are written.
use Rattle.std.proofs.Common.{◌≡◌, ◌++◌}
use Rattle.workload.specs.Texts.{lines_of, input_line}
use Rattle.workload.proofs.writing.put_inputs.Given as goal

abbrev pub invariant-loop-number : goal.invariant-loop-number
invariant-loop-number l = l.text.items ≡ l.initial.text.items ++ lines_of input_line l.number
