-- The lines that are left go on with the wires so far.
use Rattle.std.proofs.Common.{◌≡◌, length}
use Rattle.texts.specs.Text.{lines}
use Rattle.vcd_answers.specs.inner.Reading.{with_changes}
use Rattle.vcd_answers.proofs.reading.changes_in.Given as goal

abbrev pub invariant-lines : goal.invariant-lines
invariant-lines l = with_changes l.wires l.time (lines l.rest) ≡ with_changes l.fn.wires 0 (lines l.text)

abbrev pub decreases-lines : goal.decreases-lines
decreases-lines l = length l.rest
