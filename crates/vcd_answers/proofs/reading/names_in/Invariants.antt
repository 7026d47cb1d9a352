-- The lines that are left come after the wires so far.
use Rattle.std.proofs.Common.{◌≡◌, [], length}
use Rattle.texts.specs.Text.{lines}
use Rattle.vcd_answers.specs.inner.Reading.{with_names}
use Rattle.vcd_answers.proofs.reading.names_in.Given as goal

abbrev pub invariant-names : goal.invariant-names
invariant-names l = with_names l.wires.items (lines l.rest) ≡ with_names [] (lines l.text)

abbrev pub decreases-names : goal.decreases-names
decreases-names l = length l.rest
