-- With the lines of the wires that are left the text is whole.
use Rattle.std.proofs.Common.{◌≡◌, ◌+◌, ◌++◌, drop}
use Rattle.std.specs.Prelude.{flat_map}
use Rattle.vcd_answers.specs.Dumps.{with_line_feed, var_lines}
use Rattle.vcd_answers.proofs.writing.push_vars.Given as goal

abbrev pub invariant-loop-wire : goal.invariant-loop-wire
invariant-loop-wire l = (l.code ≡ 33 + l.wire-index) × (l.text.items ++ flat_map with_line_feed (var_lines l.code (drop l.wire-index l.wires)) ≡ l.initial.text.items ++ flat_map with_line_feed (var_lines 33 l.wires))
