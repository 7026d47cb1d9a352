use Rattle.std.proofs.Common.{◌≡◌, take}
use Rattle.std.specs.Prelude.{flat_map}
use Rattle.journal_text.specs.Spelling.{entry_line}
use Rattle.worker_gate.proofs.lines.text_of.Given as goal

abbrev pub invariant-loop-entry : goal.invariant-loop-entry
invariant-loop-entry l = l.text.items ≡ flat_map entry_line (take l.entry-index l.entries)
