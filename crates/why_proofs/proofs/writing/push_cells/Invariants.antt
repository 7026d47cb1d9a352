-- With the lines of the cells that are left the text is whole.
use Rattle.std.proofs.Common.{◌≡◌, ◌++◌, drop}
use Rattle.std.specs.Prelude.{flat_map}
use Rattle.why_proofs.specs.Spelling.{cell_line}
use Rattle.why_proofs.proofs.writing.push_cells.Given as goal

abbrev pub invariant-loop-cell : goal.invariant-loop-cell
invariant-loop-cell l = l.text.items ++ flat_map cell_line (drop l.cell-index l.cell-items) ≡ l.initial.text.items ++ flat_map cell_line l.cell-items
