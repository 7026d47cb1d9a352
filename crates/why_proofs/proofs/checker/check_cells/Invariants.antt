-- The lines so far are justified, and the known cells are theirs.
use Rattle.std.proofs.Common.{take}
use Rattle.std.specs.BTreeMap.{get}
use Rattle.valid_intervals.specs.Cells.{point_cmp}
use Rattle.why_proofs.specs.Justified.{AreJustified}
use Rattle.why_proofs.specs.Known.{AreTrueCells, IsIndexOf}
use Rattle.why_proofs.proofs.checker.check_cells.Given as goal

abbrev pub invariant-loop-place : goal.invariant-loop-place
invariant-loop-place l = record {
  cells : AreTrueCells l.design.circuit (get point_cmp l.known.cells);
  index : IsIndexOf (take l.place l.cells) (get point_cmp l.known.cells);
  justified : AreJustified l.design.circuit l.cells l.place;
}
