use Rattle.std.proofs.Common.{◌++◌, List, take}
use Rattle.std.specs.BTreeMap.{get}
use Rattle.std.specs.List.{AllByRecursion}
use Rattle.circuit_meaning.specs.Circuit.{Circuit, IsCircuit}
use Rattle.journal_meaning.specs.declared.Entry.{Entry}
use Rattle.journal_meaning.specs.Listed.{IsRightEntry}
use Rattle.journal_meaning.specs.Index.{cells_said, IsCellIndex}
use Rattle.valid_intervals.specs.Cells.{point_cmp}
use Rattle.plan_core.proofs.asked.cells.SaidCells.note_all.Given as goal

abbrev pub invariant-loop-entry : goal.invariant-loop-entry
invariant-loop-entry l = (c : Circuit) (es : List Entry) → IsCircuit c → IsCellIndex c (cells_said es) (get point_cmp l.initial.self.cells) → AllByRecursion (IsRightEntry c) l.entries
    → IsCellIndex c (cells_said (es ++ take l.entry-index l.entries)) (get point_cmp l.self.cells)
