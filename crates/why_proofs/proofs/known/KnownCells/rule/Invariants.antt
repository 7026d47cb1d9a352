-- The pins that were looked at have answers.
use Rattle.std.proofs.Common.{◌≡◌, ◌-◌, List, length}
use Rattle.std.specs.BTreeMap.{get}
use Rattle.valid_intervals.specs.Cells.{point_cmp}
use Rattle.valid_intervals.specs.declared.SignalCell.{SignalCell}
use Rattle.why_proofs.specs.Justified.{answer}
use Rattle.design.specs.PinWalks.{IsPinWalk, looked_at}
use Rattle.why_proofs.specs.Known.{AreKnown, IsIndexOf}
use Rattle.why_proofs.proofs.known.KnownCells.rule.Given as goal

abbrev pub invariant-pins : goal.invariant-pins
invariant-pins l = record {
  walk : IsPinWalk l.design.circuit l.walk;
  point : l.walk.point ≡ l.fn.p;
  known : (lines : List SignalCell) → IsIndexOf lines (get point_cmp l.self.cells) → AreKnown l.design.circuit (answer l.design.circuit lines) l.fn.p l.walk.looked;
}

abbrev pub decreases-pins : goal.decreases-pins
decreases-pins l = length (looked_at l.design.circuit l.fn.p) - l.walk.looked
