use Rattle.std.proofs.Common.{false, Contains, reverse}
use Rattle.std.specs.BTreeMap.{get}
use Rattle.valid_intervals.specs.declared.SignalCell.{SignalCell}
use Rattle.plan_core.specs.asked.Memos.{entries_of}
use Rattle.query_answers.specs.asking.inner.AskedMemos.{GoesOnAsking}
use Rattle.query_answers.specs.explanations.inner.Waiting.{place_cmp}
use Rattle.query_answers.specs.explanations.inner.Gathered.{AreSourcesKept, AreGathered, rank}
use Rattle.query_answers.proofs.explanations.lines.gather.Given as goal

abbrev pub invariant-cells : goal.invariant-cells
invariant-cells g l = record {
  gathered : AreGathered g.B.BatchName.batch l.initial.asking.query (entries_of l.asking.memo) (reverse l.lines.items) (get place_cmp l.waiting.cells);
  sources : (x : SignalCell) → Contains (reverse l.lines.items) x → AreSourcesKept g.B.BatchName.batch.circuit (reverse l.lines.items) (get place_cmp l.waiting.cells) x;
  asks : GoesOnAsking g.B.BatchName.batch g.B.BatchName.opening l.initial.asking l.asking false;
}

abbrev pub decreases-cells : goal.decreases-cells
decreases-cells g l = rank g.B.BatchName.batch.circuit.horizon (reverse l.lines.items)
