use Rattle.std.proofs.Common.{◌≡◌, ◌+◌, ◌++◌, List, min, take}
use Rattle.std.specs.BTreeMap.{get}
use Rattle.std.specs.List.{AllByRecursion}
use Rattle.circuit_meaning.specs.Circuit.{Circuit, IsCircuit}
use Rattle.journal_meaning.specs.declared.Entry.{Entry}
use Rattle.journal_meaning.specs.Answers.{fill_count}
use Rattle.journal_meaning.specs.Listed.{IsRightEntry}
use Rattle.journal_meaning.specs.Index.{cells_said, IsCellIndex}
use Rattle.valid_intervals.specs.Cells.{point_cmp}
use Rattle.plan_core.specs.asked.inner.Tails.{tails}
use Rattle.plan_core.proofs.asked.memo.read_new.Given as goal

abbrev pub invariant-loop-k : goal.invariant-loop-k
invariant-loop-k g l = record {
  indexed : (c : Circuit) (es : List Entry) → IsCircuit c → IsCellIndex c (cells_said es) (get point_cmp l.initial.cells.cells) → AllByRecursion (IsRightEntry c) (tails l.read l.shards)
      → IsCellIndex c (cells_said (es ++ tails (take l.k l.read) (take l.k l.shards))) (get point_cmp l.cells.cells);
  counts : l.charge ≡ min (l.initial.charge + fill_count (tails (take l.k l.read) (take l.k l.shards)) l.query.number) l.query.budget;
}
