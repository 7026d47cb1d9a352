use Rattle.std.proofs.Common.{◌++◌, List, take, sym, subst, arith}
use Rattle.std.specs.BTreeMap.{get}
use Rattle.std.specs.List.{AllByRecursion}
use Rattle.std.proofs.lemmas.List.{take_all}
use Rattle.journal_meaning.specs.declared.Entry.{Entry}
use Rattle.journal_meaning.specs.Listed.{IsRightEntry}
use Rattle.journal_meaning.specs.Index.{cells_said, IsCellIndex}
use Rattle.valid_intervals.specs.Cells.{point_cmp}
use Rattle.plan_core.specs.asked.Memos.{entries_of}
use Rattle.plan_core.proofs.Entries.{entries-item, entries-one}
use Rattle.plan_core.proofs.asked.reading.read_all.Goals as goal

pub loop-shard-init : goal.loop-shard-init
loop-shard-init g c = λ d ok right. c.new-cells.ensures d

pub loop-shard-preserved : goal.loop-shard-preserved
loop-shard-preserved g c = λ d ok right.
    let ms = c.args.shards.now in
    let n = c.loop-shard.shard-index in
    let m = c.shard-item.result in
    let es = entries_of (take n ms) in
    let index = get point_cmp c.note_all.new.self.cells in
    let more = subst (λ (l : List Entry). AllByRecursion (IsRightEntry d) l → IsCellIndex d (cells_said (es ++ l)) index) c.journal.ensures (c.in_ok-note_all.ensures d es ok (c.loop-shard.invariant d ok right)) in
    subst (λ l. IsCellIndex d (cells_said l) index) (sym (entries-item ms n m c.loop-shard-test.true c.shard-item.is)) (more (entries-one (IsRightEntry d) ms n m c.loop-shard-test.true c.shard-item.is right))

pub returns : goal.returns
returns g c = λ d ok right.
    let ms = c.args.shards.now in
    subst (λ l. IsCellIndex d (cells_said (entries_of l)) (get point_cmp c.loop-shard.cells.cells)) (take_all c.loop-shard.shard-index ms (let t = c.loop-shard-test.false in omega arith)) (c.loop-shard.invariant d ok right)
