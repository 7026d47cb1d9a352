use Rattle.std.proofs.Common.{[], ◌∷◌, ◌++◌, take, sym, subst, arith, append_assoc, append-nil}
use Rattle.std.specs.BTreeMap.{get}
use Rattle.std.proofs.lemmas.List.{take_all}
use Rattle.journal_meaning.specs.Listed.{IsRightEntry}
use Rattle.journal_meaning.specs.Index.{cells_said, IsCellIndex}
use Rattle.valid_intervals.specs.Cells.{point_cmp}
use Rattle.design.proofs.Callers.{taken-at}
use Rattle.plan_core.proofs.AskedLists.{each-item}
use Rattle.plan_core.proofs.asked.cells.SaidCells.note_all.Goals as goal

pub loop-entry-init : goal.loop-entry-init
loop-entry-init c = λ d es ok i right. subst (λ l. IsCellIndex d (cells_said l) (get point_cmp c.args.self.now.cells)) (sym (append-nil es)) i

pub loop-entry-preserved : goal.loop-entry-preserved
loop-entry-preserved c = λ d es ok i right.
    let xs = c.args.entries.now in
    let n = c.loop-entry.entry-index in
    subst (λ l. IsCellIndex d (cells_said (es ++ l)) (get point_cmp c.note.new.self.cells)) (taken-at xs n c.entry-item.result c.loop-entry-test.true c.entry-item.is)
    (subst (λ l. IsCellIndex d (cells_said l) (get point_cmp c.note.new.self.cells)) (append_assoc es (take n xs) (c.entry-item.result ∷ []))
    (c.in_ok-note.ensures d (es ++ take n xs) ok (c.loop-entry.invariant d es ok i right) (each-item (IsRightEntry d) xs right n c.entry-item.result c.loop-entry-test.true c.entry-item.is)))

pub returns : goal.returns
returns c = λ d es ok i right.
    let xs = c.args.entries.now in
    subst (λ l. IsCellIndex d (cells_said (es ++ l)) (get point_cmp c.loop-entry.self.cells)) (take_all c.loop-entry.entry-index xs (let t = c.loop-entry-test.false in omega arith)) (c.loop-entry.invariant d es ok i right)
