use Rattle.std.proofs.Common.{◌≡◌, ◌++◌, ◌+◌, ◌-◌, min, List, length, take, drop, ap, subst, ◌∙◌, arith}
use Rattle.std.proofs.lemmas.List.{length-drop, take_all}
use Rattle.journal_meaning.specs.Answers.{fill_count}
use Rattle.std.specs.BTreeMap.{get}
use Rattle.std.specs.List.{AllByRecursion}
use Rattle.journal_meaning.specs.declared.Entry.{Entry}
use Rattle.journal_meaning.specs.Listed.{IsRightEntry}
use Rattle.journal_meaning.specs.Index.{cells_said, IsCellIndex}
use Rattle.valid_intervals.specs.Cells.{point_cmp}
use Rattle.plan_core.proofs.asked.memo.read_tail.Goals as goal

pub returns-clause-indexed : goal.returns-clause-indexed
returns-clause-indexed g c = λ d es ok i right.
    let js = c.journal.result.now in
    let whole : take (length js - c.args.from) (drop c.args.from js) ≡ drop c.args.from js = take_all (length js - c.args.from) (drop c.args.from js) (let l = length-drop c.args.from js in omega arith) in
    let same = whole ∙ ap (drop c.args.from) c.journal.ensures in
    subst (λ (l : List Entry). AllByRecursion (IsRightEntry d) l → IsCellIndex d (cells_said (es ++ l)) (get point_cmp c.note_all.new.self.cells)) same (c.in_ok-note_all.ensures d es ok i) right

pub returns-clause-charge : goal.returns-clause-charge
returns-clause-charge g c =
    let js = c.journal.result.now in
    let whole : take (length js - c.args.from) (drop c.args.from js) ≡ drop c.args.from js = take_all (length js - c.args.from) (drop c.args.from js) (let l = length-drop c.args.from js in omega arith) in
    let same = whole ∙ ap (drop c.args.from) c.journal.ensures in
    c.charge_after.ensures ∙ ap (λ (l : List Entry). min (c.args.charge.now + fill_count l c.args.query.number) c.args.query.budget) same
