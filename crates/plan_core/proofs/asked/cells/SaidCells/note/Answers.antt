use Rattle.std.specs.BTreeMap.{get}
use Rattle.std.proofs.lemmas.Result.{on_ok_weaker}
use Rattle.journal_meaning.specs.Entries.{SaidCell}
use Rattle.journal_meaning.specs.Index.{cells_said}
use Rattle.valid_intervals.specs.Cells.{point_cmp}
use Rattle.plan_core.proofs.Exact.{right-cell}
use Rattle.plan_core.proofs.AskedIndex.{index-said, index-silent}
use Rattle.plan_core.proofs.asked.cells.SaidCells.note.Goals as goal

pub returns-in-Some : goal.returns-in-Some
returns-in-Some c = λ d es ok i right.
    let e = c.args.entry.now in
    let one : SaidCell = record { point = c.in-Some.point; cell = c.in-Some.cell } in
    let r = right-cell d e one c.in-Some.ensures.some right in
    on_ok_weaker c.insert.result (index-said d (get point_cmp c.insert.new.self.cells) es e one c.in-Some.ensures.some)
    (c.insert.ensures d (cells_said es) ok i r.1 r.0)

pub returns-in-None : goal.returns-in-None
returns-in-None c = λ d es ok i right. index-silent d (get point_cmp c.args.self.now.cells) es c.args.entry.now c.in-None.ensures.none i
