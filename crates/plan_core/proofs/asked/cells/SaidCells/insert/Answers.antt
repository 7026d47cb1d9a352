use Rattle.std.proofs.Common.{◌≡◌, ap}
use Rattle.std.specs.BTreeMap.{get}
use Rattle.valid_intervals.specs.declared.Point.{Point}
use Rattle.valid_intervals.specs.Cells.{point_cmp}
use Rattle.journal_meaning.proofs.Callers.{index-more}
use Rattle.plan_core.proofs.asked.cells.SaidCells.insert.Goals as goal

pub returns : goal.returns
returns c = λ d cells ok i right within.
    let after = get point_cmp c.insert.new.self in
    let place : Point = record { signal = c.args.point.signal; time = c.start.result } in
    let is : place ≡ record { signal = c.args.point.signal; time = c.args.cell.span.start } = ap (λ t. record { signal = c.args.point.signal; time = t }) c.start.ensures.start in
    index-more d ok cells (get point_cmp c.args.self.now.cells) after i c.args.point c.args.cell right within place is c.in_ok-insert.ensures.updates.0
