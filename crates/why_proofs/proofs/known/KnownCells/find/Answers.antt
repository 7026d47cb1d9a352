use Rattle.std.proofs.Common.{◌∙◌}
use Rattle.std.specs.BTreeMap.{get}
use Rattle.valid_intervals.specs.declared.Cell.{Cell}
use Rattle.valid_intervals.specs.declared.Point.{Point}
use Rattle.valid_intervals.specs.Cells.{point_cmp}
use Rattle.why_proofs.proofs.KnownLemmas.{found-right, line-found, none-before, none-last}
use Rattle.why_proofs.proofs.known.KnownCells.find.Goals as goal
use Rattle.why_proofs.proofs.known.KnownCells.find.Goals.{else-first-p-via-then-first-p+else-covers, else-first-p-via-else-first-p}

pub returns-in_err-first-clause-line : goal.returns-in_err-first-clause-line
returns-in_err-first-clause-line c = λ d lines ok cells i.
    c.from_residual.ensures ∙ none-before d ok (get point_cmp c.args.self.now.cells) cells c.args.p lines i (λ q up. (c.range.ensures.in_range tt).5 c.in_err-first.ensures.steps.0 q (tt, up))

pub returns-else-first-p-clause-line : goal.returns-else-first-p-clause-line
returns-else-first-p-clause-line c = λ d lines ok cells i.
    let index = get point_cmp c.args.self.now.cells in
    let k : Point = c.in_ok-first.first.now in
    let cell : Cell = c.in_ok-first.cell.now in
    let there = (c.range.ensures.in_range tt).3 (k, cell) c.next_back.new.self c.in_ok-first.ensures.steps in
    let last = (c.range.ensures.in_range tt).4 (k, cell) c.next_back.new.self c.in_ok-first.ensures.steps in
    none-last d ok index cells c.args.p lines i k cell there.1 there.0.1 (λ q up some. last q (tt, up) some)
    (λ signal inside. elim c.else-first-p.branch [
      | else-first-p-via-then-first-p+else-covers w ↦ let yes = w.covers.ensures.1 inside in cc (yes, w.if-covers.false)
      | else-first-p-via-else-first-p w ↦ w.if-first-p.false signal
    ])

pub returns-then-covers-clause-cell : goal.returns-then-covers-clause-cell
returns-then-covers-clause-cell c = λ d ok cells.
    let k : Point = c.in_ok-first.first.now in
    let cell : Cell = c.in_ok-first.cell.now in
    let there = (c.range.ensures.in_range tt).3 (k, cell) c.next_back.new.self c.in_ok-first.ensures.steps in
    found-right d ok (get point_cmp c.args.self.now.cells) cells c.args.p k cell there.1 c.if-first-p.true (c.covers.ensures.0 c.if-covers.true)

pub returns-then-covers-clause-line : goal.returns-then-covers-clause-line
returns-then-covers-clause-line c = λ d lines ok cells i.
    let k : Point = c.in_ok-first.first.now in
    let cell : Cell = c.in_ok-first.cell.now in
    let there = (c.range.ensures.in_range tt).3 (k, cell) c.next_back.new.self c.in_ok-first.ensures.steps in
    line-found d ok (get point_cmp c.args.self.now.cells) cells c.args.p lines i k cell there.1 c.if-first-p.true (c.covers.ensures.0 c.if-covers.true)
