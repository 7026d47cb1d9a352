use Rattle.std.proofs.Common.{Option, IfNone, sym, subst}
use Rattle.std.specs.BTreeMap.{get}
use Rattle.valid_intervals.specs.declared.Cell.{Cell}
use Rattle.valid_intervals.specs.declared.Point.{Point}
use Rattle.valid_intervals.specs.Cells.{point_cmp}
use Rattle.journal_meaning.specs.Index.{IsFound}
use Rattle.journal_meaning.proofs.Callers.{found-right, found-some, none-before, none-last}
use Rattle.plan_core.proofs.asked.cells.SaidCells.find.Goals as goal
use Rattle.plan_core.proofs.asked.cells.SaidCells.find.Goals.{else-first-p-via-then-first-p+else-covers, else-first-p-via-else-first-p}

pub returns-in_err-first-clause-none : goal.returns-in_err-first-clause-none
returns-in_err-first-clause-none c = λ d cells ok i.
    let index = get point_cmp c.args.self.now.cells in
    let none = none-before d ok cells index i c.args.p (λ q up. (c.range.ensures.in_range tt).5 c.in_err-first.ensures.steps.0 q (tt, up)) in
    subst (λ (r : Option Cell). IfNone r (IsFound cells c.args.p → ⊥)) (sym c.from_residual.ensures) none

pub returns-else-first-p-clause-none : goal.returns-else-first-p-clause-none
returns-else-first-p-clause-none c = λ d cells ok i.
    let index = get point_cmp c.args.self.now.cells in
    let k : Point = c.in_ok-first.first.now in
    let cell : Cell = c.in_ok-first.cell.now in
    let there = (c.range.ensures.in_range tt).3 (k, cell) c.next_back.new.self c.in_ok-first.ensures.steps in
    let last = (c.range.ensures.in_range tt).4 (k, cell) c.next_back.new.self c.in_ok-first.ensures.steps in
    none-last d ok cells index i c.args.p k cell there.1 there.0.1 (λ q up some. last q (tt, up) some)
    (λ signal inside. elim c.else-first-p.branch [
      | else-first-p-via-then-first-p+else-covers w ↦ let yes = w.covers.ensures.1 inside in cc (yes, w.if-covers.false)
      | else-first-p-via-else-first-p w ↦ w.if-first-p.false signal
    ])

pub returns-then-covers-clause-cell : goal.returns-then-covers-clause-cell
returns-then-covers-clause-cell c = λ d cells ok i.
    let k : Point = c.in_ok-first.first.now in
    let cell : Cell = c.in_ok-first.cell.now in
    let there = (c.range.ensures.in_range tt).3 (k, cell) c.next_back.new.self c.in_ok-first.ensures.steps in
    found-right d ok cells (get point_cmp c.args.self.now.cells) i c.args.p k cell there.1 c.if-first-p.true (c.covers.ensures.0 c.if-covers.true)

pub returns-then-covers-clause-some : goal.returns-then-covers-clause-some
returns-then-covers-clause-some c = λ d cells ok i.
    let k : Point = c.in_ok-first.first.now in
    let cell : Cell = c.in_ok-first.cell.now in
    let there = (c.range.ensures.in_range tt).3 (k, cell) c.next_back.new.self c.in_ok-first.ensures.steps in
    found-some d ok cells (get point_cmp c.args.self.now.cells) i c.args.p k cell there.1 c.if-first-p.true (c.covers.ensures.0 c.if-covers.true)
