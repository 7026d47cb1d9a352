use Rattle.std.proofs.Common.{sym, ◌∙◌}
use Rattle.plan_core.proofs.Chains.{point-past, point-said, point-unsaid}
use Rattle.plan_core.proofs.asked.places.point_in.Goals as goal

pub returns-then-place-journal : goal.returns-then-place-journal
returns-then-place-journal c = sym (point-past c.args.journal.now c.args.place c.if-place-journal.true)

pub returns-in_err-p : goal.returns-in_err-p
returns-in_err-p c =
    let unsaid = point-unsaid c.args.journal.now c.args.place c.index-journal-place.result c.if-place-journal.false c.index-journal-place.is c.in_err-p.ensures.none in
    let none = c.from_residual.ensures in
    none ∙ sym unsaid

pub returns : goal.returns
returns c =
    sym (point-said c.args.journal.now c.args.place c.index-journal-place.result (record { point = c.in_ok-p.p; cell = c.in_ok-p.field-0-1 }) c.if-place-journal.false c.index-journal-place.is c.in_ok-p.ensures.some)
