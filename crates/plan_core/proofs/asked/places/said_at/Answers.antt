use Rattle.std.proofs.Common.{◌∙◌, Some, ap}
use Rattle.plan_core.specs.asked.inner.Places.{point_at}
use Rattle.plan_core.proofs.Chains.{point-past, point-said, point-unsaid, none-lacks, other-lacks, same-point, other-point}
use Rattle.plan_core.proofs.asked.places.said_at.Goals as goal

pub returns-then-place-journal-clause-none : goal.returns-then-place-journal-clause-none
returns-then-place-journal-clause-none c = none-lacks (point_at c.args.journal.now c.args.place) c.args.p (point-past c.args.journal.now c.args.place c.if-place-journal.true)

pub returns-in_err-point-clause-none : goal.returns-in_err-point-clause-none
returns-in_err-point-clause-none c =
    let journal = c.args.journal.now in
    let place = c.args.place in
    rw c.from_residual.ensures
    (none-lacks (point_at journal place) c.args.p (point-unsaid journal place c.index-journal-place.result c.if-place-journal.false c.index-journal-place.is c.in_err-point.ensures.none))

pub returns-then-eq-clause-some : goal.returns-then-eq-clause-some
returns-then-eq-clause-some c =
    let journal = c.args.journal.now in
    let q = c.in_ok-point.point in
    point-said journal c.args.place c.index-journal-place.result (record { point = q; cell = c.in_ok-point.cell }) c.if-place-journal.false c.index-journal-place.is c.in_ok-point.ensures.some
    ∙ ap Some (same-point q c.args.p c.eq.result c.eq.ensures c.if-eq.true)

pub returns-else-eq-clause-none : goal.returns-else-eq-clause-none
returns-else-eq-clause-none c =
    let journal = c.args.journal.now in
    let place = c.args.place in
    let q = c.in_ok-point.point in
    other-lacks (point_at journal place) c.args.p q (point-said journal place c.index-journal-place.result (record { point = q; cell = c.in_ok-point.cell }) c.if-place-journal.false c.index-journal-place.is c.in_ok-point.ensures.some)
    (other-point q c.args.p c.eq.result c.eq.ensures c.if-eq.false)
