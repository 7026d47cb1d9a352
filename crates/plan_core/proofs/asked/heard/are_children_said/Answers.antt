use Rattle.std.proofs.Common.{◌≡◌, eqb-true, length, sym, ap, ◌∙◌, arith}
use Rattle.valid_intervals.specs.declared.Point.{Point}
use Rattle.design.specs.PinWalks.{looked_at}
use Rattle.plan_core.specs.asked.Memos.{entries_of}
use Rattle.plan_core.proofs.Pins.{pins-visited}
use Rattle.plan_core.proofs.asked.heard.are_children_said.Goals as goal

pub returns : goal.returns
returns g c = λ same.
    let b = g.B.BatchName.batch in
    let p = c.args.p in
    let es = entries_of c.args.shards.now in
    let d = b.circuit in
    let all = c.pins.invariant.covered in
    let done : c.pins.walk.looked ≡ length (looked_at d c.pins.walk.point) = eqb-true c.pins.walk.looked (length (looked_at d c.pins.walk.point)) (sym (c.is_done.ensures d c.pins.invariant.walk) ∙ c.pins-test.false) in
    let here : length (looked_at d c.pins.walk.point) ≡ length (looked_at d p) = ap (λ (x : Point). length (looked_at d x)) c.pins.invariant.point in
    pins-visited d es p (λ i l. all i (omega arith))
