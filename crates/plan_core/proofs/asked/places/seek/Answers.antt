use Rattle.std.proofs.Common.{◌≡◌, ◌≢◌, ◌+◌, ◌-◌, get_or, Some, None, subst, sym, ap, refl, ◌∙◌, arith}
use Rattle.plan_core.specs.declared.asked.places.Noted.{Noted}
use Rattle.plan_core.specs.asked.inner.Places.{point_at, points_of, numbers_before}
use Rattle.plan_core.proofs.Chains.{sought-end, sought-over, sought-found, sought-next, noted-point, noted-before, past-point, past-before, none-lacks}
use Rattle.plan_core.proofs.asked.places.seek.Goals as goal

pub returns-then-number-eq0-clause-none : goal.returns-then-number-eq0-clause-none
returns-then-number-eq0-clause-none c = λ places h. sought-end (points_of c.args.journal.now c.args.noted.now) c.args.p (numbers_before c.args.noted.now) c.loop-step.number places (32 - c.loop-step._step) (c.loop-step.invariant places h) c.if-number-eq0.true

pub returns-in_err-entry-clause-none : goal.returns-in_err-entry-clause-none
returns-in_err-entry-clause-none c = λ places h.
    let journal = c.args.journal.now in
    let noted = c.args.noted.now in
    let n = c.loop-step.number in
    let step = c.loop-step._step in
    let more = c.if-number-eq0.false in
    let low = c.loop-step-test.true in
    let high = c.in_err-entry.ensures.lookup.3 in
    let next = sought-next (points_of journal noted) c.args.p (numbers_before noted) n places (32 - step) (c.loop-step.invariant places h) (n - 1) (omega (arith, more)) 0 (32 - (step + 1))
    (none-lacks (get_or (points_of journal noted) (n - 1) None) c.args.p (past-point journal noted (n - 1) high)) (sym (past-before journal noted (n - 1) high)) (omega (arith, low)) in
    rw c.from_residual.ensures (sought-end (points_of journal noted) c.args.p (numbers_before noted) 0 places (32 - (step + 1)) next refl)

pub returns-in-Some-clause-some : goal.returns-in-Some-clause-some
returns-in-Some-clause-some c = λ places h.
    let journal = c.args.journal.now in
    let noted = c.args.noted.now in
    let n = c.loop-step.number in
    let more = c.if-number-eq0.false in
    let x = c.in_ok-entry.entry.now in
    let low = c.in_ok-entry.ensures.lookup.3.0 in
    let here : get_or (points_of journal noted) (n - 1) None ≡ Some c.args.p = noted-point journal noted (n - 1) x low ∙ ap (λ (y : Noted). point_at journal y.place) (sym c.in_ok-entry.ensures.lookup.1) ∙ c.in-Some.ensures.some in
    sought-found (points_of journal noted) c.args.p (numbers_before noted) n places (32 - c.loop-step._step) (c.loop-step.invariant places h) (n - 1) (omega (arith, more)) here

pub loop-step-preserved : goal.loop-step-preserved
loop-step-preserved c = λ places h.
    let journal = c.args.journal.now in
    let noted = c.args.noted.now in
    let n = c.loop-step.number in
    let step = c.loop-step._step in
    let more = c.if-number-eq0.false in
    let low = c.loop-step-test.true in
    let x = c.in_ok-entry.entry.now in
    let within = c.in_ok-entry.ensures.lookup.3.0 in
    let is = c.in_ok-entry.ensures.lookup.1 in
    let here : get_or (points_of journal noted) (n - 1) None ≡ point_at journal x.place = noted-point journal noted (n - 1) x within ∙ ap (λ (y : Noted). point_at journal y.place) (sym is) in
    let next : x.before ≡ get_or (numbers_before noted) (n - 1) 0 = ap (λ (y : Noted). y.before) is ∙ sym (noted-before journal noted (n - 1) x within) in
    sought-next (points_of journal noted) c.args.p (numbers_before noted) n places (32 - step) (c.loop-step.invariant places h) (n - 1) (omega (arith, more)) x.before (32 - (step + 1))
    (subst (λ o. o ≢ Some c.args.p) (sym here) c.in_default.ensures.none) next (omega (arith, low))

pub returns-clause-none : goal.returns-clause-none
returns-clause-none c = λ places h.
    let over = c.loop-step-test.false in
    sought-over (points_of c.args.journal.now c.args.noted.now) c.args.p (numbers_before c.args.noted.now) c.loop-step.number places (32 - c.loop-step._step) (c.loop-step.invariant places h) (omega (arith, over))
