use Rattle.std.proofs.Common.{◌≡◌, length, sym, subst, ◌∙◌, arith}
use Rattle.plan_core.specs.asked.inner.Places.{points_of, numbers_before, HasNoted, AreLinked}
use Rattle.plan_core.proofs.Chains.{are-places, no-places, none-long}
use Rattle.plan_core.proofs.asked.places.Places.read.Goals as goal

pub returns-then-is_empty : goal.returns-then-is_empty
returns-then-is_empty c =
    let journal = c.args.journal.now in
    let noted = c.loop-place.places.noted in
    let t = c.loop-place-test.false in
    let e = c.loop-place.auto.place-end in
    let all : c.loop-place.place ≡ length journal = omega arith in
    no-places journal c.args.wanted.now c.loop-place.places.last.items noted.items (sym noted.ok.0 ∙ none-long c.is_empty.result noted.len c.is_empty.ensures c.if-is_empty.true) c.loop-place.invariant.none
    (subst (λ n. HasNoted journal c.args.wanted.now n (points_of journal noted.items)) all c.loop-place.invariant.noted)

pub returns : goal.returns
returns c =
    let journal = c.args.journal.now in
    let places = c.loop-index.places in
    let i = c.loop-index.invariant in
    let t = c.loop-index-test.false in
    let e = c.loop-index.auto.index-end in
    let all : c.loop-index.index ≡ length places.noted.items = (let k = i.count in omega arith) in
    are-places journal c.args.wanted.now places.last.items places.noted.items (λ h. i.chains) i.noted
    (subst (λ n. AreLinked (points_of journal places.noted.items) n places.last.items (numbers_before places.noted.items)) all i.linked)
