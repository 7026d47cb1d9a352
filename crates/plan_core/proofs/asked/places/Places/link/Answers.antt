use Rattle.std.proofs.Common.{◌≡◌, ◌+◌, ◌<◌, List, ap, sym, subst, ◌∙◌, get_or, set, length, Some, None, arith}
use Rattle.std.proofs.lemmas.List.{length-map, map-set}
use Rattle.plan_core.specs.declared.asked.places.Noted.{Noted}
use Rattle.plan_core.specs.asked.inner.Places.{point_at, points_of, numbers_before, chain_of, HasPoint, LacksPoint, AreLinked}
use Rattle.plan_core.proofs.Chains.{skipped-unsaid, skipped-numberless, skipped-found, linked-more, linked-now, number-of, chain-is, linked-as, chain-low, some-holds, none-holds, noted-point, points-same}
use Rattle.plan_core.proofs.asked.places.Places.link.Goals as goal

pub returns-in_default-clause-linked : goal.returns-in_default-clause-linked
returns-in_default-clause-linked c =
    let journal = c.args.journal.now in
    let noted = c.args.self.now.noted.items in
    let x = c.index.result.now in
    skipped-unsaid (points_of journal noted) c.args.index c.args.self.now.last.items (numbers_before noted) c.requires.linked
    (noted-point journal noted c.args.index x c.requires.index ∙ ap (λ (y : Noted). point_at journal y.place) (sym c.index.ensures) ∙ sym c.in_default.ensures)

pub returns-in_default-try_from-clause-linked : goal.returns-in_default-try_from-clause-linked
returns-in_default-try_from-clause-linked c =
    let plus = c.saturating_add.ensures in
    let high = c.in_default-try_from.ensures in
    skipped-numberless (points_of c.args.journal.now c.args.self.now.noted.items) c.args.index c.args.self.now.last.items (numbers_before c.args.self.now.noted.items) c.requires.linked (omega (arith, plus, high))

pub returns-then-is_some-clause-linked : goal.returns-then-is_some-clause-linked
returns-then-is_some-clause-linked c =
    let journal = c.args.journal.now in
    let noted = c.args.self.now.noted.items in
    let points = points_of journal noted in
    let last = c.args.self.now.last.items in
    let p = c.in-Some.p in
    let chain = c.requires.linked (chain_of p (length last)) in
    let said : get_or points c.args.index None ≡ Some p = noted-point journal noted c.args.index c.index.result.now c.requires.index ∙ ap (λ (y : Noted). point_at journal y.place) (sym c.index.ensures) ∙ sym c.in-Some.ensures in
    let number = number-of last c.deref.result.now p c.chain_of-chain.result c.number_at-before.result c.len.result c.deref.ensures.value (c.len.ensures ∙ c.args.self.now.last.ok.0) c.chain_of-chain.ensures c.number_at-before.ensures in
    let linked = linked-as (numbers_before noted) (numbers_before c.deref-2.result.now) (get_or last (chain_of p (length last)) 0) c.number_at-before.result chain.places (ap numbers_before c.deref-2.ensures.value) number chain.is in
    let there : HasPoint (points_of journal c.deref-2.result.now) p chain.places = some-holds c.seek.result (HasPoint (points_of journal c.deref-2.result.now) p chain.places) (sym c.is_some.ensures ∙ c.if-is_some.true) (c.seek.ensures.some chain.places linked) in
    skipped-found points c.args.index last (numbers_before noted) c.requires.linked p said (subst (λ (l : List Noted). HasPoint (points_of journal l) p chain.places) c.deref-2.ensures.value there)

pub returns-clause-points : goal.returns-clause-points
returns-clause-points c =
    let x = c.index.result.now in
    points-same c.args.journal.now c.args.self.now.noted.items c.args.index x c.requires.index _ (ap (λ (y : Noted). y.place) c.index.ensures)

pub returns-clause-linked : goal.returns-clause-linked
returns-clause-linked c =
    let journal = c.args.journal.now in
    let noted = c.args.self.now.noted.items in
    let points = points_of journal noted in
    let before = numbers_before noted in
    let last = c.args.self.now.last.items in
    let n = c.args.index in
    let p = c.in-Some.p in
    let here = chain_of p (length last) in
    let chain = c.requires.linked here in
    let written : Noted = record { place = c.index.result.now.place; before = c.number_at-before.result } in
    let said : get_or points n None ≡ Some p = noted-point journal noted n c.index.result.now c.requires.index ∙ ap (λ (y : Noted). point_at journal y.place) (sym c.index.ensures) ∙ sym c.in-Some.ensures in
    let number = number-of last c.deref.result.now p c.chain_of-chain.result c.number_at-before.result c.len.result c.deref.ensures.value (c.len.ensures ∙ c.args.self.now.last.ok.0) c.chain_of-chain.ensures c.number_at-before.ensures in
    let linked = linked-as before (numbers_before c.deref-2.result.now) (get_or last here 0) c.number_at-before.result chain.places (ap numbers_before c.deref-2.ensures.value) number chain.is in
    let missing : LacksPoint (points_of journal c.deref-2.result.now) p chain.places = none-holds c.seek.result (LacksPoint (points_of journal c.deref-2.result.now) p chain.places) (sym c.is_some.ensures ∙ c.if-is_some.false) (c.seek.ensures.none chain.places linked) in
    let lacks : LacksPoint points p chain.places = subst (λ (l : List Noted). LacksPoint (points_of journal l) p chain.places) c.deref-2.ensures.value missing in
    let low : here < length last = chain-low p (length last) c.requires.some in
    let within : n < length before = subst (λ l. n < l) (sym (length-map noted (λ (y : Noted). y.before))) c.requires.index in
    let mine : c.chain_of-chain.result ≡ here = chain-is last p c.chain_of-chain.result c.len.result (c.len.ensures ∙ c.args.self.now.last.ok.0) c.chain_of-chain.ensures c.requires.some in
    let next : c.in-Ok.number ≡ n + 1 = (let plus = c.saturating_add.ensures in let e = c.in-Ok.ensures in omega arith) in
    let more = linked-more points n last before c.requires.linked p said low within lacks in
    let is = linked-now points (n + 1) (set last here (n + 1)) (set before n (get_or last here 0)) c.write_at.new.numbers.items (numbers_before (set noted n written))
    (c.write_at.ensures ∙ ap (λ k. set last k c.in-Ok.number) mine ∙ ap (set last here) next) (map-set (λ (y : Noted). y.before) noted n written ∙ ap (set before n) number) more in
    subst (λ l. AreLinked l (n + 1) c.write_at.new.numbers.items (numbers_before (set noted n written))) (sym (returns-clause-points c)) is
