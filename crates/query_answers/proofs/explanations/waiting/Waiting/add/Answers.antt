use Rattle.std.proofs.Common.{◌≡◌, true, false, cond, is_some, Some, sym, subst, ◌∙◌}
use Rattle.std.specs.BTreeMap.{get}
use Rattle.std.specs.Ordering.{is_eq}
use Rattle.query_answers.specs.declared.explanations.waiting.LinePlace.{LinePlace}
use Rattle.query_answers.specs.explanations.inner.Waiting.{place_cmp, line_of, place_of}
use Rattle.query_answers.proofs.Places.{adds-none, adds-one}
use Rattle.query_answers.proofs.explanations.waiting.Waiting.add.Goals as goal

pub returns-then-contains_key : goal.returns-then-contains_key
returns-then-contains_key c =
    let old = get place_cmp c.args.self.now.cells in
    adds-none old c.args.asked.now (subst (λ (p : LinePlace). is_some (old p) ≡ true) c.place-place.ensures (sym c.contains_key.ensures ∙ c.if-contains_key.true))

pub returns : goal.returns
returns c =
    let old = get place_cmp c.args.self.now.cells in
    let new = get place_cmp c.insert.new.self in
    let a = c.args.asked.now in
    let none : is_some (old (place_of (line_of a))) ≡ false = subst (λ (p : LinePlace). is_some (old p) ≡ false) c.place-place.ensures (sym c.contains_key.ensures ∙ c.if-contains_key.false) in
    adds-one old new a none (subst (λ (p : LinePlace). (k : LinePlace) → new k ≡ cond (is_eq (place_cmp p k)) (Some a) (old k)) c.place-place.ensures c.in_ok-insert.ensures.updates.0)
