use Rattle.std.proofs.Common.{List, IfNone, ap, subst, ◌∙◌, get_or, length}
use Rattle.plan_core.specs.declared.asked.places.Noted.{Noted}
use Rattle.plan_core.specs.asked.inner.Places.{points_of, numbers_before, chain_of, LacksPoint, IsUnsaid}
use Rattle.plan_core.proofs.Chains.{number-of, linked-as, lacks-unsaid, none-more}
use Rattle.plan_core.proofs.asked.places.Places.seek.Goals as goal

pub returns-clause-none : goal.returns-clause-none
returns-clause-none c = λ wanted are is few.
    let journal = c.args.journal.now in
    let last = c.args.self.now.last.items in
    let noted = c.args.self.now.noted.items in
    let p = c.args.p in
    let chain = are.linked (chain_of p (length last)) in
    let number = number-of last c.deref.result.now p c.chain_of.result c.number_at-last.result c.len.result c.deref.ensures.value (c.len.ensures ∙ c.args.self.now.last.ok.0) c.chain_of.ensures c.number_at-last.ensures in
    let linked = linked-as (numbers_before noted) (numbers_before c.deref-2.result.now) (get_or last (chain_of p (length last)) 0) c.number_at-last.result chain.places (ap numbers_before c.deref-2.ensures.value) number chain.is in
    none-more c.seek.result (LacksPoint (points_of journal noted) p chain.places) (IsUnsaid journal p) (lacks-unsaid journal wanted last noted p are is few)
    (subst (λ (l : List Noted). IfNone c.seek.result (LacksPoint (points_of journal l) p chain.places)) c.deref-2.ensures.value (c.seek.ensures.none chain.places linked))
