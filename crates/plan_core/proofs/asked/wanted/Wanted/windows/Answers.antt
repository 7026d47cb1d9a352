use Rattle.std.proofs.Common.{◌≡◌, ◌<◌, ◌≤◌, inl, inr, ap, sym, subst, ◌∙◌, get_or, arith}
use Rattle.std.proofs.lemmas.Bool.{cases_eq}
use Rattle.std.proofs.lemmas.List.{get_or_default}
use Rattle.journal_meaning.specs.declared.batch.Query.{Query}
use Rattle.plan_core.proofs.asked.wanted.Wanted.windows.Goals as goal

pub loop-q-init : goal.loop-q-init
loop-q-init c = λ i d p low. absurd (omega arith)

abbrev no_query : Query
no_query = record { number = 0; signal = 0; from = 0; to = 0; budget = 0 }

pub loop-q-preserved : goal.loop-q-preserved
loop-q-preserved c = λ i d p low same from to.
    let qs = c.args.queries.now in
    let n = c.loop-q.q-index in
    elim (cases_eq i n) [
      | inl e ↦
          let is : get_or qs i d ≡ get_or qs n no_query = ap (λ k. get_or qs k d) e ∙ get_or_default qs n d no_query c.loop-q-test.true in
          c.add.ensures.window p (same ∙ ap (λ (q : Query). q.signal) is) (subst (λ (q : Query). q.from ≤ p.time) is from) (subst (λ (q : Query). p.time < q.to) is to)
      | inr ne ↦ c.add.ensures.wanted_stay p (c.loop-q.invariant i d p (omega arith) same from to)
    ]

pub returns : goal.returns
returns c = λ q p has same from to.
    let t = c.loop-q-test.false in
    let low = has.1 in
    c.loop-q.invariant has.0 q p (omega arith) (same ∙ ap (λ (x : Query). x.signal) (sym has.2)) (subst (λ (x : Query). x.from ≤ p.time) (sym has.2) from) (subst (λ (x : Query). p.time < x.to) (sym has.2) to)
