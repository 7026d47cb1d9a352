use Rattle.std.proofs.Common.{ap, sym, ◌∙◌, cond, Some, None}
use Rattle.std.proofs.lemmas.Bool.{ltb-true, ltb-false}
use Rattle.claim_waiters.proofs.Listed.{query-found, query-none}
use Rattle.claim_waiters.proofs.holders.query_listed.Goals as goal

pub returns-in_err-point : goal.returns-in_err-point
returns-in_err-point c =
    c.from_residual.ensures ∙ sym (query-none c.args.few.now c.args.p c.place_in.result c.requires c.place_in.ensures.place (ltb-false _ _ (sym c.in_err-point.ensures.lookup.0)))

pub returns-then-eq : goal.returns-then-eq
returns-then-eq c =
    let e = c.in_ok-point.field-0.now in
    ap (λ b. cond b (Some e.1) None) (sym c.if-eq.true ∙ c.eq.ensures)
    ∙ sym (query-found c.args.few.now c.args.p c.place_in.result e c.requires c.place_in.ensures.place (ltb-true _ _ (sym c.in_ok-point.ensures.lookup.0)) c.in_ok-point.ensures.lookup.1)

pub returns-else-eq : goal.returns-else-eq
returns-else-eq c =
    let e = c.in_ok-point.field-0.now in
    ap (λ b. cond b (Some e.1) None) (sym c.if-eq.false ∙ c.eq.ensures)
    ∙ sym (query-found c.args.few.now c.args.p c.place_in.result e c.requires c.place_in.ensures.place (ltb-true _ _ (sym c.in_ok-point.ensures.lookup.0)) c.in_ok-point.ensures.lookup.1)
