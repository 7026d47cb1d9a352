use Rattle.std.proofs.Common.{◌≡◌, ◌∙◌, ap, sym, None, subst}
use Rattle.std.proofs.lemmas.Result.{IfOk-weaker, on_err_weaker}
use Rattle.valid_intervals.specs.declared.Point.{Point}
use Rattle.claim_waiters.specs.Claims.{Claims, claim_at, with_claim}
use Rattle.claim_waiters.specs.inner.View.{at, claims_of, those_in}
use Rattle.claim_waiters.proofs.ClaimLemmas.{free-claims, unclaimed, insert-claims, unclaimed-none, table-by-claim, once-claimed}
use Rattle.claim_waiters.proofs.table.ClaimTable.claim.Goals as goal

pub invariant_of-self : goal.invariant_of-self
invariant_of-self g c =
    table-by-claim c.self.inside.holders c.claim.new.self c.args.p c.args.q c.self.inside.rooms.entries c.claim.result c.claim.ensures.order c.claim.ensures.free c.claim.ensures.claimed c.claim.ensures.taken c.claim.ensures.err c.self.invariant

pub returns-clause-free : goal.returns-clause-free
returns-clause-free g c =
    let waiting = λ (p : Point). those_in g.W.Waiter.items (at c.self.inside.rooms.entries p) in
    let holders = c.self.inside.holders in
    IfOk-weaker c.claim.result _ _ (λ free is. (
      λ t. subst (λ (v : Claims g.row.W.Denot). claim_at v c.args.p ≡ None) c.self.view_is (free-claims waiting c.args.p holders (is.0 t)),
      λ none. is.1 (unclaimed waiting c.args.p holders (subst (λ (v : Claims g.row.W.Denot). claim_at v c.args.p ≡ None) (sym c.self.view_is) none)),
    )) c.claim.ensures.free

pub returns-clause-claimed : goal.returns-clause-claimed
returns-clause-claimed g c =
    let items = g.W.Waiter.items in
    let holders = c.self.inside.holders in
    let rooms = c.self.inside.rooms.entries in
    let waiting = λ (p : Point). those_in items (at rooms p) in
    once-claimed holders c.claim.new.self c.args.p c.args.q c.claim.result c.claim.ensures.free c.claim.ensures.claimed (λ free claimed.
    ap (λ es. claims_of items es rooms) claimed ∙ insert-claims waiting holders c.args.p c.args.q free (ap (those_in items) (unclaimed-none holders rooms c.args.p c.self.invariant free))
    ∙ ap (λ (v : Claims g.row.W.Denot). with_claim v c.args.q c.args.p) c.self.view_is)

pub returns-clause-err_free : goal.returns-clause-err_free
returns-clause-err_free g c =
    let waiting = λ (p : Point). those_in g.W.Waiter.items (at c.self.inside.rooms.entries p) in
    on_err_weaker c.claim.result (λ none. subst (λ (v : Claims g.row.W.Denot). claim_at v c.args.p ≡ None) c.self.view_is (free-claims waiting c.args.p c.self.inside.holders none)) c.claim.ensures.err_free
