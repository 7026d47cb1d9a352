use Rattle.std.proofs.Common.{◌≡◌, cond, None, sym, ◌∙◌, ap, Some, IsSome, subst}
use Rattle.valid_intervals.specs.declared.Point.{Point}
use Rattle.claim_waiters.specs.Claims.{Claims, claim_at, waiters_of, without_claim}
use Rattle.claim_waiters.specs.inner.View.{at, claims_of, those_in}
use Rattle.claim_waiters.proofs.Tables.{at-removed, at-same}
use Rattle.claim_waiters.proofs.ClaimLemmas.{claimed-claims, waiters-claims, remove-claims, those-taken, table-taken}
use Rattle.claim_waiters.proofs.table.ClaimTable.take.Goals as goal
use Rattle.claim_waiters.proofs.table.ClaimTable.take.Goals.{in-Some, in-None}

pub remove-requires : goal.remove-requires
remove-requires g c =
    claimed-claims (λ (p : Point). those_in g.W.Waiter.items (at c.self.inside.rooms.entries p)) c.args.p c.self.inside.holders
    (subst (λ (v : Claims g.row.W.Denot). IsSome (claim_at v c.args.p)) (sym c.self.view_is) c.requires)

pub invariant_of-self : goal.invariant_of-self
invariant_of-self g c =
    table-taken c.self.inside.holders c.remove.new.self c.self.inside.rooms.entries c.remove-2.new.self.entries c.args.p
    c.remove.ensures.order (λ x. ap (λ es. at es x) c.remove.ensures.rest ∙ at-removed c.self.inside.holders c.args.p x c.self.invariant.0 ∙ ap (λ b. cond b None (at c.self.inside.holders x)) (sym (at-same c.args.p x))) c.remove-2.ensures.updates.0 c.self.invariant

pub returns-clause-waiters : goal.returns-clause-waiters
returns-clause-waiters g c =
    let items = g.W.Waiter.items in
    let waiting = λ (p : Point). those_in items (at c.self.inside.rooms.entries p) in
    let claimed = subst (λ (v : Claims g.row.W.Denot). IsSome (claim_at v c.args.p)) (sym c.self.view_is) c.requires in
    let room : those_in items (at c.self.inside.rooms.entries c.args.p) ≡ items c.match-remove.result = elim c.match-remove.branch [
      | in-Some w ↦ ap (those_in items) (sym c.remove-2.ensures.value ∙ w.in-Some.is) ∙ ap items (sym w.result-is)
      | in-None w ↦ ap (those_in items) (sym c.remove-2.ensures.value ∙ w.in-None.is) ∙ sym w.none.ensures ∙ ap items (sym w.result-is)
    ] in
    sym (ap (λ (v : Claims g.row.W.Denot). waiters_of v c.args.p) c.self.view_is) ∙ waiters-claims waiting c.args.p c.self.inside.holders claimed ∙ ap Some room

pub returns-clause-rest : goal.returns-clause-rest
returns-clause-rest g c =
    let items = g.W.Waiter.items in
    let old = c.self.inside.rooms.entries in
    let new = c.remove-2.new.self.entries in
    ap (λ es. claims_of items es new) c.remove.ensures.rest
    ∙ remove-claims (λ (p : Point). those_in items (at old p)) (λ (p : Point). those_in items (at new p)) c.args.p c.self.inside.holders c.self.invariant.0 (those-taken items old new c.args.p c.remove-2.ensures.updates.0)
    ∙ ap (λ (v : Claims g.row.W.Denot). without_claim v c.args.p) c.self.view_is
