use Rattle.std.proofs.Common.{◌∙◌, ◌++◌, ◌∷◌, [], ap, sym, subst, IsSome, unwrap_or, rules}
use Rattle.std.specs.BTreeMap.Entry.{map_with_value}
use Rattle.std.proofs.lemmas.Result.{on_ok_weaker, on_err_weaker}
use Rattle.valid_intervals.specs.declared.Point.{Point}
use Rattle.claim_waiters.specs.Claims.{Claims, claim_at, with_waiter}
use Rattle.claim_waiters.specs.inner.View.{at, those_in}
use Rattle.claim_waiters.proofs.ClaimLemmas.{claimed-claims, same-claims, wait-claims, those-lent, those-same, those-waited, table-waited}
use Rattle.claim_waiters.proofs.table.ClaimTable.wait.Goals as goal

pub invariant_of-self-2 : goal.invariant_of-self-2
invariant_of-self-2 g c =
    let waiting = λ (p : Point). those_in g.W.Waiter.items (at c.self.inside.rooms.entries p) in
    let claimed = claimed-claims waiting c.args.p c.self.inside.holders (subst (λ (v : Claims g.row.W.Denot). IsSome (claim_at v c.args.p)) (sym c.self.view_is) c.requires) in
    table-waited c.self.inside.holders c.self.inside.rooms.entries _ (map_with_value c.in-Ok.room c.wait.new.room).entries c.args.p c.wait.new.room (search rules) (c.in-Ok.ensures.update.0 c.wait.new.room).0 claimed c.self.invariant

pub returns-clause-ok : goal.returns-clause-ok
returns-clause-ok g c =
    let items = g.W.Waiter.items in
    let old = c.self.inside.rooms.entries in
    let lent = those-lent items (at old c.args.p) c.none.result c.or_insert.result.now c.none.ensures (c.or_insert.ensures.value ∙ ap (λ o. unwrap_or o c.none.result) c.in-Ok.ensures.value) in
    on_ok_weaker c.wait.result (λ e.
    wait-claims (λ (p : Point). those_in items (at old p)) _ c.args.p c.args.waiter c.self.inside.holders c.self.invariant.0
    (those-waited items old _ (map_with_value c.in-Ok.room c.wait.new.room).entries c.args.p c.wait.new.room c.args.waiter (search rules) (c.in-Ok.ensures.update.0 c.wait.new.room).0 (e ∙ ap (λ l. l ++ c.args.waiter ∷ []) lent))
    ∙ ap (λ (v : Claims g.row.W.Denot). with_waiter v c.args.p c.args.waiter) c.self.view_is) c.wait.ensures.ok

pub returns-clause-err : goal.returns-clause-err
returns-clause-err g c =
    let items = g.W.Waiter.items in
    let old = c.self.inside.rooms.entries in
    let lent = those-lent items (at old c.args.p) c.none.result c.or_insert.result.now c.none.ensures (c.or_insert.ensures.value ∙ ap (λ o. unwrap_or o c.none.result) c.in-Ok.ensures.value) in
    on_err_weaker c.wait.result (λ e.
    same-claims (λ (p : Point). those_in items (at old p)) _ c.self.inside.holders
    (those-same items old _ (map_with_value c.in-Ok.room c.wait.new.room).entries c.args.p c.wait.new.room (search rules) (c.in-Ok.ensures.update.0 c.wait.new.room).0 (e ∙ lent))
    ∙ c.self.view_is) c.wait.ensures.err
