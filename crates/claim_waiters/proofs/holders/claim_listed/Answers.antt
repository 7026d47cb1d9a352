use Rattle.std.proofs.Common.{◌≡◌, ap, sym, subst, ◌∙◌, List, None, ℕ, rules}
use Rattle.std.specs.Prelude.{insert}
use Rattle.std.specs.List.Sorted.{IsStrictlySortedBy}
use Rattle.std.specs.Map.{keys_of}
use Rattle.valid_intervals.specs.declared.Point.{Point}
use Rattle.valid_intervals.specs.Cells.{point_cmp}
use Rattle.claim_waiters.specs.inner.View.{place_in, at}
use Rattle.claim_waiters.proofs.Listed.{inserted-at, order-inserted}
use Rattle.claim_waiters.proofs.holders.claim_listed.Goals as goal

pub returns-in-Ok-clause-claimed : goal.returns-in-Ok-clause-claimed
returns-in-Ok-clause-claimed c =
    let few = c.args.few.now.items in
    let free : at few c.args.p ≡ None = search rules in
    c.in-Ok.ensures.items ∙ ap (λ n. insert few n (c.args.p, c.args.q)) (c.place_in-place.ensures.place ∙ ap (λ l. place_in l c.args.p) c.deref-2.ensures.value)
    ∙ inserted-at few c.args.p c.args.q free

pub returns-in-Ok-clause-order : goal.returns-in-Ok-clause-order
returns-in-Ok-clause-order c =
    let few = c.args.few.now.items in
    subst (λ (es : List (Point × ℕ)). IsStrictlySortedBy point_cmp (keys_of es)) (sym (returns-in-Ok-clause-claimed c)) (order-inserted few c.args.p c.args.q c.requires)
