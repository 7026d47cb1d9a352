use Rattle.std.proofs.Common.{◌<◌, ℕ, List, ap, sym, subst, ◌∙◌, length}
use Rattle.std.specs.Prelude.{remove}
use Rattle.std.specs.BTreeMap.{is_at}
use Rattle.std.specs.List.Sorted.{IsStrictlySortedBy}
use Rattle.std.specs.Map.{keys_of}
use Rattle.valid_intervals.specs.declared.Point.{Point}
use Rattle.valid_intervals.specs.Cells.{point_cmp}
use Rattle.claim_waiters.specs.inner.View.{place_in}
use Rattle.claim_waiters.proofs.Listed.{removed-at, claimed-within, order-removed}
use Rattle.claim_waiters.proofs.holders.remove_listed.Goals as goal

pub remove-requires : goal.remove-requires
remove-requires c =
    let few = c.args.few.now.items in
    let len = ap length (sym c.deref.ensures.value) ∙ c.deref.ensures.len in
    subst (λ (n : ℕ). c.place_in-place.result < n) len
    (subst (λ (n : ℕ). n < length few) (sym (c.place_in-place.ensures.place ∙ ap (λ l. place_in l c.args.p) c.deref.ensures.value)) (claimed-within few c.args.p c.requires.order c.requires.claimed))

pub returns-clause-rest : goal.returns-clause-rest
returns-clause-rest c =
    c.remove.ensures.items ∙ ap (λ n. remove c.args.few.now.items n) (c.place_in-place.ensures.place ∙ ap (λ l. place_in l c.args.p) c.deref.ensures.value)
    ∙ removed-at c.args.few.now.items c.args.p c.requires.order c.requires.claimed

pub returns-clause-order : goal.returns-clause-order
returns-clause-order c =
    subst (λ (es : List (Point × ℕ)). IsStrictlySortedBy point_cmp (keys_of es)) (sym (returns-clause-rest c)) (order-removed (is_at (point_cmp c.args.p)) c.args.few.now.items c.requires.order)
