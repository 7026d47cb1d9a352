-- Claims in a list, in the order of their points.
use Rattle.std.proofs.Common.{◌≡◌, All, ℕ, suc, ◌+◌, ◌≤◌, ◌<◌, Bool, true, false, cond, List, [], ◌∷◌, ◌++◌, length, take, drop, get_or, refl, ap, sym, ◌∙◌, subst, Option, Some, None, IsSome, arith}
use Rattle.std.specs.Prelude.{slice_get, insert, remove, if◌then◌else◌}
use Rattle.std.specs.declared.cmp.Ordering.TheVariants.{Less, Equal, Greater}
use Rattle.std.specs.Ordering.{is_eq, is_gt, match_ordering}
use Rattle.std.specs.List.{AllByRecursion}
use Rattle.std.specs.List.Sorted.{IsStrictlySortedBy}
use Rattle.std.specs.BTreeMap.{insert_entry, is_at}
use Rattle.std.specs.Map.{keys_of, remove_entry}
use Rattle.std.proofs.Math.Seq.{split_at, take-suc}
use Rattle.std.proofs.lemmas.Option.{slice_get-get_or, slice_get_past}
use Rattle.std.proofs.lemmas.Bool.Decides.{nat_tests}
use Rattle.std.proofs.lemmas.List.Elements.{All-nil, All-cons}
use Rattle.std.proofs.lemmas.Map.Keys.{sorted_head, sorted_tail}
use Rattle.valid_intervals.specs.declared.Point.{Point}
use Rattle.valid_intervals.specs.Cells.{same_point, point_cmp}
use Rattle.claim_waiters.specs.inner.View.{at, place_in}
use Rattle.claim_waiters.proofs.Tables.{none-before}

-- the query of the entry, if it is the point's
abbrev pub query_if : Point → Option (Point × ℕ) → Option ℕ
query_if p None = None
query_if p (Some e) = if same_point e.0 p then Some e.1 else None

turned : (a b : Point) → point_cmp a b ≡ Less → point_cmp b a ≡ Greater
turned a b less = grind (arith, nat_tests, less)

all-less : (k p : Point) (ks : List Point) → point_cmp p k ≡ Less → AllByRecursion (λ y. point_cmp k y ≡ Less) ks → AllByRecursion (λ y. point_cmp p y ≡ Less) ks
all-less k p [] before all = tt
all-less k p (y ∷ ks) before all = (let after = all.0 in grind (arith, nat_tests, before, after), all-less k p ks before all.1)

turned_back : (a b : Point) → point_cmp a b ≡ Greater → point_cmp b a ≡ Less
turned_back a b greater = grind (arith, nat_tests, greater)

module _ {X : Type 0} where
  pub place-within : (es : List (Point × X)) (p : Point) → place_in es p ≤ length es
  place-within [] p = omega arith
  place-within (e ∷ es) p = elim (is_gt (point_cmp p e.0)) as (λ b. cond b (suc (place_in es p)) 0 ≤ suc (length es)) [
    | true ↦ let k = place-within es p in omega (arith, k)
    | false ↦ omega arith
  ]

  -- a free point comes in at its place
  pub inserted-at : (es : List (Point × X)) (p : Point) (v : X) → at es p ≡ None → insert es (place_in es p) (p, v) ≡ insert_entry point_cmp es p v
  inserted-at [] p v n = refl
  inserted-at (e ∷ es) p v n =
      (elim (point_cmp p e.0) as (λ o. cond (is_eq o) (Some e.1) (at es p) ≡ None
      → insert (e ∷ es) (cond (is_gt o) (suc (place_in es p)) 0) (p, v) ≡ match_ordering o ((p, v) ∷ e ∷ es) ((e.0, v) ∷ es) (e ∷ insert_entry point_cmp es p v)) [
        | Less ↦ λ m. refl
        | Equal ↦ λ m. absurd (cc m)
        | Greater ↦ λ m. ap (λ l. e ∷ l) (inserted-at es p v m)
      ]) n

  -- a claimed point goes from its place
  pub removed-at : (es : List (Point × X)) (p : Point) → IsStrictlySortedBy point_cmp (keys_of es) → IsSome (at es p) → remove es (place_in es p) ≡ remove_entry (is_at (point_cmp p)) es
  removed-at [] p order s = absurd (cc s)
  removed-at (e ∷ es) p order s =
      (elim (point_cmp p e.0) as (λ o. point_cmp p e.0 ≡ o → IsSome (cond (is_eq o) (Some e.1) (at es p))
      → remove (e ∷ es) (cond (is_gt o) (suc (place_in es p)) 0) ≡ cond (is_eq o) es (e ∷ remove_entry (is_at (point_cmp p)) es)) [
        | Less ↦ λ k m. let none = none-before es e.0 p (sorted_head point_cmp e.0 (keys_of es) order) k in absurd (cc (none, m))
        | Equal ↦ λ k m. refl
        | Greater ↦ λ k m. ap (λ l. e ∷ l) (removed-at es p (sorted_tail point_cmp e.0 (keys_of es) order) m)
      ]) refl s

  pub claimed-within : (es : List (Point × X)) (p : Point) → IsStrictlySortedBy point_cmp (keys_of es) → IsSome (at es p) → place_in es p < length es
  claimed-within [] p order s = absurd (cc s)
  claimed-within (e ∷ es) p order s =
      (elim (point_cmp p e.0) as (λ o. point_cmp p e.0 ≡ o → IsSome (cond (is_eq o) (Some e.1) (at es p)) → cond (is_gt o) (suc (place_in es p)) 0 < suc (length es)) [
        | Less ↦ λ k m. omega arith
        | Equal ↦ λ k m. omega arith
        | Greater ↦ λ k m. let r = claimed-within es p (sorted_tail point_cmp e.0 (keys_of es) order) m in omega (arith, r)
      ]) refl s

  -- a point that comes after all is put behind them
  pub appended : (es : List (Point × X)) (p : Point) (v : X) → AllByRecursion (λ k. point_cmp p k ≡ Greater) (keys_of es) → insert_entry point_cmp es p v ≡ es ++ (p, v) ∷ []
  appended [] p v after = refl
  appended (e ∷ es) p v after = rw after.0 (ap (λ l. e ∷ l) (appended es p v after.1))

  next_after : (k : Point) (es rest : List (Point × X)) (x : Point × X) → AllByRecursion (λ y. point_cmp k y ≡ Less) (keys_of (es ++ x ∷ rest)) → point_cmp x.0 k ≡ Greater
  next_after k [] rest x all = turned k x.0 all.0
  next_after k (e ∷ es) rest x all = next_after k es rest x all.1

  -- in order, each comes after those before it
  pub after-all : (es rest : List (Point × X)) (x : Point × X) → IsStrictlySortedBy point_cmp (keys_of (es ++ x ∷ rest)) → AllByRecursion (λ k. point_cmp x.0 k ≡ Greater) (keys_of es)
  after-all [] rest x order = tt
  after-all (e ∷ es) rest x order = (
    next_after e.0 es rest x (sorted_head point_cmp e.0 (keys_of (es ++ x ∷ rest)) order),
    after-all es rest x (sorted_tail point_cmp e.0 (keys_of (es ++ x ∷ rest)) order),
  )

module _ {X : Type 0} where
  all-inserted : (P : Point → Type 0) (es : List (Point × X)) (p : Point) (v : X) → P p → AllByRecursion P (keys_of es) → AllByRecursion P (keys_of (insert_entry point_cmp es p v))
  all-inserted P [] p v h all = (h, tt)
  all-inserted P (e ∷ es) p v h all = elim (point_cmp p e.0) as (λ o. AllByRecursion P (keys_of (match_ordering o ((p, v) ∷ e ∷ es) ((e.0, v) ∷ es) (e ∷ insert_entry point_cmp es p v)))) [
    | Less ↦ (h, all)
    | Equal ↦ all
    | Greater ↦ (all.0, all-inserted P es p v h all.1)
  ]

  -- claims stay in order
  pub order-inserted : (es : List (Point × X)) (p : Point) (v : X) → IsStrictlySortedBy point_cmp (keys_of es) → IsStrictlySortedBy point_cmp (keys_of (insert_entry point_cmp es p v))
  unfolding IsStrictlySortedBy
  order-inserted [] p v order = (tt, tt)
  order-inserted (e ∷ es) p v order =
      (elim (point_cmp p e.0) as (λ o. point_cmp p e.0 ≡ o → IsStrictlySortedBy point_cmp (keys_of (match_ordering o ((p, v) ∷ e ∷ es) ((e.0, v) ∷ es) (e ∷ insert_entry point_cmp es p v)))) [
        | Less ↦ λ k. ((k, all-less e.0 p (keys_of es) k order.0), order)
        | Equal ↦ λ k. order
        | Greater ↦ λ k. (all-inserted (λ y. point_cmp e.0 y ≡ Less) es p v (turned_back p e.0 k) order.0, order-inserted es p v order.1)
      ]) refl

  all-removed : (P : Point → Type 0) (test : Point → Bool) (es : List (Point × X)) → AllByRecursion P (keys_of es) → AllByRecursion P (keys_of (remove_entry test es))
  all-removed P test [] all = tt
  all-removed P test (e ∷ es) all = elim (test e.0) as (λ b. AllByRecursion P (keys_of (cond b es (e ∷ remove_entry test es)))) [
    | true ↦ all.1
    | false ↦ (all.0, all-removed P test es all.1)
  ]

  pub order-removed : (test : Point → Bool) (es : List (Point × X)) → IsStrictlySortedBy point_cmp (keys_of es) → IsStrictlySortedBy point_cmp (keys_of (remove_entry test es))
  unfolding IsStrictlySortedBy
  order-removed test [] order = order
  order-removed test (e ∷ es) order = elim (test e.0) as (λ b. IsStrictlySortedBy point_cmp (keys_of (cond b es (e ∷ remove_entry test es)))) [
    | true ↦ order.1
    | false ↦ (all-removed (λ y. point_cmp e.0 y ≡ Less) test es order.0, order-removed test es order.1)
  ]

-- what stands at the place of a point is its claim, if it is claimed
pub query-at : (es : List (Point × ℕ)) (p : Point) → IsStrictlySortedBy point_cmp (keys_of es) → query_if p (slice_get es (place_in es p)) ≡ at es p
query-at [] p order = refl
query-at (e ∷ es) p order =
    (elim (point_cmp p e.0) as (λ o. point_cmp p e.0 ≡ o → query_if p (slice_get (e ∷ es) (cond (is_gt o) (suc (place_in es p)) 0)) ≡ cond (is_eq o) (Some e.1) (at es p)) [
      | Less ↦ λ k.
          let none = none-before es e.0 p (sorted_head point_cmp e.0 (keys_of es) order) k in
          let other : same_point e.0 p ≡ false = grind (arith, nat_tests, k) in
          rw other (sym none)
      | Equal ↦ λ k. let same : same_point e.0 p ≡ true = grind (arith, nat_tests, k) in rw same refl
      | Greater ↦ λ k. query-at es p (sorted_tail point_cmp e.0 (keys_of es) order)
    ]) refl

-- what is read at the place of a point tells its query
pub query-found : (es : List (Point × ℕ)) (p : Point) (n : ℕ) (e : Point × ℕ) → IsStrictlySortedBy point_cmp (keys_of es) → n ≡ place_in es p → n < length es → e ≡ get_or es n e
    → at es p ≡ (if same_point e.0 p then Some e.1 else None)
query-found es p n e order place within read =
    sym (query-at es p order) ∙ ap (λ k. query_if p (slice_get es k)) (sym place) ∙ ap (query_if p) (slice_get-get_or es n e within ∙ ap Some (sym read))

pub query-none : (es : List (Point × ℕ)) (p : Point) (n : ℕ) → IsStrictlySortedBy point_cmp (keys_of es) → n ≡ place_in es p → length es ≤ n → at es p ≡ None
query-none es p n order place past = sym (query-at es p order) ∙ ap (λ k. query_if p (slice_get es k)) (sym place) ∙ ap (query_if p) (slice_get_past es n past)

-- claims that are put into a map one after another
pub mapped-on : (es : List (Point × ℕ)) (n : ℕ) (d : Point × ℕ) (old new : List (Point × ℕ)) → IsStrictlySortedBy point_cmp (keys_of es) → n < length es → old ≡ take n es → new ≡ insert_entry point_cmp old (get_or es n d).0 (get_or es n d).1
    → new ≡ take (n + 1) es
mapped-on es n d old new order within before is =
    let e = get_or es n d in
    let count : n + 1 ≡ suc n = omega arith in
    is ∙ ap (λ l. insert_entry point_cmp l e.0 e.1) before
    ∙ appended (take n es) e.0 e.1 (after-all (take n es) (drop (suc n) es) e (subst (λ l. IsStrictlySortedBy point_cmp (keys_of l)) (split_at es n d within) order))
    ∙ sym (ap (λ k. take k es) count ∙ take-suc es n d within)

-- the first of claims in order is no later than any
pub first-least : (es : List (Point × ℕ)) (e : Point × ℕ) → IsStrictlySortedBy point_cmp (keys_of es) → slice_get es 0 ≡ Some e → All (λ q. is_gt (point_cmp e.0 q) ≡ false) (keys_of es)
first-least [] e order first = absurd (cc first)
first-least (x ∷ es) e order first =
    let same : x ≡ e = cc first in
    subst (λ (y : Point × ℕ). All (λ q. is_gt (point_cmp y.0 q) ≡ false) (keys_of (x ∷ es))) same
    (All-cons (λ q. is_gt (point_cmp x.0 q) ≡ false) x.0 (keys_of es) (itself x.0) (later x.0 (keys_of es) (sorted_head point_cmp x.0 (keys_of es) order)))
  where
    itself : (p : Point) → is_gt (point_cmp p p) ≡ false
    itself p = grind (arith, nat_tests)

    later : (p : Point) (ks : List Point) → AllByRecursion (λ y. point_cmp p y ≡ Less) ks → All (λ q. is_gt (point_cmp p q) ≡ false) ks
    later p [] all = All-nil (λ q. is_gt (point_cmp p q) ≡ false)
    later p (k ∷ ks) all = All-cons (λ q. is_gt (point_cmp p q) ≡ false) k ks (ap is_gt all.0) (later p ks all.1)
