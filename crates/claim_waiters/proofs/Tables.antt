-- What a table shows of each point, after each change.
use Rattle.std.proofs.Common.{◌≡◌, ℕ, suc, ◌+◌, Bool, true, false, cond, List, [], ◌∷◌, ◌++◌, length, refl, ap, sym, ◌∙◌, subst, Option, Some, None, option_map, IsSome, inl, inr, true≢false, arith}
use Rattle.std.specs.declared.cmp.Ordering.TheVariants.{Less, Equal, Greater}
use Rattle.std.specs.Ordering.{is_eq, match_ordering}
use Rattle.std.specs.Cmp.{IsTotalOrder}
use Rattle.std.specs.List.{AllByRecursion}
use Rattle.std.specs.List.Sorted.{IsStrictlySortedBy}
use Rattle.std.specs.BTreeMap.{insert_entry, is_at}
use Rattle.std.specs.Map.{keys_of, lookup, remove_entry}
use Rattle.std.proofs.lemmas.Bool.{cases_Bool}
use Rattle.std.proofs.lemmas.Bool.Decides.{nat_tests}
use Rattle.std.proofs.lemmas.Cmp.{then_total, on_total, nat_cmp_total, eq_by_cmp_equiv}
use Rattle.std.proofs.lemmas.Map.{lookup-remove_entry}
use Rattle.std.proofs.lemmas.Map.Keys.{IsDistinct-from_sorted, sorted_head, sorted_tail}
use Rattle.valid_intervals.specs.declared.Point.{Point}
use Rattle.valid_intervals.specs.Cells.{same_point, point_cmp}
use Rattle.valid_intervals.proofs.Callers.{same_point-true, same_point-itself}
use Rattle.claim_waiters.specs.Claims.{WaitedClaim, Claims, IsInOrder, claim_at, holder_in, waiting_in, waiters_at, with_claim, without_claim, add_waiter, with_waiter}
use Rattle.claim_waiters.specs.inner.View.{at}

pub point_total : IsTotalOrder point_cmp
point_total = then_total (on_total (λ (p : Point). p.signal) nat_cmp_total) (on_total (λ (p : Point). p.time) nat_cmp_total)

-- a point passes its own test alone
pub at-same : (p x : Point) → is_at (point_cmp p) x ≡ same_point p x
at-same p x = grind (arith, nat_tests)

pub at-back : (p x : Point) → is_at (point_cmp x) p ≡ same_point p x
at-back p x = grind (arith, nat_tests)

pub at-is : (p x : Point) → is_at (point_cmp p) x ≡ true → x ≡ p
at-is p x h = sym (same_point-true p x (sym (at-same p x) ∙ h))

-- what comes later is no point of both
later-apart : (p x y : Point) → point_cmp p y ≡ Greater → is_at (point_cmp x) y ≡ true → same_point p x ≡ true → ⊥
later-apart p x y g h k =
    let xy : y ≡ x = at-is x y h in
    let px : p ≡ x = same_point-true p x k in
    let e : point_cmp x x ≡ Greater = subst (λ z. point_cmp x z ≡ Greater) xy (subst (λ z. point_cmp z y ≡ Greater) px g) in
    grind (arith, nat_tests, e)

module _ {X : Type 0} where
  pub at-inserted : (es : List (Point × X)) (p : Point) (v : X) (x : Point) → at es p ≡ None → at (insert_entry point_cmp es p v) x ≡ cond (same_point p x) (Some v) (at es x)
  at-inserted [] p v x n = ap (λ b. cond b (Some v) None) (at-back p x)
  at-inserted (e ∷ es) p v x n =
      (elim (point_cmp p e.0) as (λ o. point_cmp p e.0 ≡ o → cond (is_eq o) (Some e.1) (at es p) ≡ None
      → at (match_ordering o ((p, v) ∷ e ∷ es) ((e.0, v) ∷ es) (e ∷ insert_entry point_cmp es p v)) x ≡ cond (same_point p x) (Some v) (at (e ∷ es) x)) [
        | Less ↦ λ k m. ap (λ b. cond b (Some v) (at (e ∷ es) x)) (at-back p x)
        | Equal ↦ λ k m. absurd (cc m)
        | Greater ↦ λ k m. ap (cond (is_at (point_cmp x) e.0) (Some e.1)) (at-inserted es p v x m) ∙ later k
      ]) refl n
    where
      later : point_cmp p e.0 ≡ Greater → cond (is_at (point_cmp x) e.0) (Some e.1) (cond (same_point p x) (Some v) (at es x)) ≡ cond (same_point p x) (Some v) (cond (is_at (point_cmp x) e.0) (Some e.1) (at es x))
      later g = elim (cases_Bool (is_at (point_cmp x) e.0)) [
        | inl h ↦ elim (cases_Bool (same_point p x)) [
          | inl k ↦ absurd (later-apart p x e.0 g h k)
          | inr k ↦ rw (h, k) refl
        ]
        | inr h ↦ rw h refl
      ]

  pub at-removed : (es : List (Point × X)) (p x : Point) → IsStrictlySortedBy point_cmp (keys_of es) → at (remove_entry (is_at (point_cmp p)) es) x ≡ cond (same_point p x) None (at es x)
  at-removed es p x order =
      lookup-remove_entry (eq_by_cmp_equiv point_total) (is_at (point_cmp p)) (λ a b h. (eq_by_cmp_equiv point_total).congr p a b h) x es (IsDistinct-from_sorted point_cmp (keys_of es) order)
      ∙ ap (λ b. cond b None (at es x)) (at-same p x)

  pub length-inserted : (es : List (Point × X)) (p : Point) (v : X) → at es p ≡ None → length (insert_entry point_cmp es p v) ≡ length es + 1
  length-inserted [] p v n = refl
  length-inserted (e ∷ es) p v n =
      (elim (point_cmp p e.0) as (λ o. cond (is_eq o) (Some e.1) (at es p) ≡ None
      → length (match_ordering o ((p, v) ∷ e ∷ es) ((e.0, v) ∷ es) (e ∷ insert_entry point_cmp es p v)) ≡ suc (length es) + 1) [
        | Less ↦ λ m. omega arith
        | Equal ↦ λ m. absurd (cc m)
        | Greater ↦ λ m. let k = length-inserted es p v m in omega (arith, k)
      ]) n

  pub length-removed : (test : Point → Bool) (es : List (Point × X)) → IsSome (lookup test es) → length (remove_entry test es) + 1 ≡ length es
  length-removed test [] s = absurd (true≢false (sym s))
  length-removed test (e ∷ es) s =
      (elim (test e.0) as (λ b. IsSome (cond b (Some e.1) (lookup test es)) → length (cond b es (e ∷ remove_entry test es)) + 1 ≡ suc (length es)) [
        | true ↦ λ m. omega arith
        | false ↦ λ m. let k = length-removed test es m in omega (arith, k)
      ]) s

  -- what comes and goes again leaves no trace
  pub removed-inserted : (es : List (Point × X)) (p : Point) (v : X) → at es p ≡ None → remove_entry (is_at (point_cmp p)) (insert_entry point_cmp es p v) ≡ es
  removed-inserted [] p v n = rw (at-same p p ∙ same_point-itself p) refl
  removed-inserted (e ∷ es) p v n =
      (elim (point_cmp p e.0) as (λ o. point_cmp p e.0 ≡ o → cond (is_eq o) (Some e.1) (at es p) ≡ None
      → remove_entry (is_at (point_cmp p)) (match_ordering o ((p, v) ∷ e ∷ es) ((e.0, v) ∷ es) (e ∷ insert_entry point_cmp es p v)) ≡ e ∷ es) [
        | Less ↦ λ k m. rw (at-same p p ∙ same_point-itself p) refl
        | Equal ↦ λ k m. absurd (cc m)
        | Greater ↦ λ k m. let f : is_at (point_cmp p) e.0 ≡ false = ap is_eq k in rw f (ap (λ l. e ∷ l) (removed-inserted es p v m))
      ]) refl n

  -- no key that comes after k is p, where p comes before k
  pub none-before : (es : List (Point × X)) (k p : Point) → AllByRecursion (λ y. point_cmp k y ≡ Less) (keys_of es) → point_cmp p k ≡ Less → at es p ≡ None
  none-before [] k p all before = refl
  none-before (e ∷ es) k p all before =
      let after : point_cmp k e.0 ≡ Less = all.0 in
      let other : is_at (point_cmp p) e.0 ≡ false = grind (arith, nat_tests, after, before) in
      rw other (none-before es k p all.1 before)

  -- a value that is put back leaves no trace of another
  pub put-back : (es : List (Point × X)) (p : Point) (u v : X) → IsStrictlySortedBy point_cmp (keys_of es) → at es p ≡ Some v → insert_entry point_cmp (insert_entry point_cmp es p u) p v ≡ es
  put-back [] p u v order h = absurd (cc h)
  put-back (e ∷ es) p u v order h =
      (elim (point_cmp p e.0) as (λ o. point_cmp p e.0 ≡ o → cond (is_eq o) (Some e.1) (at es p) ≡ Some v
      → insert_entry point_cmp (match_ordering o ((p, u) ∷ e ∷ es) ((e.0, u) ∷ es) (e ∷ insert_entry point_cmp es p u)) p v ≡ e ∷ es) [
        | Less ↦ λ k m. let none = none-before es e.0 p (sorted_head point_cmp e.0 (keys_of es) order) k in absurd (cc (none, m))
        | Equal ↦ λ k m. let same : e.1 ≡ v = cc m in rw k (ap (λ x. (e.0, x) ∷ es) (sym same))
        | Greater ↦ λ k m. rw k (ap (λ l. e ∷ l) (put-back es p u v (sorted_tail point_cmp e.0 (keys_of es) order) m))
      ]) refl h

  -- what holds of all entries
  pub each-inserted : (P : Point × X → Type 0) (es : List (Point × X)) (p : Point) (v : X) → P (p, v) → at es p ≡ None → AllByRecursion P es → AllByRecursion P (insert_entry point_cmp es p v)
  each-inserted P [] p v h n all = (h, tt)
  each-inserted P (e ∷ es) p v h n all =
      (elim (point_cmp p e.0) as (λ o. cond (is_eq o) (Some e.1) (at es p) ≡ None → AllByRecursion P (match_ordering o ((p, v) ∷ e ∷ es) ((e.0, v) ∷ es) (e ∷ insert_entry point_cmp es p v))) [
        | Less ↦ λ m. (h, all)
        | Equal ↦ λ m. absurd (cc m)
        | Greater ↦ λ m. (all.0, each-inserted P es p v h m all.1)
      ]) n

  pub each-removed : (P : Point × X → Type 0) (test : Point → Bool) (es : List (Point × X)) → AllByRecursion P es → AllByRecursion P (remove_entry test es)
  each-removed P test [] all = tt
  each-removed P test (e ∷ es) all = elim (test e.0) as (λ b. AllByRecursion P (cond b es (e ∷ remove_entry test es))) [
    | true ↦ all.1
    | false ↦ (all.0, each-removed P test es all.1)
  ]

  pub each-at : (P : Point × X → Type 0) (es : List (Point × X)) (p : Point) (v : X) → AllByRecursion P es → at es p ≡ Some v → P (p, v)
  each-at P [] p v all h = absurd (cc h)
  each-at P (e ∷ es) p v all h =
      (elim (is_at (point_cmp p) e.0) as (λ b. is_at (point_cmp p) e.0 ≡ b → cond b (Some e.1) (at es p) ≡ Some v → P (p, v)) [
        | true ↦ λ k m. let same : e.1 ≡ v = cc m in subst (λ x. P (x, v)) (at-is p e.0 k) (subst (λ y. P (e.0, y)) same all.0)
        | false ↦ λ k m. each-at P es p v all.1 m
      ]) refl h

module _ {W : Type 0} where
  abbrev with_one : W → WaitedClaim W → WaitedClaim W
  with_one w c = record { q = c.q; waiters = c.waiters ++ w ∷ [] }

  pub at-waited : (claims : Claims W) (p : Point) (w : W) (x : Point) → claim_at (with_waiter claims p w) x ≡ cond (same_point p x) (option_map (with_one w) (claim_at claims x)) (claim_at claims x)
  at-waited [] p w x = none (same_point p x)
    where
      none : (b : Bool) → claim_at {W = W} [] x ≡ cond b (option_map (with_one w) (claim_at [] x)) (claim_at [] x)
      none true = refl
      none false = refl
  at-waited (e ∷ es) p w x =
      (elim (is_at (point_cmp p) e.0) as (λ b. is_at (point_cmp p) e.0 ≡ b → claim_at (cond b ((e.0, with_one w e.1) ∷ es) (e ∷ add_waiter (is_at (point_cmp p)) es w)) x
      ≡ cond (same_point p x) (option_map (with_one w) (claim_at (e ∷ es) x)) (claim_at (e ∷ es) x)) [
        | true ↦ λ k. here (at-is p e.0 k)
        | false ↦ λ k. ap (cond (is_at (point_cmp x) e.0) (Some e.1)) (at-waited es p w x) ∙ other k
      ]) refl
    where
      here : e.0 ≡ p → cond (is_at (point_cmp x) e.0) (Some (with_one w e.1)) (claim_at es x) ≡ cond (same_point p x) (option_map (with_one w) (claim_at (e ∷ es) x)) (claim_at (e ∷ es) x)
      here same =
          let b : is_at (point_cmp x) e.0 ≡ same_point p x = at-back e.0 x ∙ ap (λ z. same_point z x) same in
          elim (cases_Bool (same_point p x)) [
            | inl h ↦ rw (b, h) refl
            | inr h ↦ rw (b, h) refl
          ]

      other : is_at (point_cmp p) e.0 ≡ false
          → cond (is_at (point_cmp x) e.0) (Some e.1) (cond (same_point p x) (option_map (with_one w) (claim_at es x)) (claim_at es x)) ≡ cond (same_point p x) (option_map (with_one w) (claim_at (e ∷ es) x)) (claim_at (e ∷ es) x)
      other f = elim (cases_Bool (is_at (point_cmp x) e.0)) [
        | inl h ↦
            let away : same_point p x ≡ false = subst (λ z. same_point p z ≡ false) (at-is x e.0 h) (sym (at-same p e.0) ∙ f) in
            rw (h, away) refl
        | inr h ↦ rw h refl
      ]

  pub length-waited : (test : Point → Bool) (claims : Claims W) (w : W) → length (add_waiter test claims w) ≡ length claims
  length-waited test [] w = refl
  length-waited test (e ∷ es) w = elim (test e.0) as (λ b. length (cond b ((e.0, with_one w e.1) ∷ es) (e ∷ add_waiter test es w)) ≡ suc (length es)) [
    | true ↦ refl
    | false ↦ ap suc (length-waited test es w)
  ]

  pub each-waited : (P : Point × WaitedClaim W → Type 0) (claims : Claims W) (p : Point) (w : W) → ((c : WaitedClaim W) → P (p, c) → P (p, with_one w c)) → AllByRecursion P claims → AllByRecursion P (with_waiter claims p w)
  each-waited P [] p w f all = tt
  each-waited P (e ∷ es) p w f all =
      (elim (is_at (point_cmp p) e.0) as (λ b. is_at (point_cmp p) e.0 ≡ b → AllByRecursion P (cond b ((e.0, with_one w e.1) ∷ es) (e ∷ add_waiter (is_at (point_cmp p)) es w))) [
        | true ↦ λ k. (subst (λ x. P (x, with_one w e.1)) (sym (at-is p e.0 k)) (f e.1 (subst (λ x. P (x, e.1)) (at-is p e.0 k) all.0)), all.1)
        | false ↦ λ k. (all.0, each-waited P es p w f all.1)
      ]) refl

  -- the holder of each point
  abbrev query : WaitedClaim W → ℕ
  query c = c.q

  pub holder-claimed : (claims : Claims W) (q : ℕ) (p x : Point) → claim_at claims p ≡ None → holder_in (with_claim claims q p) x ≡ cond (same_point p x) (Some q) (holder_in claims x)
  holder-claimed claims q p x n = ap (option_map query) (at-inserted claims p (record { q = q; waiters = [] }) x n)
      ∙ (elim (same_point p x) as (λ b. option_map query (cond b (Some (record { q = q; waiters = [] })) (claim_at claims x)) ≡ cond b (Some q) (holder_in claims x)) [ true ↦ refl | false ↦ refl ])

  pub holder-without : (claims : Claims W) (p x : Point) → IsInOrder claims → holder_in (without_claim claims p) x ≡ cond (same_point p x) None (holder_in claims x)
  holder-without claims p x order = ap (option_map query) (at-removed claims p x order)
      ∙ (elim (same_point p x) as (λ b. option_map query (cond b None (claim_at claims x)) ≡ cond b None (holder_in claims x)) [ true ↦ refl | false ↦ refl ])

  pub holder-waited : (claims : Claims W) (p : Point) (w : W) (x : Point) → holder_in (with_waiter claims p w) x ≡ holder_in claims x
  holder-waited claims p w x = ap (option_map query) (at-waited claims p w x)
      ∙ (elim (same_point p x) as (λ b. option_map query (cond b (option_map (with_one w) (claim_at claims x)) (claim_at claims x)) ≡ holder_in claims x) [ true ↦ same (claim_at claims x) | false ↦ refl ])
    where
      same : (o : Option (WaitedClaim W)) → option_map query (option_map (with_one w) o) ≡ option_map query o
      same None = refl
      same (Some c) = refl

  -- those that wait at each point
  pub waiters-claimed : (claims : Claims W) (q : ℕ) (p x : Point) → claim_at claims p ≡ None → waiters_at (with_claim claims q p) x ≡ waiters_at claims x
  waiters-claimed claims q p x n = elim (cases_Bool (same_point p x)) [
    | inl h ↦
        let none : claim_at claims x ≡ None = subst (λ z. claim_at claims z ≡ None) (same_point-true p x h) n in
        ap waiting_in (at-inserted claims p (record { q = q; waiters = [] }) x n) ∙ rw (h, none) refl
    | inr h ↦ ap waiting_in (at-inserted claims p (record { q = q; waiters = [] }) x n) ∙ rw h refl
  ]

  pub waiters-without : (claims : Claims W) (p x : Point) → IsInOrder claims → waiters_at (without_claim claims p) x ≡ cond (same_point p x) [] (waiters_at claims x)
  waiters-without claims p x order = ap waiting_in (at-removed claims p x order)
      ∙ (elim (same_point p x) as (λ b. waiting_in (cond b None (claim_at claims x)) ≡ cond b [] (waiters_at claims x)) [ true ↦ refl | false ↦ refl ])

  pub waiters-waited : (claims : Claims W) (p : Point) (w : W) (x : Point) → IsSome (claim_at claims p) → waiters_at (with_waiter claims p w) x ≡ cond (same_point p x) (waiters_at claims p ++ w ∷ []) (waiters_at claims x)
  waiters-waited claims p w x some = ap waiting_in (at-waited claims p w x) ∙ (elim (cases_Bool (same_point p x)) [
    | inl h ↦ rw (h, sym (same_point-true p x h)) (more (claim_at claims p) some)
    | inr h ↦ rw h refl
  ])
    where
      more : (o : Option (WaitedClaim W)) → IsSome o → waiting_in (option_map (with_one w) o) ≡ waiting_in o ++ w ∷ []
      more None s = absurd (true≢false (sym s))
      more (Some c) s = refl
