-- What the table's two maps show.
use Rattle.std.proofs.Common.{◌≡◌, ℕ, true, false, cond, List, [], ◌∷◌, ◌++◌, refl, ap, sym, ◌∙◌, subst, Bool, Result, Ok, Err, IsTrue, IfOk, OnOk, OnErr, ◌↔◌, Option, Some, None, option_map, unwrap_or, IsSome, All, inl, inr, true≢false, arith}
use Rattle.std.specs.declared.cmp.Ordering.TheVariants.{Less, Equal, Greater}
use Rattle.std.specs.Bool.{OnTrue, OnFalse}
use Rattle.std.specs.Ordering.{is_eq, is_gt, match_ordering}
use Rattle.std.specs.BTreeMap.{insert_entry, is_at}
use Rattle.std.specs.Map.{keys_of, remove_entry}
use Rattle.std.specs.List.{slice_get, AllByRecursion}
use Rattle.std.specs.List.Sorted.{IsStrictlySortedBy}
use Rattle.std.proofs.lemmas.Bool.{cases_Bool}
use Rattle.std.proofs.lemmas.Bool.Decides.{nat_tests}
use Rattle.std.proofs.lemmas.List.Elements.{All-nil, All-cons, All-head, All-tail}
use Rattle.std.proofs.lemmas.Map.Keys.{sorted_head, sorted_tail}
use Rattle.valid_intervals.specs.declared.Point.{Point}
use Rattle.valid_intervals.specs.Cells.{point_cmp}
use Rattle.claim_waiters.specs.Claims.{WaitedClaim, Claims, IsAtMost, claim_at, holder_in, waiters_of, first_of, with_claim, without_claim, with_waiter}
use Rattle.claim_waiters.specs.inner.View.{at, claims_with, those_in, IsClaimTable}
use Rattle.valid_intervals.proofs.Callers.{same_point-itself}
use Rattle.claim_waiters.proofs.Tables.{at-is, at-same, at-inserted, put-back}

-- no point of a list is p
abbrev NoneIs : Point → List Point → Type 0
NoneIs p ks = AllByRecursion (λ y. is_at (point_cmp p) y ≡ false) ks

-- the points after p are others
later_others : (p : Point) (ks : List Point) → AllByRecursion (λ y. point_cmp p y ≡ Less) ks → NoneIs p ks
later_others p [] all = tt
later_others p (k ∷ ks) all = (ap is_eq all.0, later_others p ks all.1)

rest_others : (p k : Point) (ks : List Point) → is_at (point_cmp p) k ≡ true → IsStrictlySortedBy point_cmp (k ∷ ks) → NoneIs p ks
rest_others p k ks h order = subst (λ z. NoneIs z ks) (at-is p k h) (later_others k ks (sorted_head point_cmp k ks order))

pub point_le-numbers : (a b : Point) → is_gt (point_cmp a b) ≡ false → IsAtMost a b
point_le-numbers a b h = grind (arith, nat_tests)

module _ {W : Type 0} where
  pub lookup-claims : (f : Point → List W) (p : Point) (es : List (Point × ℕ)) → claim_at (claims_with f es) p ≡ option_map (λ q. record { q = q; waiters = f p }) (at es p)
  lookup-claims f p [] = refl
  lookup-claims f p (e ∷ es) = elim (cases_Bool (is_at (point_cmp p) e.0)) [
    | inl h ↦ rw h (ap (λ (x : Point). Some (record { q = e.1; waiters = f x })) (at-is p e.0 h))
    | inr h ↦ rw h (lookup-claims f p es)
  ]

  pub holder-claims : (f : Point → List W) (p : Point) (es : List (Point × ℕ)) → at es p ≡ holder_in (claims_with f es) p
  holder-claims f p es = same (at es p) ∙ sym (ap (option_map (λ (c : WaitedClaim W). c.q)) (lookup-claims f p es))
    where
      same : (o : Option ℕ) → o ≡ option_map (λ (c : WaitedClaim W). c.q) (option_map (λ q. record { q = q; waiters = f p }) o)
      same None = refl
      same (Some q) = refl

  pub waiters-claims : (f : Point → List W) (p : Point) (es : List (Point × ℕ)) → IsSome (claim_at (claims_with f es) p) → waiters_of (claims_with f es) p ≡ Some (f p)
  waiters-claims f p es some = ap (option_map (λ (c : WaitedClaim W). c.waiters)) (lookup-claims f p es) ∙ those (at es p) (subst IsSome (lookup-claims f p es) some)
    where
      those : (o : Option ℕ) → IsSome {T = WaitedClaim W} (option_map (λ q. record { q = q; waiters = f p }) o) → option_map (λ (c : WaitedClaim W). c.waiters) (option_map (λ q. record { q = q; waiters = f p }) o) ≡ Some (f p)
      those None h = absurd (true≢false (sym h))
      those (Some q) h = refl

  pub claimed-claims : (f : Point → List W) (p : Point) (es : List (Point × ℕ)) → IsSome (claim_at (claims_with f es) p) → IsSome (at es p)
  claimed-claims f p es some = by (at es p) (subst IsSome (lookup-claims f p es) some)
    where
      by : (o : Option ℕ) → IsSome {T = WaitedClaim W} (option_map (λ q. record { q = q; waiters = f p }) o) → IsSome o
      by None h = h
      by (Some q) h = refl

  pub unclaimed : (f : Point → List W) (p : Point) (es : List (Point × ℕ)) → claim_at (claims_with f es) p ≡ None → at es p ≡ None
  unclaimed f p es none = holder-claims f p es ∙ ap (option_map (λ (c : WaitedClaim W). c.q)) none

  pub free-claims : (f : Point → List W) (p : Point) (es : List (Point × ℕ)) → at es p ≡ None → claim_at (claims_with f es) p ≡ None
  free-claims f p es none = lookup-claims f p es ∙ ap (option_map (λ q. record { q = q; waiters = f p })) none

  -- no point is both claimed and free
  pub taken-claims : (f : Point → List W) (p : Point) (q : ℕ) (es : List (Point × ℕ)) → at es p ≡ Some q → claim_at (claims_with f es) p ≡ None → ⊥
  taken-claims f p q es some none = let free = unclaimed f p es none in cc (some, free)

  pub insert-claims : (f : Point → List W) (es : List (Point × ℕ)) (p : Point) (q : ℕ) → at es p ≡ None → f p ≡ [] → claims_with f (insert_entry point_cmp es p q) ≡ with_claim (claims_with f es) q p
  insert-claims f [] p q n none = ap (λ (l : List W). (p, record { q = q; waiters = l }) ∷ []) none
  insert-claims f (e ∷ es) p q n none =
      (elim (point_cmp p e.0) as (λ o. cond (is_eq o) (Some e.1) (at es p) ≡ None
      → claims_with f (match_ordering o ((p, q) ∷ e ∷ es) ((e.0, q) ∷ es) (e ∷ insert_entry point_cmp es p q))
      ≡ match_ordering o ((p, record { q = q; waiters = [] }) ∷ claims_with f (e ∷ es)) ((e.0, record { q = q; waiters = [] }) ∷ claims_with f es) ((e.0, record { q = e.1; waiters = f e.0 }) ∷ with_claim (claims_with f es) q p)) [
        | Less ↦ λ m. ap (λ (l : List W). (p, record { q = q; waiters = l }) ∷ claims_with f (e ∷ es)) none
        | Equal ↦ λ m. absurd (cc m)
        | Greater ↦ λ m. ap (λ (r : Claims W). (e.0, record { q = e.1; waiters = f e.0 }) ∷ r) (insert-claims f es p q m none)
      ]) n

  cons : (e : Point × ℕ) (l m : List W) (r s : Claims W) → l ≡ m → r ≡ s → (e.0, record { q = e.1; waiters = l }) ∷ r ≡ (e.0, record { q = e.1; waiters = m }) ∷ s
  cons e l m r s h k = ap (λ (z : List W). (e.0, record { q = e.1; waiters = z }) ∷ r) h ∙ ap (λ (z : Claims W). (e.0, record { q = e.1; waiters = m }) ∷ z) k

  pub same-claims : (f g : Point → List W) (es : List (Point × ℕ)) → ((x : Point) → g x ≡ f x) → claims_with g es ≡ claims_with f es
  same-claims f g [] same = refl
  same-claims f g (e ∷ es) same = cons e (g e.0) (f e.0) (claims_with g es) (claims_with f es) (same e.0) (same-claims f g es same)

  -- where p is not claimed, those that wait there do not count
  others-claims : (f g : Point → List W) (p : Point) (es : List (Point × ℕ)) → ((x : Point) → is_at (point_cmp p) x ≡ false → g x ≡ f x) → NoneIs p (keys_of es) → claims_with g es ≡ claims_with f es
  others-claims f g p [] same all = refl
  others-claims f g p (e ∷ es) same all = cons e (g e.0) (f e.0) (claims_with g es) (claims_with f es) (same e.0 all.0) (others-claims f g p es same all.1)

  pub remove-claims : (f g : Point → List W) (p : Point) (es : List (Point × ℕ)) → IsStrictlySortedBy point_cmp (keys_of es) → ((x : Point) → is_at (point_cmp p) x ≡ false → g x ≡ f x)
      → claims_with g (remove_entry (is_at (point_cmp p)) es) ≡ without_claim (claims_with f es) p
  remove-claims f g p [] order same = refl
  remove-claims f g p (e ∷ es) order same = elim (cases_Bool (is_at (point_cmp p) e.0)) [
    | inl h ↦ rw h (others-claims f g p es same (rest_others p e.0 (keys_of es) h order))
    | inr h ↦ rw h (cons e (g e.0) (f e.0) (claims_with g (remove_entry (is_at (point_cmp p)) es)) (without_claim (claims_with f es) p) (same e.0 h) (remove-claims f g p es (sorted_tail point_cmp e.0 (keys_of es) order) same))
  ]

  pub wait-claims : (f g : Point → List W) (p : Point) (w : W) (es : List (Point × ℕ)) → IsStrictlySortedBy point_cmp (keys_of es) → ((x : Point) → g x ≡ cond (is_at (point_cmp p) x) (f x ++ w ∷ []) (f x))
      → claims_with g es ≡ with_waiter (claims_with f es) p w
  wait-claims f g p w [] order more = refl
  wait-claims f g p w (e ∷ es) order more = elim (cases_Bool (is_at (point_cmp p) e.0)) [
    | inl h ↦ rw h (cons e (g e.0) (f e.0 ++ w ∷ []) (claims_with g es) (claims_with f es) (there h) (others-claims f g p es apart (rest_others p e.0 (keys_of es) h order)))
    | inr h ↦ rw h (cons e (g e.0) (f e.0) (claims_with g es) (with_waiter (claims_with f es) p w) (apart e.0 h) (wait-claims f g p w es (sorted_tail point_cmp e.0 (keys_of es) order) more))
  ]
    where
      there : is_at (point_cmp p) e.0 ≡ true → g e.0 ≡ f e.0 ++ w ∷ []
      there h = more e.0 ∙ ap (λ b. cond b (f e.0 ++ w ∷ []) (f e.0)) h

      apart : (x : Point) → is_at (point_cmp p) x ≡ false → g x ≡ f x
      apart x h = more x ∙ ap (λ b. cond b (f x ++ w ∷ []) (f x)) h

  pub first_of-claims : (f : Point → List W) (es : List (Point × ℕ)) → first_of (claims_with f es) ≡ option_map (λ (e : Point × ℕ). (e.1, e.0)) (slice_get es 0)
  first_of-claims f [] = refl
  first_of-claims f (e ∷ es) = refl

  -- a point before all keys is before all claimed points
  pub least-claims : (f : Point → List W) (p : Point) (es : List (Point × ℕ)) → All (λ q. is_gt (point_cmp p q) ≡ false) (keys_of es) → All (λ (c : Point × WaitedClaim W). IsAtMost p c.0) (claims_with f es)
  least-claims f p [] all = All-nil (λ (c : Point × WaitedClaim W). IsAtMost p c.0)
  least-claims f p (e ∷ es) all =
      All-cons (λ (c : Point × WaitedClaim W). IsAtMost p c.0) (e.0, record { q = e.1; waiters = f e.0 }) (claims_with f es)
      (point_le-numbers p e.0 (All-head (λ q. is_gt (point_cmp p q) ≡ false) e.0 (keys_of es) all))
      (least-claims f p es (All-tail (λ q. is_gt (point_cmp p q) ≡ false) e.0 (keys_of es) all))

  -- the claimed points are the keys
  pub keys_of-claims : (f : Point → List W) (es : List (Point × ℕ)) → keys_of (claims_with f es) ≡ keys_of es
  keys_of-claims f [] = refl
  keys_of-claims f (e ∷ es) = ap (λ (l : List Point). e.0 ∷ l) (keys_of-claims f es)

-- es is old, with v at p
abbrev pub IsSetAt : {X : Type 0} → List (Point × X) → List (Point × X) → Point → Option X → Type 0
IsSetAt old es p v = (x : Point) → at es x ≡ cond (is_at (point_cmp p) x) v (at old x)

-- the old value is put back, which takes no memory
pub put-again : {X A E : Type 0} (r : Result A E) (old made new : List (Point × X)) (p : Point) (u v : X) → IsStrictlySortedBy point_cmp (keys_of old) → at old p ≡ Some v
    → made ≡ insert_entry point_cmp old p u → IsSetAt old made p (Some u) → OnOk r (new ≡ insert_entry point_cmp made p v) → OnErr r (at made p ≡ None) → new ≡ old
put-again (Ok x) old made new p u v order there is set ok err = ok ∙ ap (λ es. insert_entry point_cmp es p v) is ∙ put-back old p u v order there
put-again (Err e) old made new p u v order there is set ok err =
    let some : at made p ≡ Some u = set p ∙ rw (at-same p p ∙ same_point-itself p) refl in
    absurd (cc (some, err))

module _ {W R : Type 0} (items : R → List W) where
  -- a room that is lent, or made without waiters
  pub those-lent : (o : Option R) (none room : R) → items none ≡ [] → room ≡ unwrap_or o none → items room ≡ those_in items o
  those-lent None none room empty lent = ap items lent ∙ empty
  those-lent (Some r) none room empty lent = ap items lent

  -- those that wait at each point, when one room has changed
  pub those-waited : (old new made : List (Point × R)) (p : Point) (room : R) (w : W) → new ≡ made → IsSetAt old made p (Some room) → items room ≡ those_in items (at old p) ++ w ∷ []
      → (x : Point) → those_in items (at new x) ≡ cond (is_at (point_cmp p) x) (those_in items (at old x) ++ w ∷ []) (those_in items (at old x))
  those-waited old new made p room w is set more x = ap (λ (m : List (Point × R)). those_in items (at m x)) is ∙ ap (those_in items) (set x) ∙ (elim (cases_Bool (is_at (point_cmp p) x)) [
    | inl h ↦ rw h (more ∙ ap (λ (z : Point). those_in items (at old z) ++ w ∷ []) (sym (at-is p x h)))
    | inr h ↦ rw h refl
  ])

  pub those-same : (old new made : List (Point × R)) (p : Point) (room : R) → new ≡ made → IsSetAt old made p (Some room) → items room ≡ those_in items (at old p)
      → (x : Point) → those_in items (at new x) ≡ those_in items (at old x)
  those-same old new made p room is set same x = ap (λ (m : List (Point × R)). those_in items (at m x)) is ∙ ap (those_in items) (set x) ∙ (elim (cases_Bool (is_at (point_cmp p) x)) [
    | inl h ↦ rw h (same ∙ ap (λ (z : Point). those_in items (at old z)) (sym (at-is p x h)))
    | inr h ↦ rw h refl
  ])

  pub those-taken : (old new : List (Point × R)) (p : Point) → IsSetAt old new p None → (x : Point) → is_at (point_cmp p) x ≡ false → those_in items (at new x) ≡ those_in items (at old x)
  those-taken old new p set x h = ap (those_in items) (set x ∙ ap (λ b. cond b None (at old x)) h)

module _ {R : Type 0} where
  -- each room still belongs to a claim
  pub table-claimed : (holders new : List (Point × ℕ)) (rooms : List (Point × R)) (p : Point) (q : ℕ) → IsStrictlySortedBy point_cmp (keys_of new) → IsSetAt holders new p (Some q) → IsClaimTable holders rooms → IsClaimTable new rooms
  table-claimed holders new rooms p q order set kept = (
    order,
    λ x some. subst IsSome (sym (set x)) (elim (cases_Bool (is_at (point_cmp p) x)) [
      | inl h ↦ rw h refl
      | inr h ↦ rw h (kept.1 x some)
    ]),
  )

  pub table-waited : (holders : List (Point × ℕ)) (rooms new made : List (Point × R)) (p : Point) (room : R) → new ≡ made → IsSetAt rooms made p (Some room) → IsSome (at holders p) → IsClaimTable holders rooms
      → IsClaimTable holders new
  table-waited holders rooms new made p room is set claimed kept = (
    kept.0,
    λ x some. elim (cases_Bool (is_at (point_cmp p) x)) [
      | inl h ↦ subst (λ z. IsSome (at holders z)) (sym (at-is p x h)) claimed
      | inr h ↦ kept.1 x (subst IsSome (ap (λ (m : List (Point × R)). at m x) is ∙ set x ∙ ap (λ b. cond b (Some room) (at rooms x)) h) some)
    ],
  )

  pub table-taken : (holders left : List (Point × ℕ)) (rooms new : List (Point × R)) (p : Point) → IsStrictlySortedBy point_cmp (keys_of left) → IsSetAt holders left p None → IsSetAt rooms new p None → IsClaimTable holders rooms → IsClaimTable left new
  table-taken holders left rooms new p order left_set set kept = (
    order,
    λ x some. subst IsSome (sym (left_set x)) (elim (cases_Bool (is_at (point_cmp p) x)) [
      | inl h ↦ rw h (subst IsSome (set x ∙ ap (λ b. cond b None (at rooms x)) h) some)
      | inr h ↦ rw h (kept.1 x (subst IsSome (set x ∙ ap (λ b. cond b None (at rooms x)) h) some))
    ]),
  )

  -- where no point is claimed none has a room
  pub unclaimed-none : (holders : List (Point × ℕ)) (rooms : List (Point × R)) (p : Point) → IsClaimTable holders rooms → at holders p ≡ None → at rooms p ≡ None
  unclaimed-none holders rooms p kept none = by (at rooms p) (kept.1 p)
    where
      by : (o : Option R) → (IsSome o → IsSome (at holders p)) → o ≡ None
      by None f = refl
      by (Some room) f = let h : IsSome (at holders p) = f refl in let k = rw none at h in cc k

-- what a claim leaves, whether the point was free or not
module _ {E : Type 0} (holders new : List (Point × ℕ)) (p : Point) (q : ℕ) where
  pub table-by-claim : {R : Type 0} (rooms : List (Point × R)) (r : Result Bool E) → IsStrictlySortedBy point_cmp (keys_of new) → IfOk r (λ free. IsTrue free ↔ (at holders p ≡ None)) → IfOk r (λ free. OnTrue free (new ≡ insert_entry point_cmp holders p q))
      → IfOk r (λ free. OnFalse free (new ≡ holders)) → OnErr r (new ≡ holders) → IsClaimTable holders rooms → IsClaimTable new rooms
  table-by-claim rooms (Ok true) order free claimed taken err kept =
      table-claimed holders new rooms p q order (λ x. ap (λ es. at es x) claimed ∙ at-inserted holders p q x (free.0 refl) ∙ ap (λ b. cond b (Some q) (at holders x)) (sym (at-same p x))) kept
  table-by-claim rooms (Ok false) order free claimed taken err kept = subst (λ es. IsClaimTable es rooms) (sym taken) kept
  table-by-claim rooms (Err e) order free claimed taken err kept = subst (λ es. IsClaimTable es rooms) (sym err) kept

  pub once-claimed : {Goal : Type 0} (r : Result Bool E) → IfOk r (λ free. IsTrue free ↔ (at holders p ≡ None)) → IfOk r (λ free. OnTrue free (new ≡ insert_entry point_cmp holders p q))
      → (at holders p ≡ None → new ≡ insert_entry point_cmp holders p q → Goal) → IfOk r (λ free. OnTrue free Goal)
  once-claimed (Ok true) free claimed then = then (free.0 refl) claimed
  once-claimed (Ok false) free claimed then = tt
  once-claimed (Err e) free claimed then = tt
