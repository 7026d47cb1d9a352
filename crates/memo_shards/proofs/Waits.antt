-- The waiters of a table, as one list.
use Rattle.std.proofs.Common.{◌≡◌, Bool, true, false, cond, List, [], ◌∷◌, ◌++◌, map, refl, sym, ap, ◌∙◌, subst, append-nil, Some, None, IsSome, arith, inl, inr}
use Rattle.std.specs.declared.cmp.Ordering.TheVariants.{Less, Equal, Greater}
use Rattle.std.specs.Ordering.{is_eq, match_ordering}
use Rattle.std.specs.List.{AllByRecursion}
use Rattle.std.specs.BTreeMap.{is_at}
use Rattle.std.specs.Map.{keys_of, remove_entry}
use Rattle.std.specs.List.Sorted.{IsStrictlySortedBy}
use Rattle.std.proofs.lemmas.Bool.{cases_Bool}
use Rattle.std.proofs.lemmas.Bool.Decides.{nat_tests}
use Rattle.std.proofs.lemmas.Map.Keys.{sorted_head, sorted_tail}
use Rattle.valid_intervals.specs.declared.Point.{Point}
use Rattle.valid_intervals.specs.Cells.{same_point, point_cmp}
use Rattle.claim_waiters.specs.Claims.{Claims, IsInOrder, claim_at, waiters_at, with_claim, add_waiter}
use Rattle.valid_intervals.proofs.Callers.{same_point-true, same_point-itself}
use Rattle.claim_waiters.proofs.Callers.{at-same, at-back}
use Rattle.demand_points.specs.Demands.{Demand}
use Rattle.memo_shards.specs.KeptShards.{Waiting, waiting_at}
use Rattle.memo_shards.specs.inner.KeptShards.{waits_for, waits_in}

-- the claims stay in order where one ends, or hears of one more waiter
keys-left : (P : Point → Type 0) (test : Point → Bool) (es : Claims Demand) → AllByRecursion P (keys_of es) → AllByRecursion P (keys_of (remove_entry test es))
keys-left P test [] h = tt
keys-left P test (e ∷ es) h = elim (test e.0) as (λ t. AllByRecursion P (keys_of (cond t es (e ∷ remove_entry test es)))) [
  | true ↦ h.1
  | false ↦ (h.0, keys-left P test es h.1)
]

pub ordered-without : (test : Point → Bool) (es : Claims Demand) → IsInOrder es → IsInOrder (remove_entry test es)
unfolding IsStrictlySortedBy
ordered-without test [] h = tt
ordered-without test (e ∷ es) h = elim (test e.0) as (λ t. IsStrictlySortedBy point_cmp (keys_of (cond t es (e ∷ remove_entry test es)))) [
  | true ↦ h.1
  | false ↦ (keys-left (λ y. point_cmp e.0 y ≡ Less) test es h.0, ordered-without test es h.1)
]

keys-waited : (test : Point → Bool) (es : Claims Demand) (w : Demand) → keys_of (add_waiter test es w) ≡ keys_of es
keys-waited test [] w = refl
keys-waited test (e ∷ es) w = elim (test e.0) as (λ t. keys_of (cond t ((e.0, record { q = e.1.q; waiters = e.1.waiters ++ w ∷ [] }) ∷ es) (e ∷ add_waiter test es w)) ≡ e.0 ∷ keys_of es) [
  | true ↦ refl
  | false ↦ ap (λ l. e.0 ∷ l) (keys-waited test es w)
]

pub ordered-waited : (test : Point → Bool) (es : Claims Demand) (w : Demand) → IsInOrder es → IsInOrder (add_waiter test es w)
ordered-waited test es w h = subst (IsStrictlySortedBy point_cmp) (sym (keys-waited test es w)) h

waiting-append : (xs ys : List Waiting) (x : Point) → waiting_at (xs ++ ys) x ≡ waiting_at xs x ++ waiting_at ys x
waiting-append [] ys x = refl
waiting-append (w ∷ xs) ys x =
    elim (same_point w.point x) as (λ t. cond t (w.strand ∷ waiting_at (xs ++ ys) x) (waiting_at (xs ++ ys) x) ≡ cond t (w.strand ∷ waiting_at xs x) (waiting_at xs x) ++ waiting_at ys x) [
      | true ↦ ap (λ l. w.strand ∷ l) (waiting-append xs ys x)
      | false ↦ waiting-append xs ys x
    ]

waiting-map : (p x : Point) (ws : List Demand) → waiting_at (map (waits_for p) ws) x ≡ cond (same_point p x) ws []
waiting-map p x [] = elim (same_point p x) as (λ t. ◌≡◌ {A = List Demand} [] (cond t [] [])) [ true ↦ refl | false ↦ refl ]
waiting-map p x (w ∷ ws) = elim (cases_Bool (same_point p x)) [
  | inl h ↦ rw h (ap (λ l. w ∷ l) (waiting-map p x ws ∙ rw h refl))
  | inr h ↦ rw h (waiting-map p x ws ∙ rw h refl)
]

less-apart : (x y : Point) → point_cmp x y ≡ Less → same_point y x ≡ false
less-apart x y h = grind (arith, nat_tests)

none-later : (x : Point) (es : Claims Demand) → AllByRecursion (λ y. point_cmp x y ≡ Less) (keys_of es) → waiting_at (waits_in es) x ≡ []
none-later x [] h = refl
none-later x (e ∷ es) h =
    waiting-append (map (waits_for e.0) e.1.waiters) (waits_in es) x
    ∙ ap (λ l. l ++ waiting_at (waits_in es) x) (waiting-map e.0 x e.1.waiters ∙ ap (λ t. cond t e.1.waiters []) (less-apart x e.0 h.0))
    ∙ none-later x es h.1

-- those that wait at a point are the waiters of its claim
pub waits-at : (claims : Claims Demand) → IsInOrder claims → (x : Point) → waiting_at (waits_in claims) x ≡ waiters_at claims x
waits-at [] o x = refl
waits-at (e ∷ es) o x =
    waiting-append (map (waits_for e.0) e.1.waiters) (waits_in es) x
    ∙ ap (λ l. l ++ waiting_at (waits_in es) x) (waiting-map e.0 x e.1.waiters)
    ∙ (elim (cases_Bool (same_point e.0 x)) [
      | inl h ↦
          let none : waiting_at (waits_in es) x ≡ [] = subst (λ z. waiting_at (waits_in es) z ≡ []) (same_point-true e.0 x h) (none-later e.0 es (sorted_head point_cmp e.0 (keys_of es) o)) in
          rw (at-back e.0 x, h, none) (append-nil e.1.waiters)
      | inr h ↦ rw (at-back e.0 x, h) (waits-at es (sorted_tail point_cmp e.0 (keys_of es) o) x)
    ])

-- nobody waits at a new claim
pub waits-claimed : (claims : Claims Demand) (p : Point) (q : _) → claim_at claims p ≡ None → waits_in (with_claim claims q p) ≡ waits_in claims
waits-claimed [] p q n = refl
waits-claimed (e ∷ es) p q n =
    (elim (point_cmp p e.0) as (λ o. cond (is_eq o) (Some e.1) (claim_at es p) ≡ None
    → waits_in (match_ordering o ((p, record { q = q; waiters = [] }) ∷ e ∷ es) ((e.0, record { q = q; waiters = [] }) ∷ es) (e ∷ with_claim es q p)) ≡ waits_in (e ∷ es)) [
      | Less ↦ λ m. refl
      | Equal ↦ λ m. absurd (cc m)
      | Greater ↦ λ m. ap (λ l. map (waits_for e.0) e.1.waiters ++ l) (waits-claimed es p q m)
    ]) n

-- what holds of each claimed point, and of all that wait there
pub each-claimed : (Q : Point → Type 0) (es : Claims Demand) → ((x : Point) → IsSome (claim_at es x) → Q x) → AllByRecursion (λ e. Q e.0) es
each-claimed Q [] f = tt
each-claimed Q (e ∷ es) f = (f e.0 (rw (at-same e.0 e.0 ∙ same_point-itself e.0) refl), each-claimed Q es (λ x s. f x (more x s)))
  where
    more : (x : Point) → IsSome (claim_at es x) → IsSome (claim_at (e ∷ es) x)
    more x s = elim (is_at (point_cmp x) e.0) as (λ t. IsSome (cond t (Some e.1) (claim_at es x))) [ true ↦ refl | false ↦ s ]

each-mapped : (P : Waiting → Type 0) (p : Point) (ws : List Demand) (rest : List Waiting) → AllByRecursion (λ w. P (waits_for p w)) ws → AllByRecursion P rest → AllByRecursion P (map (waits_for p) ws ++ rest)
each-mapped P p [] rest h k = k
each-mapped P p (w ∷ ws) rest h k = (h.0, each-mapped P p ws rest h.1 k)

pub each-waits : (P : Waiting → Type 0) (es : Claims Demand) → AllByRecursion (λ e. AllByRecursion (λ w. P (waits_for e.0 w)) e.1.waiters) es → AllByRecursion P (waits_in es)
each-waits P [] h = tt
each-waits P (e ∷ es) h = each-mapped P e.0 e.1.waiters (waits_in es) h.0 (each-waits P es h.1)
