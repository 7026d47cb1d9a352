-- What becomes of a point's claim, and of the cells.
use Rattle.std.proofs.Common.{◌≡◌, ◌≢◌, ℕ, ◌≤◌, Bool, true, false, cond, not, List, [], ◌∷◌, filter, find, option_map, Some, None, inl, inr, ◌⊎◌, refl, sym, subst, ◌∙◌, true≢false, eq-eqb, le-leb, lt-ltb}
use Rattle.std.proofs.lemmas.Bool.{and_from, cases_Bool}
use Rattle.std.proofs.lemmas.Option.{none-some}
use Rattle.valid_intervals.specs.declared.Point.{Point}
use Rattle.circuit_meaning.specs.Circuit.{Circuit, IsCircuit}
use Rattle.circuit_meaning.proofs.Callers.{cell-covers}
use Rattle.journal_meaning.specs.declared.Entry.{Entry}
use Rattle.journal_meaning.specs.declared.Entry.TheVariants.{Told, Claimed, Filled, Evicted, Dropped, Spent}
use Rattle.journal_meaning.specs.States.{Claim, State, is_covered, holder, without_point}
use Rattle.journal_meaning.specs.Table.{Needs, after}
use Rattle.valid_intervals.specs.Cells.{same_point, covers, cell_for}
use Rattle.valid_intervals.specs.declared.SignalCell.{SignalCell}
use Rattle.circuit_meaning.specs.Cells.{cell_at}
use Rattle.valid_intervals.proofs.Callers.{same_point-true, same_point-itself}
use Rattle.journal_meaning.proofs.Lists.{Each, Stands, stands-any, test-false}

pub holder-filter : (test : Claim → Bool) (claims : List Claim) (p : Point) → holder claims p ≡ None → holder (filter test claims) p ≡ None
holder-filter test [] p h = refl
holder-filter test (c ∷ claims) p h =
    elim (same_point p c.point) as (λ b. same_point p c.point ≡ b → option_map (λ (c : Claim). c.query) (cond b (Some c) (find (λ c. same_point p c.point) claims)) ≡ None → holder (cond (test c) (c ∷ filter test claims) (filter test claims)) p ≡ None) [
      | true ↦ λ e k. absurd (none-some c.query (sym k))
      | false ↦ λ e k. elim (test c) as (λ t. holder (cond t (c ∷ filter test claims) (filter test claims)) p ≡ None) [
        | true ↦ rw e (holder-filter test claims p k)
        | false ↦ holder-filter test claims p k
      ]
    ] refl h

pub holder-without : (claims : List Claim) (p : Point) → holder (without_point claims p) p ≡ None
holder-without [] p = refl
holder-without (c ∷ claims) p =
    elim (same_point p c.point) as (λ b. same_point p c.point ≡ b → holder (cond (not b) (c ∷ without_point claims p) (without_point claims p)) p ≡ None) [
      | true ↦ λ e. holder-without claims p
      | false ↦ λ e. rw e (holder-without claims p)
    ] refl

pub holder-other : (claims : List Claim) (q : ℕ) (r p : Point) → r ≢ p → holder claims p ≡ None → holder (record { query = q; point = r } ∷ claims) p ≡ None
holder-other claims q r p h k = rw (test-false same_point same_point-true same_point-itself p r (λ e. h (sym e))) k

some-same : (a b : ℕ) → Some a ≡ Some b → a ≡ b
some-same a b e = cc

pub holder-each : (P : ℕ → Point → Type 0) (claims : List Claim) (p : Point) (q : ℕ) → Each (λ c. P c.query c.point) claims → holder claims p ≡ Some q → P q p
holder-each P [] p q h e = absurd (none-some q e)
holder-each P (c ∷ claims) p q h e =
    elim (same_point p c.point) as (λ b. same_point p c.point ≡ b → option_map (λ (c : Claim). c.query) (cond b (Some c) (find (λ c. same_point p c.point) claims)) ≡ Some q → P q p) [
      | true ↦ λ k l. subst (λ z. P z p) (some-same c.query q l) (subst (λ z. P c.query z) (sym (same_point-true p c.point k)) h.0)
      | false ↦ λ k l. holder-each P claims p q h.1 l
    ] refl e

-- what is claimed after a claim, and after one has ended
pub cases_point : (a b : Point) → ((same_point a b ≡ true) × (a ≡ b)) ⊎ ((same_point a b ≡ false) × (a ≢ b))
cases_point a b = elim (cases_Bool (same_point a b)) [
  | inl e ↦ inl (e, same_point-true a b e)
  | inr e ↦ inr (e, λ k. true≢false (sym (subst (λ c. same_point a c ≡ true) k (same_point-itself a)) ∙ e))
]

pub claim-here : (claims : List Claim) (p : Point) (q : ℕ) → holder (record { query = q; point = p } ∷ claims) p ≡ Some q
claim-here claims p q = rw (same_point-itself p) refl

pub claim-other : (claims : List Claim) (p r : Point) (q : ℕ) → r ≢ p → holder (record { query = q; point = p } ∷ claims) r ≡ holder claims r
claim-other claims p r q h = rw (test-false same_point same_point-true same_point-itself r p h) refl

pub without-other : (claims : List Claim) (p r : Point) → r ≢ p → holder (without_point claims p) r ≡ holder claims r
without-other [] p r h = refl
without-other (c ∷ claims) p r h = elim (cases_point p c.point) [
  | inl e ↦ rw (e.0, test-false same_point same_point-true same_point-itself r c.point (λ k. h (k ∙ sym e.1))) (without-other claims p r h)
  | inr e ↦ rw e.0 (elim (same_point r c.point) as (λ t. option_map (λ (c : Claim). c.query) (cond t (Some c) (find (λ c. same_point r c.point) (without_point claims p))) ≡ option_map (λ (c : Claim). c.query) (cond t (Some c) (find (λ c. same_point r c.point) claims))) [
    | true ↦ refl
    | false ↦ without-other claims p r h
  ])
]

-- the holders after a claim, and after one has ended, point by point
pub holder-claimed : (claims : List Claim) (q : ℕ) (p x : Point) → holder (record { query = q; point = p } ∷ claims) x ≡ cond (same_point p x) (Some q) (holder claims x)
holder-claimed claims q p x = elim (cases_point p x) [
  | inl e ↦ subst (λ z. holder (record { query = q; point = p } ∷ claims) z ≡ cond (same_point p z) (Some q) (holder claims z)) e.1 (claim-here claims p q ∙ rw (subst (λ z. same_point p z ≡ true) (sym e.1) e.0) refl)
  | inr e ↦ claim-other claims p x q (λ k. e.1 (sym k)) ∙ rw e.0 refl
]

pub holder-ended : (claims : List Claim) (p x : Point) → holder (without_point claims p) x ≡ cond (same_point p x) None (holder claims x)
holder-ended claims p x = elim (cases_point p x) [
  | inl e ↦ subst (λ z. holder (without_point claims p) z ≡ None) e.1 (holder-without claims p) ∙ rw e.0 refl
  | inr e ↦ without-other claims p x (λ k. e.1 (sym k)) ∙ rw e.0 refl
]

-- where no point is claimed there are no claims
pub no-claims : (claims : List Claim) → ((p : Point) → holder claims p ≡ None) → claims ≡ []
no-claims [] f = refl
no-claims (c ∷ claims) f =
    let h : holder (c ∷ claims) c.point ≡ Some c.query = rw (same_point-itself c.point) refl in
    absurd (cc (h, f c.point))

-- a point's own cell covers it
pub own-covers : (c : Circuit) → IsCircuit c → (p : Point) → p.time ≤ c.horizon → covers p (cell_for p (cell_at c p)) ≡ true
own-covers c ok p h =
    let k = (cell-covers c ok p.time p.signal h).inside in
    and_from _ _ (and_from _ _ (eq-eqb p.signal p.signal refl) (le-leb _ _ k.low)) (lt-ltb _ _ k.high)

-- an entry that is not one of the point, or only tells it
abbrev pub Quiet : Point → Entry → Type 0
Quiet p (Told q r x) = Unit {0}
Quiet p (Claimed q r) = r ≢ p
Quiet p (Filled q r x) = r ≢ p
Quiet p (Evicted signal start) = Unit {0}
Quiet p (Dropped q r) = r ≢ p
Quiet p (Spent q r held) = r ≢ p

-- while a cell stands that covers the point, and the point is not claimed
module _ (p : Point) (x : SignalCell) (c : covers p x ≡ true) (capacity : ℕ) (s : State) (unclaimed : holder s.claims p ≡ None) where
  claimed : (q : ℕ) (r : Point) → holder s.claims r ≡ Some q → r ≢ p
  claimed q r h e = none-some q (sym (subst (λ y. holder s.claims y ≡ None) (sym e) unclaimed) ∙ h)

  uncovered : Stands x s.cells → (r : Point) → is_covered s r ≡ false → r ≢ p
  uncovered st r h e = true≢false (sym (stands-any (covers p) x s.cells c st) ∙ subst (λ y. is_covered s y ≡ false) e h)

  pub quiet : (s.made ≡ false → Stands x s.cells) → (e : Entry) → Needs capacity s e → Quiet p e
  quiet st (Told q r y) n = tt
  quiet st (Claimed q r) n = uncovered (st n.0) r n.1
  quiet st (Filled q r y) n = claimed q r n.0
  quiet st (Evicted signal start) n = tt
  quiet st (Dropped q r) n = claimed q r n.1
  quiet st (Spent q r held) n = uncovered (st n.0) r n.1

  pub still_unclaimed : (e : Entry) → Quiet p e → holder (after s e).claims p ≡ None
  still_unclaimed (Told q r y) h = unclaimed
  still_unclaimed (Claimed q r) h = holder-other s.claims q r p h unclaimed
  still_unclaimed (Filled q r y) h = holder-filter (λ c. not (same_point r c.point)) s.claims p unclaimed
  still_unclaimed (Evicted signal start) h = unclaimed
  still_unclaimed (Dropped q r) h = holder-filter (λ c. not (same_point r c.point)) s.claims p unclaimed
  still_unclaimed (Spent q r held) h = unclaimed
