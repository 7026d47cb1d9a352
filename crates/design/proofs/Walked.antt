-- A walk from signal to signal, on to those that read a signal.
use Rattle.std.proofs.Common.{◌≡◌, ℕ, zero, suc, ◌<◌, Bool, true, false, not, ◌&&◌, ◌||◌, eqb-true, eq-eqb, List, [], ◌∷◌, ◌++◌, length, get_or, refl, sym, ap, ap₂, ◌∙◌, subst, arith, inl, inr}
use Rattle.std.specs.Prelude.{replicate, nat_eq, ◌↔◌, IsTrue}
use Rattle.std.specs.Cmp.{first_so}
use Rattle.std.proofs.lemmas.Bool.{cases_Bool, cases_lt, or_cases, or_left, or_parts, or_right}
use Rattle.std.proofs.lemmas.Cmp.{nat_eq_equiv}
use Rattle.std.proofs.lemmas.List.{get_or_past, length-replicate}
use Rattle.std.proofs.lemmas.List.Folds.{list_any-append}
use Rattle.std.proofs.lemmas.Map.Views.{list_any-from_Contains, Contains-from_any}
use Rattle.circuit_meaning.specs.Circuit.{Circuit, driver, read_by}
use Rattle.circuit_meaning.specs.Need.{IsInCone, Itself, Reads}
use Rattle.circuit_meaning.proofs.Callers.{cone-step}
use Rattle.design.specs.inner.Walk.{has, is_marked, Marks}

-- What a walk along these edges keeps, among n signals, from a first one, within a set.
pub record Walked (n : ℕ) (edges : ℕ → ℕ → Bool) (Inside : ℕ → Type 0) (first : ℕ) (marks : List Bool) (ahead : List ℕ) : Type 0 where
  pub long : length marks ≡ n
  pub begun : is_marked marks first ≡ true
  pub sound : (x : ℕ) → is_marked marks x ≡ true → Inside x
  pub waits : (x : ℕ) → has ahead x ≡ true → is_marked marks x ≡ true
  pub whole : (x u : ℕ) → is_marked marks x ≡ true → has ahead x ≡ false → edges x u ≡ true → is_marked marks u ≡ true

-- from the site on to the readers
abbrev pub WalkedOn : Circuit → ℕ → List Bool → List ℕ → Type 0
WalkedOn c site marks ahead = Walked (length c.drivers) (λ x u. has (read_by (driver c u)) x) (λ x. IsInCone c x site) site marks ahead

pub marked-within : (marks : List Bool) (x : ℕ) → is_marked marks x ≡ true → x < length marks
marked-within marks x h = elim (cases_lt x (length marks)) [
  | inl l ↦ l
  | inr l ↦ absurd (cc (h, get_or_past marks x false l))
]

-- the first alone is marked and lies ahead
pub walked-start : (edges : ℕ → ℕ → Bool) (Inside : ℕ → Type 0) (n first m : ℕ) (marks marks' : List Bool) (ahead ahead' : List ℕ) → Inside first → first < m → n ≡ m → marks ≡ replicate m false → ahead ≡ []
    → Marks (first ∷ []) marks marks' ahead ahead' → Walked n edges Inside first marks' ahead'
walked-start edges Inside n first m marks marks' ahead ahead' inside l long none empty mark =
    let unmarked : (x : ℕ) → is_marked marks x ≡ false = λ x. ap (λ ms. is_marked ms x) none ∙ clear m x in
    let is : (x : ℕ) → is_marked marks' x ≡ (nat_eq x first || false) = λ x. mark.marked x ∙ ap (λ b. b || (nat_eq x first || false)) (unmarked x) in
    let at : (x : ℕ) → is_marked marks' x ≡ true → x ≡ first = λ x h. eqb-true x first (only (nat_eq x first) (sym (is x) ∙ h)) in
    let ahead-is : (x : ℕ) → has ahead' x ≡ is_marked marks' x = λ x. mark.waits x ∙ ap₂ (λ (xs : List ℕ) (b : Bool). has xs x || (nat_eq x first || false) && not b) empty (unmarked x) ∙ same (nat_eq x first) ∙ sym (is x) in
    record {
      long = mark.long ∙ ap length none ∙ length-replicate m false ∙ sym long;
      begun = is first ∙ or_left (nat_eq first first) false (eq-eqb first first refl);
      sound = λ x h. subst Inside (sym (at x h)) inside;
      waits = λ x h. sym (ahead-is x) ∙ h;
      whole = λ x u h k r. absurd (cc (h, k, ahead-is x));
    }
  where
    clear : (n x : ℕ) → get_or (replicate n false) x false ≡ false
    clear zero x = refl
    clear (suc n) zero = refl
    clear (suc n) (suc x) = clear n x

    only : (b : Bool) → (b || false) ≡ true → b ≡ true
    only true h = refl
    only false h = absurd (cc h)

    same : (b : Bool) → (false || (b || false) && not false) ≡ (b || false)
    same true = refl
    same false = refl

module _ (n : ℕ) (edges : ℕ → ℕ → Bool) (Inside : ℕ → Type 0) (first : ℕ) (marks : List Bool) (ahead rest : List ℕ) (next : ℕ) (w : Walked n edges Inside first marks ahead) (split : ahead ≡ rest ++ next ∷ []) where
  has-split : (x : ℕ) → has ahead x ≡ (has rest x || (nat_eq x next || false))
  has-split x = ap (λ xs. has xs x) split ∙ list_any-append (nat_eq x) rest (next ∷ [])

  -- what comes next is marked
  next-marked : is_marked marks next ≡ true
  next-marked = w.waits next (has-split next ∙ or_right (has rest next) (nat_eq next next || false) (or_left (nat_eq next next) false (eq-eqb next next refl)))

  pub next-within : next < n
  next-within = subst (λ m. next < m) w.long (marked-within marks next next-marked)

  pub next-inside : Inside next
  next-inside = w.sound next next-marked

  module _ (marks' : List Bool) (ahead' signals : List ℕ) (reads : (x : ℕ) → has signals x ≡ edges next x) (inside : (x : ℕ) → edges next x ≡ true → Inside x) (m : Marks signals marks marks' rest ahead') where
    marks_stay : (x : ℕ) → is_marked marks x ≡ true → is_marked marks' x ≡ true
    marks_stay x h = m.marked x ∙ or_left (is_marked marks x) (has signals x) h

    added : (x : ℕ) → has signals x ≡ true → is_marked marks' x ≡ true
    added x h = m.marked x ∙ or_right (is_marked marks x) (has signals x) h

    reached : (x : ℕ) → has signals x ≡ true → Inside x
    reached x h = inside x (sym (reads x) ∙ h)

    -- a marked signal that was marked before, and is not the one just looked at
    old-whole : (x u : ℕ) → is_marked marks x ≡ true → has rest x ≡ false → edges x u ≡ true → is_marked marks' u ≡ true
    old-whole x u h k r = elim (cases_Bool (nat_eq x next)) [
      | inl e ↦ added u (reads u ∙ ap (λ y. edges y u) (sym (eqb-true x next e)) ∙ r)
      | inr e ↦ marks_stay u (w.whole x u h (has-split x ∙ ap₂ (λ (a : Bool) (b : Bool). a || (b || false)) k e) r)
    ]

    new-waits : (x : ℕ) → is_marked marks x ≡ false → has signals x ≡ true → has ahead' x ≡ false → ⊥
    new-waits x n s k =
        let waits : has ahead' x ≡ true = m.waits x ∙ ap₂ (λ (a : Bool) (b : Bool). has rest x || a && not b) s n ∙ or_right (has rest x) true refl in
        cc (waits, k)

    pub walked-step : Walked n edges Inside first marks' ahead'
    walked-step = record {
      long = m.long ∙ w.long;
      begun = marks_stay first w.begun;
      sound = λ x h. elim (or_cases (is_marked marks x) (has signals x) (sym (m.marked x) ∙ h)) [ inl o ↦ w.sound x o | inr s ↦ reached x s ];
      waits = λ x h. elim (or_cases (has rest x) (has signals x && not (is_marked marks x)) (sym (m.waits x) ∙ h)) [
        | inl o ↦ marks_stay x (w.waits x (has-split x ∙ or_left (has rest x) (nat_eq x next || false) o))
        | inr s ↦ added x (first_so (has signals x) (not (is_marked marks x)) s)
      ];
      whole = λ x u h k r. elim (cases_Bool (is_marked marks x)) [
        | inl o ↦ old-whole x u o ((or_parts (has rest x) (has signals x && not (is_marked marks x)) (sym (m.waits x) ∙ k)).0) r
        | inr n ↦ elim (or_cases (is_marked marks x) (has signals x) (sym (m.marked x) ∙ h)) [
          | inl o ↦ absurd (cc (o, n))
          | inr s ↦ absurd (new-waits x n s k)
        ]
      ];
    }

-- the site lies in the cone of what reads a signal with the site in its cone
pub on-inside : (c : Circuit) (site next : ℕ) → IsInCone c next site → (x : ℕ) → has (read_by (driver c x)) next ≡ true → IsInCone c x site
on-inside c site next inside x h = cone-step c x next site (Contains-from_any eqb-true next (read_by (driver c x)) h) inside

-- with nothing ahead each signal that has a marked one in its cone is marked
on-end : (c : Circuit) (site : ℕ) (marks : List Bool) (ahead : List ℕ) → WalkedOn c site marks ahead → ahead ≡ []
    → (x u : ℕ) → IsInCone c x u → is_marked marks u ≡ true → is_marked marks x ≡ true
on-end c site marks ahead w empty x _ Itself h = h
on-end c site marks ahead w empty x u (Reads {s} inside read) h =
    on-end c site marks ahead w empty x s inside (w.whole u s h (ap (λ xs. has xs u) empty) (list_any-from_Contains nat_eq_equiv u (read_by (driver c s)) read))

pub walked-on : (c : Circuit) (site : ℕ) (marks : List Bool) (ahead : List ℕ) → WalkedOn c site marks ahead → ahead ≡ [] → (x : ℕ) → IsTrue (is_marked marks x) ↔ IsInCone c x site
walked-on c site marks ahead w empty x = (λ h. w.sound x h, λ inside. on-end c site marks ahead w empty x site inside w.begun)

pub empty-list : (xs : List ℕ) → (0 < length xs → ⊥) → xs ≡ []
empty-list [] h = refl
empty-list (x ∷ xs) h = absurd (h (omega arith))
