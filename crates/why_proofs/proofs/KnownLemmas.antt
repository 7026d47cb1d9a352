-- What is found among the accepted lines, by an index of their signals and first times.
use Rattle.std.proofs.Common.{◌≡◌, ℕ, zero, suc, ◌≤◌, Bool, true, false, cond, List, [], ◌∷◌, ◌++◌, Option, Some, None, IsSome, MatchOption, Contains, option_map, refl, sym, ap, subst, ◌∙◌, arith, inl, inr, ◌⊎◌, eq-eqb, le-leb, lt-ltb}
use Rattle.std.specs.Prelude.{find}
use Rattle.std.specs.List.{AllByRecursion}
use Rattle.std.proofs.lemmas.Bool.{and_from, cases_Bool}
use Rattle.std.proofs.lemmas.List.Elements.{Contains-append_left, Contains-append_cases, Contains-push}
use Rattle.std.specs.Ordering.{is_eq, is_gt, is_lt}
use Rattle.valid_intervals.specs.declared.Cell.{Cell}
use Rattle.valid_intervals.specs.declared.Point.{Point}
use Rattle.valid_intervals.specs.declared.SignalCell.{SignalCell}
use Rattle.valid_intervals.specs.Spans.{IsIn}
use Rattle.valid_intervals.specs.Cells.{covers, point_cmp}
use Rattle.valid_intervals.proofs.Callers.{same-place, itself, not-behind, signal-up, signal-down, time-up, time-down}
use Rattle.circuit_meaning.specs.Circuit.{Circuit, IsCircuit}
use Rattle.circuit_meaning.specs.Cells.{cell_at, point_at}
use Rattle.circuit_meaning.specs.Base.{base_answer}
use Rattle.circuit_meaning.specs.Need.{IsEvaluable}
use Rattle.circuit_meaning.proofs.Callers.{cell-covers, base-answers}
use Rattle.why_proofs.specs.Justified.{base_or, line_at}
use Rattle.why_proofs.specs.Laws.{IsTrueLine}
use Rattle.why_proofs.specs.Known.{place_of, IsTrueCell, AreTrueCells, IsStated, IsIndexOf}
use Rattle.why_proofs.proofs.Sound.{Covers, covers-from, steady}

covers-to : (x : SignalCell) (s t : ℕ) → Covers x s t → covers (point_at s t) x ≡ true
covers-to x s t h = and_from _ _ (and_from _ _ (eq-eqb x.signal s h.signal) (le-leb _ _ h.inside.low)) (lt-ltb _ _ h.inside.high)

contains-behind : {A : Type 0} (y : A) (rest : List A) (x : A) → Contains rest x → Contains (y ∷ rest) x
contains-behind y rest x h = (suc h.0, (let l = h.1 in omega arith), h.2)

contains-first : {A : Type 0} (y : A) (rest : List A) → Contains (y ∷ rest) y
contains-first y rest = (0, omega arith, refl)

contains-one : {A : Type 0} (y : A) (rest : List A) (x : A) → Contains (y ∷ rest) x → (y ≡ x) ⊎ Contains rest x
contains-one y rest x (zero, l, e) = inl e
contains-one y rest x (suc k, l, e) = inr (k, omega arith, e)

-- what the lines say of a point: one covers it, or none does
pub record IsFound (lines : List SignalCell) (s t : ℕ) : Type 0 where
  pub line : SignalCell
  pub known : Contains lines line
  pub covers : Covers line s t
  pub found : line_at lines s t ≡ Some line.cell

pub record IsMissing (lines : List SignalCell) (s t : ℕ) : Type 0 where
  pub none : (x : SignalCell) → Contains lines x → Covers x s t → ⊥
  pub missing : line_at lines s t ≡ None

abbrev said-if : SignalCell → List SignalCell → ℕ → ℕ → Bool → Option Cell
said-if y rest s t b = option_map (λ (x : SignalCell). x.cell) (cond b (Some y) (find (covers (point_at s t)) rest))

line-cases : (lines : List SignalCell) (s t : ℕ) → IsFound lines s t ⊎ IsMissing lines s t
line-cases [] s t = inr (record { none = λ x h k. absurd (let l = h.1 in omega arith); missing = refl })
line-cases (y ∷ rest) s t = go (covers (point_at s t) y) refl (line-cases rest s t)
  where
    go : (b : Bool) → covers (point_at s t) y ≡ b → IsFound rest s t ⊎ IsMissing rest s t → IsFound (y ∷ rest) s t ⊎ IsMissing (y ∷ rest) s t
    go true e more = inl (record { line = y; known = contains-first y rest; covers = covers-from y s t e; found = ap (said-if y rest s t) e })
    go false e (inl f) = inl (record { line = f.line; known = contains-behind y rest f.line f.known; covers = f.covers; found = ap (said-if y rest s t) e ∙ f.found })
    go false e (inr m) = inr (record {
      none = λ x h k. elim (contains-one y rest x h) [
        | inl same ↦ let yes : covers (point_at s t) y ≡ true = subst (λ z. covers (point_at s t) z ≡ true) (sym same) (covers-to x s t k) in cc (yes, e)
        | inr h' ↦ m.none x h' k
      ];
      missing = ap (said-if y rest s t) e ∙ m.missing;
    })

module _ (c : Circuit) (ok : IsCircuit c) where
  -- its first time is one of them
  own : (k : Point) (x : Cell) → IsTrueCell c k x → IsIn x.span k.time
  own k x is = subst (λ (z : Cell). IsIn z.span k.time) (sym is.right) (cell-covers c ok k.time k.signal is.within).inside

  module _ (index : Point → Option Cell) (true-cells : AreTrueCells c index) (p : Point) where
    -- the cell that stands at a place of the signal and has the time
    pub found-right : (k : Point) (cell : Cell) → index k ≡ Some cell → k.signal ≡ p.signal → IsIn cell.span p.time → cell ≡ cell_at c p
    found-right k cell e same inside = steady c ok cell k.signal k.time p.time (true-cells k cell e).right inside ∙ ap (λ s. cell_at c (point_at s p.time)) same

    module _ (lines : List SignalCell) (i : IsIndexOf lines index) where
      -- each line states the cell of its place
      line-true : (x : SignalCell) → Contains lines x → IsTrueCell c (place_of x) x.cell
      line-true x h = true-cells (place_of x) x.cell (i.has x h)

      covering : (x : SignalCell) → Contains lines x → Covers x p.signal p.time → x.cell ≡ cell_at c p
      covering x h k = found-right (place_of x) x.cell (i.has x h) k.signal k.inside

      pub line-found : (k : Point) (cell : Cell) → index k ≡ Some cell → k.signal ≡ p.signal → IsIn cell.span p.time → Some cell ≡ line_at lines p.signal p.time
      line-found k cell e same inside = elim (line-cases lines p.signal p.time) [
        | inl f ↦ ap Some (found-right k cell e same inside ∙ sym (covering f.line f.known f.covers)) ∙ sym f.found
        | inr m ↦
            let s = i.only k cell e in
            let signal : s.line.signal ≡ p.signal = ap (λ (q : Point). q.signal) s.place ∙ same in
            absurd (m.none s.line s.known (record { signal = signal; inside = subst (λ (z : Cell). IsIn z.span p.time) (sym s.cell_is) inside }))
      ]

      -- none is found where nothing stands at or before the point
      pub none-before : ((q : Point) → is_gt (point_cmp q p) ≡ false → index q ≡ None) → None ≡ line_at lines p.signal p.time
      none-before none = elim (line-cases lines p.signal p.time) [
        | inl f ↦
            let a : index (place_of f.line) ≡ Some f.line.cell = i.has f.line f.known in
            let b = none (place_of f.line) (not-behind (place_of f.line) p f.covers.signal f.covers.inside.low) in
            absurd (cc (a, b))
        | inr m ↦ sym m.missing
      ]

      -- nor where the last cell that stands there does not cover it
      pub none-last : (k : Point) (cell : Cell) → index k ≡ Some cell → is_gt (point_cmp k p) ≡ false
          → ((q : Point) → is_gt (point_cmp q p) ≡ false → IsSome (index q) → is_lt (point_cmp k q) ≡ false)
          → (k.signal ≡ p.signal → IsIn cell.span p.time → ⊥) → None ≡ line_at lines p.signal p.time
      none-last k cell e up last other = elim (line-cases lines p.signal p.time) [
        | inl f ↦ absurd (clash f.line f.known f.covers)
        | inr m ↦ sym m.missing
      ]
        where
          clash : (x : SignalCell) → Contains lines x → Covers x p.signal p.time → ⊥
          clash x known h =
              let q = place_of x in
              let a : index q ≡ Some x.cell = i.has x known in
              let some : IsSome (index q) = subst IsSome (sym a) refl in
              let down = last q (not-behind q p h.signal h.inside.low) some in
              let s1 = signal-up k p up in
              let s2 = signal-down k q down in
              let same-signal = h.signal in
              let at-p : k.signal ≡ p.signal = omega arith in
              let at-q : k.signal ≡ q.signal = omega arith in
              let low : x.cell.span.start ≤ k.time = time-down k q down at-q in
              let below : k.time ≤ p.time = time-up k p up at-p in
              let last-time = h.inside.high in
              let in-x : IsIn x.cell.span k.time = record { low = low; high = omega arith } in
              let there : x.cell ≡ cell_at c (point_at x.signal k.time) = steady c ok x.cell x.signal x.cell.span.start k.time (line-true x known).right in-x in
              let same : x.cell ≡ cell = there ∙ ap (λ s. cell_at c (point_at s k.time)) (sym at-q) ∙ sym (true-cells k cell e).right in
              other at-p (subst (λ (z : Cell). IsIn z.span p.time) same h.inside)

-- one cell more
module _ (c : Circuit) (before after : Point → Option Cell) (true-cells : AreTrueCells c before) (p : Point) (cell : Cell) (is : IsTrueCell c p cell)
    (updates : (q : Point) → after q ≡ cond (is_eq (point_cmp p q)) (Some cell) (before q)) where
  at-place : (q : Point) → p ≡ q → after q ≡ Some cell
  at-place q e = updates q ∙ ap (λ b. cond b (Some cell) (before q)) (subst (λ x. is_eq (point_cmp p x) ≡ true) e (itself p))

  elsewhere : (q : Point) → is_eq (point_cmp p q) ≡ false → after q ≡ before q
  elsewhere q n = updates q ∙ ap (λ b. cond b (Some cell) (before q)) n

  pub true-more : AreTrueCells c after
  true-more k x h = elim (cases_Bool (is_eq (point_cmp p k))) [
    | inl t ↦
        let e : p ≡ k = same-place p k t in
        let same : Some cell ≡ Some x = sym (at-place k e) ∙ h in
        let there : cell ≡ x = cc in
        subst (λ q. IsTrueCell c q x) e (subst (IsTrueCell c p) there is)
    | inr n ↦ true-cells k x (sym (elsewhere k n) ∙ h)
  ]

  module _ (lines : List SignalCell) (i : IsIndexOf lines before) (new : SignalCell) (cell-is : new.cell ≡ cell) (place-is : place_of new ≡ p) where
    has-old : (x : SignalCell) → Contains lines x → after (place_of x) ≡ Some x.cell
    has-old x known = elim (cases_Bool (is_eq (point_cmp p (place_of x)))) [
      | inl t ↦
          let e : p ≡ place_of x = same-place p (place_of x) t in
          let old = (true-cells (place_of x) x.cell (i.has x known)).right in
          let same : cell ≡ x.cell = is.right ∙ ap (cell_at c) e ∙ sym old in
          at-place (place_of x) e ∙ ap Some same
      | inr n ↦ elsewhere (place_of x) n ∙ i.has x known
    ]

    has-all : (x : SignalCell) → Contains (lines ++ new ∷ []) x → after (place_of x) ≡ Some x.cell
    has-all x known = elim (Contains-append_cases lines (new ∷ []) x known) [
      | inl l ↦ has-old x l
      | inr r ↦ elim (contains-one new [] x r) [
        | inl same ↦ subst (λ z. after (place_of z) ≡ Some z.cell) same (at-place (place_of new) (sym place-is) ∙ ap Some (sym cell-is))
        | inr none ↦ absurd (let l = none.1 in omega arith)
      ]
    ]

    only-these : (k : Point) (x : Cell) → after k ≡ Some x → IsStated (lines ++ new ∷ []) k x
    only-these k x h = elim (cases_Bool (is_eq (point_cmp p k))) [
      | inl t ↦
          let e : p ≡ k = same-place p k t in
          let both : Some cell ≡ Some x = sym (at-place k e) ∙ h in
          let there : cell ≡ x = cc in
          record { line = new; known = Contains-push lines new; cell_is = cell-is ∙ there; place = place-is ∙ e }
      | inr n ↦
          let s = i.only k x (sym (elsewhere k n) ∙ h) in
          record { line = s.line; known = Contains-append_left lines (new ∷ []) s.line s.known; cell_is = s.cell_is; place = s.place }
    ]

    pub index-more : IsIndexOf (lines ++ new ∷ []) after
    index-more = record { has = has-all; only = only-these }

-- a base answer, or what the lines say
module _ (c : Circuit) (ok : IsCircuit c) (s t : ℕ) where
  pub base-some : (x : Cell) → x ≡ cell_at c (point_at s t) → (IsEvaluable c s t → ⊥) → (o : Option Cell) → Some x ≡ base_or (base_answer c s t) o
  base-some x e never o = go (base_answer c s t) (base-answers c ok s t)
    where
      go : (b : Option Cell) → MatchOption b (IsEvaluable c s t) (λ x. (x ≡ cell_at c (point_at s t)) × (IsEvaluable c s t → ⊥)) → Some x ≡ base_or b o
      go (Some y) m = ap Some (e ∙ sym m.0)
      go None m = absurd (never m)

  pub base-none : IsEvaluable c s t → (o : Option Cell) → o ≡ base_or (base_answer c s t) o
  base-none h o = go (base_answer c s t) (base-answers c ok s t)
    where
      go : (b : Option Cell) → MatchOption b (IsEvaluable c s t) (λ x. (x ≡ cell_at c (point_at s t)) × (IsEvaluable c s t → ⊥)) → o ≡ base_or b o
      go (Some y) m = absurd (m.1 h)
      go None m = refl

-- lines whose cells stand in an index of cells say cells
pub index-right : (c : Circuit) → IsCircuit c → (index : Point → Option Cell) → AreTrueCells c index → (lines : List SignalCell) → IsIndexOf lines index → AllByRecursion (IsTrueLine c) lines
index-right c ok index true-cells lines i = go lines (λ x h. (true-cells (place_of x) x.cell (i.has x h)).right)
  where
    go : (xs : List SignalCell) → ((x : SignalCell) → Contains xs x → IsTrueLine c x) → AllByRecursion (IsTrueLine c) xs
    go [] h = tt
    go (x ∷ xs) h = (h x (contains-first x xs), go xs (λ y k. h y (contains-behind x xs y k)))

-- before anything is known
pub no-cells : (c : Circuit) (index : Point → Option Cell) → ((q : Point) → index q ≡ None) → AreTrueCells c index
no-cells c index none k cell h = absurd (cc (h, none k))

pub no-lines : (index : Point → Option Cell) → ((q : Point) → index q ≡ None) → IsIndexOf [] index
no-lines index none = record { has = λ x h. absurd (let l = h.1 in omega arith); only = λ k cell h. absurd (cc (h, none k)) }
