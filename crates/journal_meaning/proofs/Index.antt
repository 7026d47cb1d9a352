-- What is found among the cells that entries say, by an index of their signals and first times.
use Rattle.std.proofs.Common.{◌<◌, get_or, length, ◌⊎◌, ◌≡◌, ℕ, zero, suc, ◌≤◌, ◌&&◌, nat_le, nat_lt, leb-true, eq-eqb, le-leb, lt-ltb, true, false, cond, nat_eq, List, [], ◌∷◌, ◌++◌, Option, Some, None, IsSome, All, Contains, refl, sym, ap, subst, ◌∙◌, eqb-true, arith, inl, inr}
use Rattle.std.proofs.lemmas.Bool.{and_parts, and_from, cases_Bool, ltb-true}
use Rattle.std.proofs.lemmas.List.Elements.{All-contains, All-contains_itself, All-weaker, All-push, All-nil, All-from_recursion, Contains-append_left, Contains-append_right, Contains-append_cases, Contains-push, filter_map-append}
use Rattle.std.specs.Ordering.{is_eq, is_gt, is_lt}
use Rattle.valid_intervals.specs.declared.Cell.{Cell}
use Rattle.valid_intervals.specs.declared.Point.{Point}
use Rattle.valid_intervals.specs.Spans.{Span, IsIn}
use Rattle.circuit_meaning.specs.Circuit.{Circuit, IsCircuit}
use Rattle.circuit_meaning.specs.Cells.{span, cell_at}
use Rattle.circuit_meaning.proofs.Callers.{cell-covers}
use Rattle.journal_meaning.proofs.More.{right-within}
use Rattle.journal_meaning.specs.declared.Entry.{Entry}
use Rattle.journal_meaning.specs.declared.Entry.TheVariants.{Told, Claimed, Filled, Evicted, Dropped, Spent}
use Rattle.valid_intervals.specs.Cells.{covers, cell_for, point_cmp}
use Rattle.valid_intervals.proofs.Callers.{same-place, itself, not-behind, signal-up, signal-down, time-up, time-down}
use Rattle.journal_meaning.specs.Answers.{Says}
use Rattle.journal_meaning.specs.Sections.{of_batch}
use Rattle.journal_meaning.specs.Grown.{IsSaid}
use Rattle.journal_meaning.specs.Listed.{IsRightEntry}
use Rattle.journal_meaning.proofs.Lists.{Each, each-imply}
use Rattle.journal_meaning.specs.Entries.{SaidCell, cell_said}
use Rattle.journal_meaning.specs.Index.{cells_said, Covers, IsFound, place_of, StandsAt, IsCellIndex}

-- a place between a first place of the signal and a point of the signal
record IsBetween (low k high : Point) : Type 0 where
  signal : k.signal ≡ high.signal
  low_time : low.time ≤ k.time
  high_time : k.time ≤ high.time

between : (low k high : Point) → is_gt (point_cmp k high) ≡ false → is_lt (point_cmp k low) ≡ false → low.signal ≡ high.signal → IsBetween low k high
between low k high up down e =
    let a = signal-up k high up in
    let b = signal-down k low down in
    let same : k.signal ≡ high.signal = omega arith in
    let other : k.signal ≡ low.signal = omega arith in
    record { signal = same; low_time = time-down k low down other; high_time = time-up k high up same }

-- a cell is right, within the horizon
record IsCellOf (c : Circuit) (f : SaidCell) : Type 0 where
  right : f.cell ≡ cell_at c f.point
  within : f.point.time ≤ c.horizon

is-cell : (c : Circuit) (cells : List SaidCell) → All (λ f. f.cell ≡ cell_at c f.point) cells → All (λ f. f.point.time ≤ c.horizon) cells → (f : SaidCell) → Contains cells f → IsCellOf c f
is-cell c cells right within f known = record {
  right = All-contains (λ f. f.cell ≡ cell_at c f.point) cells f right known;
  within = All-contains (λ f. f.point.time ≤ c.horizon) cells f within known;
}

module _ (c : Circuit) (ok : IsCircuit c) where
  -- it is the cell at each of its times
  steady : (f : SaidCell) → IsCellOf c f → (t : ℕ) → IsIn f.cell.span t → f.cell ≡ cell_at c (record { signal = f.point.signal; time = t })
  steady f is t inside = right-within c ok (record { signal = f.point.signal; cell = f.cell }) (record { time = f.point.time; within = is.within; cell = is.right }) t inside

  -- its first time is one of them
  own : (f : SaidCell) → IsCellOf c f → IsIn f.cell.span f.cell.span.start
  own f is =
      let inside : IsIn (span c f.point.signal f.point.time) f.point.time = (cell-covers c ok f.point.time f.point.signal is.within).inside in
      let spans : f.cell.span ≡ span c f.point.signal f.point.time = ap (λ (x : Cell). x.span) is.right in
      let here : IsIn f.cell.span f.point.time = subst (λ (s : Span). IsIn s f.point.time) (sym spans) inside in
      record { low = omega arith; high = omega (arith, here.low, here.high) }

  -- cells of a signal that have a time in common are the same
  meets : (f g : SaidCell) → IsCellOf c f → IsCellOf c g → f.point.signal ≡ g.point.signal → (t : ℕ) → IsIn f.cell.span t → IsIn g.cell.span t → f.cell ≡ g.cell
  meets f g a b e t in_f in_g =
      let at : ℕ → Cell = λ s. cell_at c (record { signal = s; time = t }) in
      steady f a t in_f ∙ ap at e ∙ sym (steady g b t in_g)

  same-cell : (f g : SaidCell) → IsCellOf c f → IsCellOf c g → place_of f ≡ place_of g → f.cell ≡ g.cell
  same-cell f g a b e =
      let starts : f.cell.span.start ≡ g.cell.span.start = ap (λ (p : Point). p.time) e in
      let here : IsIn g.cell.span f.cell.span.start = subst (λ t. IsIn g.cell.span t) (sym starts) (own g b) in
      meets f g a b (ap (λ (p : Point). p.signal) e) f.cell.span.start (own f a) here

  module _ (cells : List SaidCell) (index : Point → Option Cell) (i : IsCellIndex c cells index) (p : Point) where
    stands-right : (k : Point) (cell : Cell) → StandsAt cells k cell → k.signal ≡ p.signal → IsIn cell.span p.time → (cell ≡ cell_at c p) × IsFound cells p
    stands-right k cell s same inside =
        let is = is-cell c cells i.right i.within s.of s.known in
        let here : IsIn s.of.cell.span p.time = subst (λ (x : Cell). IsIn x.span p.time) (sym s.cell_is) inside in
        let signal : s.of.point.signal ≡ p.signal = ap (λ (x : Point). x.signal) s.place ∙ same in
        let at : ℕ → Cell = λ x. cell_at c (record { signal = x; time = p.time }) in
        (sym s.cell_is ∙ steady s.of is p.time here ∙ ap at signal, (s.of, s.known, record { signal = signal; time = here }))

    -- the cell that stands at a place of the signal and has the time
    pub found-right : (k : Point) (cell : Cell) → index k ≡ Some cell → k.signal ≡ p.signal → IsIn cell.span p.time → cell ≡ cell_at c p
    found-right k cell e same inside = (stands-right k cell (i.only k cell e) same inside).0

    pub found-some : (k : Point) (cell : Cell) → index k ≡ Some cell → k.signal ≡ p.signal → IsIn cell.span p.time → IsFound cells p
    found-some k cell e same inside = (stands-right k cell (i.only k cell e) same inside).1

    -- a cell that covers the point stands at or before it
    stands-before : (f : SaidCell) → Covers f p → is_gt (point_cmp (place_of f) p) ≡ false
    stands-before f h = not-behind (place_of f) p h.signal h.time.low

    stands : (f : SaidCell) → Contains cells f → index (place_of f) ≡ Some f.cell
    stands f known = All-contains (λ f. index (place_of f) ≡ Some f.cell) cells f i.has known

    -- none is found where nothing stands at or before the point
    pub none-before : ((q : Point) → is_gt (point_cmp q p) ≡ false → index q ≡ None) → IsFound cells p → ⊥
    none-before none h =
        let a = stands h.0 h.1 in
        let b = none (place_of h.0) (stands-before h.0 h.2) in
        cc (a, b)

    -- nor where the last cell that stands there does not cover it
    pub none-last : (k : Point) (cell : Cell) → index k ≡ Some cell → is_gt (point_cmp k p) ≡ false
        → ((q : Point) → is_gt (point_cmp q p) ≡ false → IsSome (index q) → is_lt (point_cmp k q) ≡ false)
        → (k.signal ≡ p.signal → IsIn cell.span p.time → ⊥) → IsFound cells p → ⊥
    none-last k cell e up last other h =
        let f = h.0 in
        let a : index (place_of f) ≡ Some f.cell = stands f h.1 in
        let some : IsSome (index (place_of f)) = subst IsSome (sym a) refl in
        let b = between (place_of f) k p up (last (place_of f) (stands-before f h.2) some) h.2.signal in
        let s = i.only k cell e in
        let g = s.of in
        let first : g.cell.span.start ≡ k.time = ap (λ (x : Point). x.time) s.place in
        let in_g : IsIn g.cell.span k.time = subst (λ t. IsIn g.cell.span t) first (own g (is-cell c cells i.right i.within g s.known)) in
        let in_f : IsIn f.cell.span k.time = record { low = b.low_time; high = omega (arith, b.high_time, h.2.time.high) } in
        let signal : f.point.signal ≡ g.point.signal = h.2.signal ∙ sym b.signal ∙ sym (ap (λ (x : Point). x.signal) s.place) in
        let same : f.cell ≡ g.cell = meets f g (is-cell c cells i.right i.within f h.1) (is-cell c cells i.right i.within g s.known) signal k.time in_f in_g in
        other b.signal (subst (λ (x : Cell). IsIn x.span p.time) (same ∙ s.cell_is) h.2.time)

  -- one cell more
  module _ (cells : List SaidCell) (before after : Point → Option Cell) (i : IsCellIndex c cells before) (point : Point) (cell : Cell) (right : cell ≡ cell_at c point) (within : point.time ≤ c.horizon) (place : Point) (place-is : place ≡ record { signal = point.signal; time = cell.span.start })
      (updates : (q : Point) → after q ≡ cond (is_eq (point_cmp place q)) (Some cell) (before q)) where
    abbrev pub new : SaidCell
    new = record { point = point; cell = cell }

    new-is : IsCellOf c new
    new-is = record { right = right; within = within }

    at-place : (q : Point) → place ≡ q → after q ≡ Some cell
    at-place q e = updates q ∙ ap (λ b. cond b (Some cell) (before q)) (subst (λ x. is_eq (point_cmp place x) ≡ true) e (itself place))

    has-old : (f : SaidCell) → Contains cells f → after (place_of f) ≡ Some f.cell
    has-old f known = elim (cases_Bool (is_eq (point_cmp place (place_of f)))) [
      | inl t ↦
          let e : place ≡ place_of f = same-place place (place_of f) t in
          let same : cell ≡ f.cell = same-cell new f new-is (is-cell c cells i.right i.within f known) (sym place-is ∙ e) in
          at-place (place_of f) e ∙ ap Some same
      | inr n ↦ updates (place_of f) ∙ ap (λ b. cond b (Some cell) (before (place_of f))) n ∙ All-contains (λ f. before (place_of f) ≡ Some f.cell) cells f i.has known
    ]

    only-these : (k : Point) (x : Cell) → after k ≡ Some x → StandsAt (cells ++ new ∷ []) k x
    only-these k x h = elim (cases_Bool (is_eq (point_cmp place k))) [
      | inl t ↦
          let e : place ≡ k = same-place place k t in
          let is : Some cell ≡ Some x = sym (at-place k e) ∙ h in
          record { of = new; known = Contains-push cells new; cell_is = cc; place = sym place-is ∙ e }
      | inr n ↦
          let e : before k ≡ Some x = sym (updates k ∙ ap (λ b. cond b (Some cell) (before k)) n) ∙ h in
          let s = i.only k x e in
          record { of = s.of; known = Contains-append_left cells (new ∷ []) s.of s.known; cell_is = s.cell_is; place = s.place }
    ]

    pub index-more : IsCellIndex c (cells ++ new ∷ []) after
    index-more = record {
      right = All-push (λ f. f.cell ≡ cell_at c f.point) cells new i.right right;
      within = All-push (λ f. f.point.time ≤ c.horizon) cells new i.within within;
      has = All-push (λ f. after (place_of f) ≡ Some f.cell) cells new
          (All-weaker (Contains cells) (λ f. after (place_of f) ≡ Some f.cell) has-old cells (All-contains_itself cells))
          (at-place (place_of new) place-is);
      only = only-these;
    }

-- before anything is said
pub index-none : (c : Circuit) (index : Point → Option Cell) → ((q : Point) → index q ≡ None) → IsCellIndex c [] index
index-none c index none = record {
  right = All-nil (λ f. f.cell ≡ cell_at c f.point);
  within = All-nil (λ f. f.point.time ≤ c.horizon);
  has = All-nil (λ f. index (place_of f) ≡ Some f.cell);
  only = λ k cell h. absurd (cc (h, none k));
}

-- what entries say, and what is found among that
module _ (p : Point) where
  covers-from : (x : Point) (cell : Cell) → covers p (cell_for x cell) ≡ true → Covers (record { point = x; cell = cell }) p
  covers-from x cell h =
      let k = and_parts (nat_eq x.signal p.signal && nat_le cell.span.start p.time) (nat_lt p.time cell.span.stop) h in
      let l = and_parts (nat_eq x.signal p.signal) (nat_le cell.span.start p.time) k.0 in
      record { signal = eqb-true x.signal p.signal l.0; time = record { low = leb-true cell.span.start p.time l.1; high = ltb-true p.time cell.span.stop k.1 } }

  covers-to : (x : Point) (cell : Cell) → Covers (record { point = x; cell = cell }) p → covers p (cell_for x cell) ≡ true
  covers-to x cell h = and_from _ _ (and_from _ _ (eq-eqb x.signal p.signal h.signal) (le-leb _ _ h.time.low)) (lt-ltb _ _ h.time.high)

  push : (f : SaidCell) (cells : List SaidCell) → IsFound cells p → IsFound (f ∷ cells) p
  push f cells h = (h.0, (suc h.1.0, (let l = h.1.1 in omega arith), h.1.2), h.2)

  found-by : (e : Entry) (es : List Entry) → Says p e → IsFound (cells_said (e ∷ es)) p
  found-by (Told q x cell) es h = (record { point = x; cell = cell }, (0, omega arith, refl), covers-from x cell h)
  found-by (Claimed q x) es h = absurd h
  found-by (Filled q x cell) es h = (record { point = x; cell = cell }, (0, omega arith, refl), covers-from x cell h)
  found-by (Evicted s t) es h = absurd h
  found-by (Dropped q x) es h = absurd h
  found-by (Spent q x n) es h = absurd h

  found-behind : (e : Entry) (es : List Entry) → IsFound (cells_said es) p → IsFound (cells_said (e ∷ es)) p
  found-behind (Told q x cell) es h = push (record { point = x; cell = cell }) (cells_said es) h
  found-behind (Claimed q x) es h = h
  found-behind (Filled q x cell) es h = push (record { point = x; cell = cell }) (cells_said es) h
  found-behind (Evicted s t) es h = h
  found-behind (Dropped q x) es h = h
  found-behind (Spent q x n) es h = h

  pub said-found : (es : List Entry) → IsSaid es p → IsFound (cells_said es) p
  said-found [] (e, (k, l, same), h) = absurd (omega arith)
  said-found (x ∷ es) (e, (zero, l, same), h) = found-by x es (subst (Says p) (sym same) h)
  said-found (x ∷ es) (e, (suc k, l, same), h) = found-behind x es (said-found es (e, (k, omega arith, same), h))

  later : (e : Entry) (es : List Entry) → IsSaid es p → IsSaid (e ∷ es) p
  later e es h = (h.0, (suc h.1.0, (let l = h.1.1 in omega arith), h.1.2), h.2)

  first : (e : Entry) (es : List Entry) (x : Point) (cell : Cell) → (covers p (cell_for x cell) ≡ true → Says p e) → (IsFound (cells_said es) p → IsSaid es p) → IsFound (record { point = x; cell = cell } ∷ cells_said es) p → IsSaid (e ∷ es) p
  first e es x cell says more (f, (zero, l, same), h) = (e, (0, omega arith, refl), says (covers-to x cell (subst (λ z. Covers z p) (sym same) h)))
  first e es x cell says more (f, (suc k, l, same), h) = later e es (more (f, (k, omega arith, same), h))

  pub found-said : (es : List Entry) → IsFound (cells_said es) p → IsSaid es p
  found-said [] (f, (k, l, same), h) = absurd (omega arith)
  found-said (Told q x cell ∷ es) h = first (Told q x cell) es x cell (λ k. k) (found-said es) h
  found-said (Claimed q x ∷ es) h = later (Claimed q x) es (found-said es h)
  found-said (Filled q x cell ∷ es) h = first (Filled q x cell) es x cell (λ k. k) (found-said es) h
  found-said (Evicted s t ∷ es) h = later (Evicted s t) es (found-said es h)
  found-said (Dropped q x ∷ es) h = later (Dropped q x) es (found-said es h)
  found-said (Spent q x n ∷ es) h = later (Spent q x n) es (found-said es h)

-- what right entries say is right
module _ (c : Circuit) where
  abbrev IsRightCell : SaidCell → Type 0
  IsRightCell f = (f.point.time ≤ c.horizon) × (f.cell ≡ cell_at c f.point)

  said-each : (es : List Entry) → Each (IsRightEntry c) es → Each IsRightCell (cells_said es)
  said-each [] h = tt
  said-each (Told q x cell ∷ es) h = (h.0, said-each es h.1)
  said-each (Claimed q x ∷ es) h = said-each es h.1
  said-each (Filled q x cell ∷ es) h = (h.0, said-each es h.1)
  said-each (Evicted s t ∷ es) h = said-each es h.1
  said-each (Dropped q x ∷ es) h = said-each es h.1
  said-each (Spent q x n ∷ es) h = said-each es h.1

  pub said-right : (es : List Entry) → Each (IsRightEntry c) es → All (λ f. f.cell ≡ cell_at c f.point) (cells_said es)
  said-right es h = All-from_recursion (λ f. f.cell ≡ cell_at c f.point) (cells_said es) (each-imply IsRightCell (λ f. f.cell ≡ cell_at c f.point) (λ f k. k.1) (cells_said es) (said-each es h))

  pub said-within : (es : List Entry) → Each (IsRightEntry c) es → All (λ f. f.point.time ≤ c.horizon) (cells_said es)
  said-within es h = All-from_recursion (λ (f : SaidCell). f.point.time ≤ c.horizon) (cells_said es) (each-imply IsRightCell (λ (f : SaidCell). f.point.time ≤ c.horizon) (λ f k. k.0) (cells_said es) (said-each es h))

-- after more entries stands what they say
pub said-append : (es more : List Entry) → cells_said (es ++ more) ≡ cells_said es ++ cells_said more
said-append es more = filter_map-append cell_said es more

-- what the journals of all shards say, one of them says
module _ (p : Point) where
  pub said-left : (xs ys : List Entry) → IsSaid xs p → IsSaid (xs ++ ys) p
  said-left xs ys h = (h.0, Contains-append_left xs ys h.0 h.1, h.2)

  pub said-right_of : (xs ys : List Entry) → IsSaid ys p → IsSaid (xs ++ ys) p
  said-right_of xs ys h = (h.0, Contains-append_right xs ys h.0 h.1, h.2)

  pub said-cases : (xs ys : List Entry) → IsSaid (xs ++ ys) p → IsSaid xs p ⊎ IsSaid ys p
  said-cases xs ys h = elim (Contains-append_cases xs ys h.0 h.1) [ inl l ↦ inl (h.0, l, h.2) | inr l ↦ inr (h.0, l, h.2) ]

  pub said-in : (lists : List (List Entry)) (k : ℕ) → IsSaid (get_or lists k []) p → IsSaid (of_batch lists) p
  said-in [] k h = h
  said-in (es ∷ rest) zero h = said-left es (of_batch rest) h
  said-in (es ∷ rest) (suc k) h = said-right_of es (of_batch rest) (said-in rest k h)

  pub said-from : (lists : List (List Entry)) → IsSaid (of_batch lists) p → (k : ℕ) × (k < length lists) × IsSaid (get_or lists k []) p
  said-from [] h = absurd (let l = h.1.1 in omega arith)
  said-from (es ∷ rest) h = elim (said-cases es (of_batch rest) h) [
    | inl l ↦ (0, omega arith, l)
    | inr l ↦ let m = said-from rest l in (suc m.0, (let n = m.1 in omega arith), m.2)
  ]
