-- Times that entries cover, from cell to cell, and queries that are closed so.
use Rattle.std.proofs.Common.{◌≡◌, ℕ, ◌+◌, ◌<◌, ◌≤◌, ◌&&◌, nat_eq, nat_le, nat_lt, true, List, [], ◌∷◌, map, Contains, Option, IsSome, sym, ap, subst, ◌∙◌, arith, inl, inr, eqb-true, leb-true, le-leb, lt-ltb}
use Rattle.std.proofs.lemmas.Bool.{cases_lt, and_parts, and_from, ltb-true}
use Rattle.valid_intervals.specs.declared.Cell.{Cell}
use Rattle.valid_intervals.specs.declared.Point.{Point}
use Rattle.valid_intervals.specs.Spans.{Span, IsIn}
use Rattle.valid_intervals.specs.Cells.{covers, cell_for}
use Rattle.circuit_meaning.specs.Circuit.{Circuit, Driver, Input, Gate, Flop, driver, IsCircuit}
use Rattle.circuit_meaning.specs.Cells.{span, span_from, pin_span, looked_pins, least_delay, cell_at}
use Rattle.circuit_meaning.specs.Laws.{look, Edge}
use Rattle.circuit_meaning.specs.declared.Window.{Window}
use Rattle.circuit_meaning.specs.Need.{HasChildren, IsEvaluable, IsRoot, First, Piece, Next, children}
use Rattle.circuit_meaning.proofs.Callers.{cell-covers, span_is, cell-steady, gate_span-early}
use Rattle.journal_meaning.specs.declared.batch.Query.{Query}
use Rattle.journal_meaning.specs.declared.Entry.{Entry}
use Rattle.journal_meaning.specs.declared.Entry.TheVariants.{Told, Claimed, Filled, Evicted, Dropped, Spent}
use Rattle.journal_meaning.specs.States.{State}
use Rattle.journal_meaning.specs.Table.{after}
use Rattle.journal_meaning.specs.Batches.{Batch, window_of}
use Rattle.journal_meaning.specs.Allowed.{IsAllowed}
use Rattle.journal_meaning.specs.Replay.{IsLegal}
use Rattle.journal_meaning.specs.Answers.{Says, IsCovered, ChildrenCovered, IsClosed}
use Rattle.journal_meaning.specs.Grown.{GrowsBy}
use Rattle.journal_meaning.specs.Listed.{IsRightEntry, AreTimesCovered}
use Rattle.journal_meaning.proofs.Lists.{Each}
use Rattle.journal_meaning.proofs.Grown.{covered-kept}

-- the cells that legal entries say are right
right-entry : (b : Batch) (k : ℕ) (e : Entry) → IsAllowed b k e → IsRightEntry b.circuit e
right-entry b k (Told q p x) h = (h.0.1, h.2)
right-entry b k (Claimed q p) h = tt
right-entry b k (Filled q p x) h = (h.0.1, h.2)
right-entry b k (Evicted signal start) h = tt
right-entry b k (Dropped q p) h = tt
right-entry b k (Spent q p held) h = tt

pub right-entries : (b : Batch) (k : ℕ) (s : State) (es : List Entry) → IsLegal b k s es → Each (IsRightEntry b.circuit) es
right-entries b k s [] h = tt
right-entries b k s (e ∷ es) h = (right-entry b k e h.1, right-entries b k (after s e) es h.2)

same-edge : (a b : Option ℕ) → Edge a ≡ Edge b → IsSome a → IsSome b
same-edge a b e h = let same : a ≡ b = cc in subst IsSome same h

module _ (c : Circuit) (ok : IsCircuit c) where
  -- where a time of a cell has sources, each time of the cell has
  sources-back : (t u : ℕ) (d : Driver) → IsIn (span_from c (span c) t d) u → look c u d ≡ look c t d → HasChildren u d → HasChildren t d
  sources-back t u (Input settings) inside same h = absurd h
  sources-back t u (Gate kind pins) inside same h = elim (cases_lt t (least_delay pins)) [
    | inl l ↦
        let early = gate_span-early (c.horizon + 1) t (least_delay pins) (map (pin_span (span c) t) (looked_pins c t kind pins)) l in
        let here = subst (λ (x : Span). IsIn x u) early inside in
        absurd (omega (arith, here.high))
    | inr l ↦ l
  ]
  sources-back t u (Flop f) inside same h = same-edge _ _ same h

  evaluable-back : (s t u : ℕ) → IsIn (span c s t) u → IsEvaluable c s u → IsEvaluable c s t
  evaluable-back s t u inside h =
      sources-back t u (driver c s) (subst (λ (x : Span). IsIn x u) (span_is c ok s t) inside) (cell-steady c ok t s u inside).look h

  module _ (s t u : ℕ) (inside : IsIn (span c s t) u) where
    abbrev at : ℕ → Point
    at v = record { signal = s; time = v }

    -- a right cell that covers a time of a cell covers each
    moves : (p : Point) (x : Cell) → p.time ≤ c.horizon → x ≡ cell_at c p → covers (at t) (cell_for p x) ≡ true → covers (at u) (cell_for p x) ≡ true
    moves p x low right h =
        let k = and_parts (nat_eq p.signal s && nat_le x.span.start t) (nat_lt t x.span.stop) h in
        let l = and_parts (nat_eq p.signal s) (nat_le x.span.start t) k.0 in
        let signal : p.signal ≡ s = eqb-true p.signal s l.0 in
        let spans : x.span ≡ span c s p.time = ap (λ (z : Cell). z.span) right ∙ ap (λ y. span c y p.time) signal in
        let here : IsIn x.span t = record { low = leb-true x.span.start t l.1; high = ltb-true t x.span.stop k.1 } in
        let at_t : IsIn (span c s p.time) t = subst (λ (y : Span). IsIn y t) spans here in
        let same : span c s t ≡ x.span = (cell-steady c ok p.time s t at_t).span ∙ sym spans in
        let there : IsIn x.span u = subst (λ (y : Span). IsIn y u) same inside in
        and_from _ _ (and_from _ _ l.0 (le-leb _ _ there.low)) (lt-ltb _ _ there.high)

    says-moves : (e : Entry) → IsRightEntry c e → Says (at t) e → Says (at u) e
    says-moves (Told q p x) r h = moves p x r.0 r.1 h
    says-moves (Claimed q p) r h = h
    says-moves (Filled q p x) r h = moves p x r.0 r.1 h
    says-moves (Evicted signal start) r h = h
    says-moves (Dropped q p) r h = h
    says-moves (Spent q p held) r h = h

    pub covered-cell : (es : List Entry) → ((e : Entry) → Contains es e → IsRightEntry c e) → IsCovered c es (at t) → IsCovered c es (at u)
    covered-cell es right (inl h) = inl (λ e. h (evaluable-back s t u inside e))
    covered-cell es right (inr h) = inr (h.0, h.1, says-moves h.0 (right h.0 h.1) h.2)

  -- the times of one cell more are covered
  pub times-more : (es : List Entry) → ((e : Entry) → Contains es e → IsRightEntry c e) → (s from t n : ℕ) → AreTimesCovered c es s from t → IsCovered c es (record { signal = s; time = t }) → t ≤ c.horizon → n ≡ (span c s t).stop
      → AreTimesCovered c es s from n
  times-more es right s from t n before here within stop = λ u low high. elim (cases_lt u t) [
    | inl l ↦ before u low l
    | inr l ↦
        let inside : IsIn (span c s t) t = (cell-covers c ok t s within).inside in
        covered-cell s t u (record { low = omega (arith, inside.low); high = omega arith }) es right here
  ]

  -- a root lies in its window
  pub root-within : (w : Window) (r : ℕ) → IsRoot c w r → r < w.stop
  root-within w r (First h) = h
  root-within w r (Piece n low high) = high
  root-within w r (Next {r = x} root h) = h

  pub root-since : (w : Window) → w.stop ≤ c.horizon + 1 → (r : ℕ) → IsRoot c w r → w.start ≤ r
  root-since w within r (First h) = omega arith
  root-since w within r (Piece n low high) = omega arith
  root-since w within r (Next {r = x} root h) =
      let since = root-since w within x root in
      let before = root-within w x root in
      let inside : IsIn (span c w.signal x) x = (cell-covers c ok x w.signal (omega arith)).inside in
      omega (arith, inside.high)

  -- a query whose window is covered is closed, where the children of what it evaluated are covered
  pub closed-by : (q : Query) (es : List Entry) (u : ℕ) → q.to ≤ c.horizon + 1 → AreTimesCovered c es q.signal q.from u → q.to ≤ u → ChildrenCovered c es q.number → IsClosed c es q
  closed-by q es u within covered high children = record {
    roots = λ t root.
        let since = root-since (window_of q) within t root in
        let before = root-within (window_of q) t root in
        covered t since (omega arith);
    children = children;
  }

-- covered times stay covered
pub times-kept : (c : Circuit) (old added new : List Entry) → GrowsBy old added new → (s from u : ℕ) → AreTimesCovered c old s from u → AreTimesCovered c new s from u
times-kept c old added new g s from u h = λ t low high. covered-kept old added new g c (record { signal = s; time = t }) (h t low high)
