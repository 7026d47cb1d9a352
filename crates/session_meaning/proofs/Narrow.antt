-- The numbers of a legal section are within the limits of a text.
use Rattle.std.proofs.Common.{◌≡◌, ℕ, zero, suc, ◌-◌, ◌<◌, ◌≤◌, not, filter, List, [], ◌∷◌, length, take, All, length-set, sym, subst, arith, inl, inr, Option, Some, None}
use Rattle.std.proofs.lemmas.Bool.{cases_lt}
use Rattle.std.proofs.lemmas.List.{get_or_past}
use Rattle.std.proofs.lemmas.List.Elements.{All-contains}
use Rattle.valid_intervals.specs.declared.Cell.{Cell}
use Rattle.valid_intervals.specs.declared.Point.{Point}
use Rattle.valid_intervals.specs.declared.SignalCell.{SignalCell}
use Rattle.valid_intervals.specs.Spans.{IsSpan}
use Rattle.valid_intervals.specs.Cells.{cell_for, same_stored}
use Rattle.circuit_meaning.specs.Circuit.{Circuit, Input, IsCircuit}
use Rattle.circuit_meaning.specs.Cells.{cell_at}
use Rattle.circuit_meaning.specs.declared.Window.{Window}
use Rattle.circuit_meaning.specs.Need.{IsNeeded, Root, Child, HasChildren, IsEvaluable}
use Rattle.circuit_meaning.specs.Forced.{forced_circuit}
use Rattle.circuit_meaning.proofs.Callers.{cell-covers}
use Rattle.journal_meaning.specs.declared.batch.Query.{Query}
use Rattle.journal_meaning.specs.Batches.{Batch, Site, NeedOf, OfQuery, window_of}
use Rattle.journal_meaning.specs.declared.Entry.{Entry}
use Rattle.journal_meaning.specs.declared.Entry.TheVariants.{Told, Claimed, Filled, Evicted, Dropped, Spent}
use Rattle.journal_meaning.specs.States.{State, IsLeastRecent, fresh}
use Rattle.journal_meaning.specs.Table.{Needs, after}
use Rattle.journal_meaning.specs.Allowed.{IsAllowed}
use Rattle.journal_meaning.specs.Replay.{IsLegal, IsLegalTrim, replay}
use Rattle.journal_meaning.proofs.Callers.{Each, each-filter, each-right, Ours, ClaimsOurs, names, still_ours}
use Rattle.texts.specs.fields.Spelling.{IsNumber}
use Rattle.journal_text.specs.Written.{IsPoint, IsEntry}

-- ---- signals

-- what is evaluable is a signal
pub evaluable-low : (c : Circuit) (s t : ℕ) → IsEvaluable c s t → s < length c.drivers
evaluable-low c s t h = elim (cases_lt s (length c.drivers)) [
  | inl l ↦ l
  | inr l ↦ absurd (subst (HasChildren t) (get_or_past c.drivers s (Input []) l) h)
]

needed-low : (c : Circuit) (q : Window) (s t : ℕ) → IsNeeded c q s t → s < length c.drivers
needed-low c q s t (Root r e) = evaluable-low c q.signal _ e
needed-low c q u w (Child n k e) = evaluable-low c u w e

need-low : (c : Circuit) (site : Option Site) (q : Query) (p : Point) → NeedOf c site q p → p.signal < length c.drivers
need-low c None q p n = needed-low c (window_of q) p.signal p.time n
need-low c (Some site) q p n =
    let low = needed-low (forced_circuit c site.signal site.value) (window_of q) p.signal p.time n.0 in
    subst (λ k. p.signal < k) (length-set c.drivers site.signal (Input (record { time = 0; value = site.value } ∷ []))) low

-- ---- stored cells

-- the numbers by which a cell is told to be evicted
abbrev pub IsStored : SignalCell → Type 0
IsStored x = IsNumber x.signal × IsNumber x.cell.span.start

stored-take : (n : ℕ) (cells : List SignalCell) → Each IsStored cells → Each IsStored (take n cells)
stored-take zero cells h = tt
stored-take (suc n) [] h = tt
stored-take (suc n) (x ∷ cells) h = (h.0, stored-take n cells h.1)

last-stored : (cells : List SignalCell) (signal start : ℕ) → Each IsStored cells → IsLeastRecent cells signal start → IsNumber signal × IsNumber start
last-stored cells signal start h (x, is, of, from) =
    let k = (each-right IsStored (take (length cells - 1) cells) (x ∷ []) (subst (Each IsStored) is h)).0 in
    (subst IsNumber of k.0, subst IsNumber from k.1)

-- ---- a batch

-- the numbers of a batch are within the limits
pub record IsNarrow (b : Batch) : Type 0 where
  pub circuit : IsCircuit b.circuit
  pub horizon : b.circuit.horizon ≤ 1000000
  pub signals : length b.circuit.drivers ≤ 1048576
  pub queries : All (λ (q : Query). IsNumber q.number × IsNumber q.budget) b.queries

module _ (b : Batch) (n : IsNarrow b) (shard : ℕ) where
  of-narrow : (q : ℕ) (P : Query → Type 0) → OfQuery b q P → (y : Query) × (IsNumber y.budget) × IsNumber q × P y
  of-narrow q P of =
      let k = All-contains (λ (y : Query). IsNumber y.number × IsNumber y.budget) b.queries of.0 n.queries of.1 in
      (of.0, k.1, subst IsNumber of.2 k.0, of.3)

  ours-narrow : (q : ℕ) (p : Point) → Ours b shard q p → IsNumber q × IsPoint p
  ours-narrow q p o =
      let (y, budget, number, need) = of-narrow q _ o.1 in
      let low = need-low b.circuit b.site y p need in
      (number, (omega (arith, low, n.signals), omega (arith, o.0.1, n.horizon)))

  cell-narrow : (p : Point) (x : Cell) → p.time ≤ b.circuit.horizon → x ≡ cell_at b.circuit p → IsSpan x.span
  cell-narrow p x within is =
      let k = cell-covers b.circuit n.circuit p.time p.signal within in
      let span : IsSpan (cell_at b.circuit p).span = record { some = omega (arith, k.inside.low, k.inside.high); within = omega (arith, k.within, n.horizon) } in
      subst (λ (z : Cell). IsSpan z.span) (sym is) span

  stored-front : (p : Point) (x : Cell) (cells : List SignalCell) → IsPoint p → IsSpan x.span → Each IsStored cells → Each IsStored (cell_for p x ∷ filter (λ y. not (same_stored (cell_for p x) y)) cells)
  stored-front p x cells o span h = ((o.0, omega (arith, span.some, span.within)), each-filter IsStored (λ y. not (same_stored (cell_for p x) y)) cells h)

  entry-narrow : (s : State) (e : Entry) → ClaimsOurs b shard s → Each IsStored s.cells → Needs b.capacity s e → IsAllowed b shard e → IsEntry e
  entry-narrow s (Told q p x) h k needs a = let o = ours-narrow q p (names b shard s (Told q p x) h needs a) in (o.0, o.1, cell-narrow p x a.0.1 a.2)
  entry-narrow s (Claimed q p) h k needs a = ours-narrow q p (names b shard s (Claimed q p) h needs a)
  entry-narrow s (Filled q p x) h k needs a = let o = ours-narrow q p (names b shard s (Filled q p x) h needs a) in (o.0, o.1, cell-narrow p x a.0.1 a.2)
  entry-narrow s (Evicted signal start) h k needs a = last-stored s.cells signal start k needs.2
  entry-narrow s (Dropped q p) h k needs a = ours-narrow q p (names b shard s (Dropped q p) h needs a)
  entry-narrow s (Spent q p claims) h k needs a =
      let o = ours-narrow q p (names b shard s (Spent q p claims) h needs a) in
      let (y, budget, number, few) = of-narrow q (λ y. claims ≤ y.budget) a.2 in
      (o.0, o.1, omega (arith, budget, few))

  stored-narrow : (s : State) (e : Entry) → ClaimsOurs b shard s → Each IsStored s.cells → Needs b.capacity s e → IsAllowed b shard e → Each IsStored (after s e).cells
  stored-narrow s (Told q p x) h k needs a = stored-front p x s.cells (ours-narrow q p (names b shard s (Told q p x) h needs a)).1 (cell-narrow p x a.0.1 a.2) k
  stored-narrow s (Claimed q p) h k needs a = k
  stored-narrow s (Filled q p x) h k needs a = stored-front p x s.cells (ours-narrow q p (names b shard s (Filled q p x) h needs a)).1 (cell-narrow p x a.0.1 a.2) k
  stored-narrow s (Evicted signal start) h k needs a = stored-take (length s.cells - 1) s.cells k
  stored-narrow s (Dropped q p) h k needs a = k
  stored-narrow s (Spent q p claims) h k needs a = k

  narrow-from : (es : List Entry) (s : State) → ClaimsOurs b shard s → Each IsStored s.cells → IsLegal b shard s es → Each IsEntry es × Each IsStored (replay s es).cells
  narrow-from [] s h k legal = (tt, k)
  narrow-from (e ∷ es) s h k legal =
      let rest = narrow-from es (after s e) (still_ours b shard s e h legal.1) (stored-narrow s e h k legal.0 legal.1) legal.2 in
      ((entry-narrow s e h k legal.0 legal.1, rest.0), rest.1)

  pub batch-narrow : (es : List Entry) (cells : List SignalCell) → Each IsStored cells → IsLegal b shard (fresh cells) es → Each IsEntry es × Each IsStored (replay (fresh cells) es).cells
  batch-narrow es cells k legal = narrow-from es (fresh cells) tt k legal

-- ---- a trim

pub trim-narrow : (es : List Entry) (s : State) → Each IsStored s.cells → IsLegalTrim s es → Each IsEntry es × Each IsStored (replay s es).cells
trim-narrow [] s k legal = (tt, k)
trim-narrow (Evicted signal start ∷ es) s k legal =
    let rest = trim-narrow es (after s (Evicted signal start)) (stored-take (length s.cells - 1) s.cells k) legal.1 in
    ((last-stored s.cells signal start k legal.0, rest.0), rest.1)
trim-narrow (Told q p x ∷ es) s k legal = absurd legal.0
trim-narrow (Claimed q p ∷ es) s k legal = absurd legal.0
trim-narrow (Filled q p x ∷ es) s k legal = absurd legal.0
trim-narrow (Dropped q p ∷ es) s k legal = absurd legal.0
trim-narrow (Spent q p claims ∷ es) s k legal = absurd legal.0
