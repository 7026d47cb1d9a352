-- What a shard needs when it records one entry more.
use Rattle.std.proofs.Common.{◌≡◌, ◌≢◌, ℕ, zero, suc, cond, ◌||◌, ◌+◌, ◌-◌, ◌≤◌, Bool, true, false, not, List, [], ◌∷◌, ◌++◌, length, take, filter, refl, sym, ap, ap₂, subst, ◌∙◌, ◌&&◌, nat_eq, nat_le, nat_lt, eqb-true, leb-true, arith, true≢false, inl, inr, length-take}
use Rattle.std.specs.List.{list_any}
use Rattle.std.proofs.lemmas.Bool.{cases_Bool, or_parts, and_parts, ltb-true}
use Rattle.gate_values.specs.declared.Value.{Value}
use Rattle.valid_intervals.specs.declared.Cell.{Cell}
use Rattle.valid_intervals.specs.declared.Point.{Point}
use Rattle.valid_intervals.specs.Spans.{Span, IsIn}
use Rattle.circuit_meaning.specs.Circuit.{Circuit, IsCircuit}
use Rattle.circuit_meaning.specs.Cells.{span, cell_at}
use Rattle.circuit_meaning.proofs.Callers.{cell-steady}
use Rattle.valid_intervals.specs.declared.SignalCell.{SignalCell}
use Rattle.journal_meaning.specs.declared.Entry.{Entry}
use Rattle.journal_meaning.specs.declared.Entry.TheVariants.{Told, Claimed, Filled, Evicted, Dropped, Spent}
use Rattle.journal_meaning.specs.States.{State}
use Rattle.valid_intervals.specs.Cells.{is_stored, same_stored, cell_for, covers, to_front}
use Rattle.journal_meaning.specs.Table.{Needs, after}
use Rattle.journal_meaning.specs.Batches.{Batch}
use Rattle.journal_meaning.specs.Allowed.{IsAllowed, IsRight}
use Rattle.journal_meaning.specs.Counts.{booked_count, is_booked}
use Rattle.journal_meaning.specs.Replay.{replay, IsLegal}
use Rattle.valid_intervals.proofs.Callers.{same_stored-true, same_stored-itself}
use Rattle.journal_meaning.proofs.Lists.{Each, Differ, each-filter, differ-front, test-false}

pub replay-more : (s : State) (es : List Entry) (e : Entry) → replay s (es ++ e ∷ []) ≡ after (replay s es) e
replay-more s [] e = refl
replay-more s (x ∷ es) e = replay-more (after s x) es e

pub legal-more : (b : Batch) (shard : ℕ) (s : State) (es : List Entry) (e : Entry) → IsLegal b shard s es → Needs b.capacity (replay s es) e → IsAllowed b shard e → IsLegal b shard s (es ++ e ∷ [])
legal-more b shard s [] e l n a = (n, a, tt)
legal-more b shard s (x ∷ es) e l n a = (l.0, l.1, legal-more b shard (after s x) es e l.2 n a)

-- a cell that is not stored comes to the front of all
pub front-new : (x : SignalCell) (cells : List SignalCell) → list_any (same_stored x) cells ≡ false → filter (λ y. not (same_stored x y)) cells ≡ cells
front-new x [] h = refl
front-new x (y ∷ cells) h =
    let k = or_parts (same_stored x y) (list_any (same_stored x) cells) h in
    rw k.0 (ap (λ l. y ∷ l) (front-new x cells k.1))

none-same : (x : SignalCell) (cells : List SignalCell) → Each (λ y. x ≢ y) cells → filter (λ y. not (same_stored x y)) cells ≡ cells
none-same x [] h = refl
none-same x (y ∷ cells) h = rw (test-false same_stored same_stored-true same_stored-itself x y h.0) (ap (λ l. y ∷ l) (none-same x cells h.1))

-- among different cells one moves to the front
pub front-of : (x : SignalCell) (before behind : List SignalCell) → Differ (before ++ x ∷ behind) → filter (λ y. not (same_stored x y)) (before ++ x ∷ behind) ≡ before ++ behind
front-of x [] behind d = rw (same_stored-itself x) (none-same x behind d.0)
front-of x (y ∷ before) behind d =
    let other : y ≢ x = first y before d.0 in
    rw (test-false same_stored same_stored-true same_stored-itself x y (λ e. other (sym e))) (ap (λ l. y ∷ l) (front-of x before behind d.1))
  where
    first : (y : SignalCell) (before : List SignalCell) → Each (λ z. y ≢ z) (before ++ x ∷ behind) → y ≢ x
    first y [] h = h.0
    first y (z ∷ before) h = first y before h.1

-- stored cells stay different, and no more than fit
each-take : (P : SignalCell → Type 0) (n : ℕ) (cells : List SignalCell) → Each P cells → Each P (take n cells)
each-take P zero cells h = tt
each-take P (suc n) [] h = tt
each-take P (suc n) (x ∷ cells) h = (h.0, each-take P n cells h.1)

differ-take : (n : ℕ) (cells : List SignalCell) → Differ cells → Differ (take n cells)
differ-take zero cells d = tt
differ-take (suc n) [] d = tt
differ-take (suc n) (x ∷ cells) d = (each-take (λ y. x ≢ y) n cells d.0, differ-take n cells d.1)

pub still-different : (s : State) (e : Entry) → Differ s.cells → Differ (after s e).cells
still-different s (Told q p x) d = differ-front same_stored same_stored-true same_stored-itself (cell_for p x) s.cells d
still-different s (Filled q p x) d = differ-front same_stored same_stored-true same_stored-itself (cell_for p x) s.cells d
still-different s (Claimed q p) d = d
still-different s (Evicted signal start) d = differ-take (length s.cells - 1) s.cells d
still-different s (Dropped q p) d = d
still-different s (Spent q p held) d = d

length-filter : (test : SignalCell → Bool) (cells : List SignalCell) → length (filter test cells) ≤ length cells
length-filter test [] = omega arith
length-filter test (x ∷ cells) = elim (test x) as (λ b. length (cond b (x ∷ filter test cells) (filter test cells)) ≤ suc (length cells)) [
  | true ↦ let k = length-filter test cells in omega (arith, k)
  | false ↦ let k = length-filter test cells in omega (arith, k)
]

length-stored : (x : SignalCell) (cells : List SignalCell) → list_any (same_stored x) cells ≡ true → length (filter (λ y. not (same_stored x y)) cells) + 1 ≤ length cells
length-stored x [] h = absurd (true≢false (sym h))
length-stored x (y ∷ cells) h = elim (same_stored x y) as (λ b. (b || list_any (same_stored x) cells) ≡ true → length (cond (not b) (y ∷ filter (λ y. not (same_stored x y)) cells) (filter (λ y. not (same_stored x y)) cells)) + 1 ≤ suc (length cells)) [
  | true ↦ λ k. let m = length-filter (λ y. not (same_stored x y)) cells in omega (arith, m)
  | false ↦ λ k. let m = length-stored x cells k in omega (arith, m)
] h

pub still-fits : (capacity : ℕ) (s : State) (e : Entry) → Needs capacity s e → length s.cells ≤ capacity → length (after s e).cells ≤ capacity
still-fits capacity s (Told q p x) n l = let k = length-stored (cell_for p x) s.cells n.1 in omega (arith, k, l)
still-fits capacity s (Filled q p x) n l = elim (cases_Bool (is_stored (cell_for p x) s.cells)) [
  | inl y ↦ let k = length-stored (cell_for p x) s.cells y in omega (arith, k, l)
  | inr z ↦ let k = length-filter (λ y. not (same_stored (cell_for p x) y)) s.cells in let m = n.2 z in omega (arith, k, m)
]
still-fits capacity s (Claimed q p) n l = l
still-fits capacity s (Evicted signal start) n l = let k = length-take (length s.cells - 1) s.cells in omega (arith, k, l)
still-fits capacity s (Dropped q p) n l = l
still-fits capacity s (Spent q p held) n l = l

-- stored cells stay right
all-front : (P : SignalCell → Type 0) (x : SignalCell) (cells : List SignalCell) → P x → Each P cells → Each P (to_front x cells)
all-front P x cells h k = (h, each-filter P (λ y. not (same_stored x y)) cells k)

right-at : (c : Circuit) (p : Point) (x : Cell) → p.time ≤ c.horizon → x ≡ cell_at c p → IsRight c (cell_for p x)
right-at c p x h e = record { time = p.time; within = h; cell = e }

pub still-right : (b : Batch) (shard : ℕ) (s : State) (e : Entry) → IsAllowed b shard e → Each (IsRight b.circuit) s.cells → Each (IsRight b.circuit) (after s e).cells
still-right b shard s (Told q p x) a h = all-front (IsRight b.circuit) (cell_for p x) s.cells (right-at b.circuit p x a.0.1 a.2) h
still-right b shard s (Filled q p x) a h = all-front (IsRight b.circuit) (cell_for p x) s.cells (right-at b.circuit p x a.0.1 a.2) h
still-right b shard s (Claimed q p) a h = h
still-right b shard s (Evicted signal start) a h = each-take (IsRight b.circuit) (length s.cells - 1) s.cells h
still-right b shard s (Dropped q p) a h = h
still-right b shard s (Spent q p held) a h = h

pub all-right : (b : Batch) (shard : ℕ) (es : List Entry) (s : State) → IsLegal b shard s es → Each (IsRight b.circuit) s.cells → Each (IsRight b.circuit) (replay s es).cells
all-right b shard [] s l h = h
all-right b shard (e ∷ es) s l h = all-right b shard es (after s e) l.2 (still-right b shard s e l.1 h)

-- a right cell is that of each of its times
cell-is : (a b : Cell) → a.span ≡ b.span → a.value ≡ b.value → a ≡ b
cell-is a b e f = let at : Span → Value → Cell = λ s v. record { span = s; value = v } in ap (λ s. at s a.value) e ∙ ap (at b.span) f

pub right-within : (c : Circuit) → IsCircuit c → (x : SignalCell) → IsRight c x → (t : ℕ) → IsIn x.cell.span t → x.cell ≡ cell_at c (record { signal = x.signal; time = t })
right-within c ok x r t inside =
    let spans : x.cell.span ≡ span c x.signal r.time = ap (λ (z : Cell). z.span) r.cell in
    let same = cell-steady c ok r.time x.signal t (subst (λ z. IsIn z t) spans inside) in
    cell-is x.cell (cell_at c (record { signal = x.signal; time = t })) (spans ∙ sym same.span) (ap (λ (z : Cell). z.value) r.cell ∙ sym same.value)

pub right-answers : (c : Circuit) → IsCircuit c → (p : Point) (x : SignalCell) → IsRight c x → covers p x ≡ true → x ≡ cell_for p (cell_at c p)
right-answers c ok p x r h =
    let k = and_parts (nat_eq x.signal p.signal && nat_le x.cell.span.start p.time) (nat_lt p.time x.cell.span.stop) h in
    let l = and_parts (nat_eq x.signal p.signal) (nat_le x.cell.span.start p.time) k.0 in
    let signal : x.signal ≡ p.signal = eqb-true x.signal p.signal l.0 in
    let cell = right-within c ok x r p.time (record { low = leb-true x.cell.span.start p.time l.1; high = ltb-true p.time x.cell.span.stop k.1 }) in
    let of : ℕ → Cell → SignalCell = λ s z. record { signal = s; cell = z } in
    ap₂ of signal (cell ∙ ap (λ s. cell_at c (record { signal = s; time = p.time })) signal)

-- entries of claims and fills add up
pub booked-append : (es fs : List Entry) → booked_count (es ++ fs) ≡ booked_count es + booked_count fs
booked-append [] fs = omega arith
booked-append (e ∷ es) fs =
    let k = booked-append es fs in
    elim (is_booked e) as (λ t. length (cond t (e ∷ filter is_booked (es ++ fs)) (filter is_booked (es ++ fs))) ≡ length (cond t (e ∷ filter is_booked es) (filter is_booked es)) + booked_count fs) [
      | true ↦ omega (arith, k)
      | false ↦ k
    ]
