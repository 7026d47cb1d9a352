-- A point is evaluated at most once more than its cell is evicted.
use Rattle.std.proofs.Common.{◌≡◌, ℕ, ◌+◌, ◌≤◌, Bool, true, false, cond, List, [], ◌∷◌, length, filter, None, refl, sym, ap, subst, arith, inl, inr, eq-eqb}
use Rattle.std.proofs.lemmas.Bool.{cases_Bool, cases_lt, and_from}
use Rattle.valid_intervals.specs.declared.Point.{Point}
use Rattle.valid_intervals.specs.declared.Cell.{Cell}
use Rattle.valid_intervals.specs.declared.SignalCell.{SignalCell}
use Rattle.valid_intervals.specs.Cells.{same_point, cell_for}
use Rattle.circuit_meaning.specs.Circuit.{IsCircuit}
use Rattle.journal_meaning.specs.declared.Entry.{Entry}
use Rattle.journal_meaning.specs.declared.Entry.TheVariants.{Told, Claimed, Filled, Evicted, Dropped, Spent}
use Rattle.journal_meaning.specs.States.{State, fresh, holder}
use Rattle.journal_meaning.specs.Table.{Needs, after}
use Rattle.journal_meaning.specs.Batches.{Batch}
use Rattle.journal_meaning.specs.Allowed.{IsAllowed}
use Rattle.circuit_meaning.specs.Cells.{cell_at}
use Rattle.journal_meaning.specs.Replay.{IsLegal}
use Rattle.journal_meaning.specs.Counts.{is_fill_at, fills_at, is_eviction_of, evictions_of}
use Rattle.valid_intervals.proofs.Callers.{same_point-true, same_point-itself}
use Rattle.journal_meaning.proofs.Lists.{Stands, Here, test-false}
use Rattle.journal_meaning.proofs.Claims.{Quiet, quiet, still_unclaimed, holder-without, own-covers}
use Rattle.journal_meaning.proofs.BetweenFills.{Evicts, stays}

abbrev one : Bool → ℕ
one true = 1
one false = 0

one-few : (t : Bool) → one t ≤ 1
one-few true = omega arith
one-few false = omega arith

length-cons : (test : Entry → Bool) (e : Entry) (es : List Entry) → length (filter test (e ∷ es)) ≡ one (test e) + length (filter test es)
length-cons test e es = elim (test e) as (λ t. length (cond t (e ∷ filter test es) (filter test es)) ≡ one t + length (filter test es)) [
  | true ↦ omega arith
  | false ↦ omega arith
]

quiet-fills : (p : Point) (e : Entry) → Quiet p e → is_fill_at p e ≡ false
quiet-fills p (Filled q r x) h = test-false same_point same_point-true same_point-itself p r (λ k. h (sym k))
quiet-fills p (Told q r x) h = refl
quiet-fills p (Claimed q r) h = refl
quiet-fills p (Evicted signal start) h = refl
quiet-fills p (Dropped q r) h = refl
quiet-fills p (Spent q r held) h = refl

module _ (b : Batch) (ok : IsCircuit b.circuit) (shard : ℕ) (p : Point) where
  abbrev start : ℕ
  start = (cell_at b.circuit p).span.start

  -- the point is evaluated, and its cell is stored
  record Settled (s : State) : Type 0 where
    inside : p.time ≤ b.circuit.horizon
    stands : Stands (cell_for p (cell_at b.circuit p)) s.cells
    unclaimed : holder s.claims p ≡ None

  -- after so many evaluations of the point and evictions of its cell
  record Counted (s : State) (fills evictions : ℕ) : Type 0 where
    few : fills ≤ evictions + 1
    settled : evictions + 1 ≤ fills → Settled s

  filled-settled : (s : State) (q : ℕ) (r : Point) (x : Cell) → p ≡ r → IsAllowed b shard (Filled q r x) → Settled (after s (Filled q r x))
  filled-settled s q r x e a = subst (λ z. IsAllowed b shard (Filled q z x) → Settled (after s (Filled q z x))) e (λ k. record {
    inside = k.0.1;
    stands = subst (λ y. Stands (cell_for p y) (after s (Filled q p x)).cells) k.2 Here;
    unclaimed = holder-without s.claims p;
  }) a

  -- where the point was evaluated no more often than its cell was evicted, only its evaluation settles it
  settles : (s : State) (e : Entry) (fills evictions : ℕ) → fills ≤ evictions → IsAllowed b shard e → evictions + 1 ≤ fills + one (is_fill_at p e) → Settled (after s e)
  settles s (Filled q r x) fills evictions l a h = elim (cases_Bool (same_point p r)) [
    | inl y ↦ filled-settled s q r x (same_point-true p r y) a
    | inr n ↦ let k = ap one n in absurd (omega (arith, l, h, k))
  ]
  settles s (Told q r x) fills evictions l a h = absurd (omega (arith, l, h))
  settles s (Claimed q r) fills evictions l a h = absurd (omega (arith, l, h))
  settles s (Evicted signal t) fills evictions l a h = absurd (omega (arith, l, h))
  settles s (Dropped q r) fills evictions l a h = absurd (omega (arith, l, h))
  settles s (Spent q r held) fills evictions l a h = absurd (omega (arith, l, h))

  evicted-counts : (e : Entry) → Evicts p (cell_at b.circuit p) e → is_eviction_of p.signal start e ≡ true
  evicted-counts e h = subst (λ z. is_eviction_of p.signal start z ≡ true) (sym h) (and_from _ _ (eq-eqb p.signal p.signal refl) (eq-eqb start start refl))

  settled-step : (s : State) (e : Entry) (fills evictions : ℕ) → fills ≤ evictions + 1 → Settled s → Needs b.capacity s e → Counted (after s e) (fills + one (is_fill_at p e)) (evictions + one (is_eviction_of p.signal start e))
  settled-step s e fills evictions l k n =
      let x = cell_at b.circuit p in
      let cov = own-covers b.circuit ok p k.inside in
      let still : Quiet p e = quiet p (cell_for p x) cov b.capacity s k.unclaimed (λ _. k.stands) e n in
      let f : one (is_fill_at p e) ≡ 0 = ap one (quiet-fills p e still) in
      elim (stays p x cov b.capacity s k.stands e n) [
        | inl h ↦ let o : one (is_eviction_of p.signal start e) ≡ 1 = ap one (evicted-counts e h) in record {
          few = omega (arith, l, f, o);
          settled = λ m. absurd (omega (arith, l, f, o, m));
        }
        | inr st ↦ record {
          few = omega (arith, l, f);
          settled = λ m. record { inside = k.inside; stands = st; unclaimed = still_unclaimed p (cell_for p x) cov b.capacity s k.unclaimed e still };
        }
      ]

  step : (s : State) (e : Entry) (fills evictions : ℕ) → Counted s fills evictions → Needs b.capacity s e → IsAllowed b shard e → Counted (after s e) (fills + one (is_fill_at p e)) (evictions + one (is_eviction_of p.signal start e))
  step s e fills evictions k n a = elim (cases_lt evictions fills) [
    | inl l ↦ settled-step s e fills evictions k.few (k.settled (omega (arith, l))) n
    | inr l ↦ let o = one-few (is_fill_at p e) in record {
      few = omega (arith, l, o);
      settled = λ m. settles s e fills evictions l a (omega (arith, m));
    }
  ]

  counted : (es : List Entry) (s : State) (fills evictions : ℕ) → Counted s fills evictions → IsLegal b shard s es → fills + fills_at es p ≤ evictions + evictions_of es p.signal start + 1
  counted [] s fills evictions k l = let f = k.few in omega (arith, f)
  counted (e ∷ es) s fills evictions k l =
      let f = length-cons (is_fill_at p) e es in
      let o = length-cons (is_eviction_of p.signal start) e es in
      let more = counted es (after s e) (fills + one (is_fill_at p e)) (evictions + one (is_eviction_of p.signal start e)) (step s e fills evictions k l.0 l.1) l.2 in
      omega (arith, f, o, more)

  pub one-fill-per_eviction : (cells : List SignalCell) (es : List Entry) → IsLegal b shard (fresh cells) es → fills_at es p ≤ evictions_of es p.signal start + 1
  one-fill-per_eviction cells es l = let k = counted es (fresh cells) 0 0 (record { few = omega arith; settled = λ m. absurd (omega (arith, m)) }) l in omega (arith, k)
