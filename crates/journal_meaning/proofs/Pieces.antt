-- The pieces of a query's window are lawful starts, follow one another, and share its budget.
use Rattle.std.proofs.Common.{◌≡◌, ℕ, zero, suc, ◌+◌, ◌*◌, ◌/◌, ◌%◌, ◌<◌, ◌≤◌, nat_lt, true, false, cond, List, [], ◌∷◌, length, Contains, None, refl, ap, ◌∙◌, arith, inl, inr}
use Rattle.std.specs.List.{AllByRecursion, sum_by}
use Rattle.std.proofs.lemmas.Bool.{cases_Bool, ltb-true, ltb-false}
use Rattle.std.proofs.lemmas.List.Sums.{sum_by-cons}
use Rattle.std.proofs.Math.Nat.{div-add-mod}
use Rattle.valid_intervals.specs.Spans.{Span}
use Rattle.circuit_meaning.specs.Circuit.{Circuit}
use Rattle.circuit_meaning.specs.Need.{IsRoot, First, Piece}
use Rattle.journal_meaning.specs.declared.batch.Query.{Query}
use Rattle.journal_meaning.specs.Batches.{Batch, window_of}
use Rattle.journal_meaning.specs.Pieces.{Start, IsStart, span_at, next_cut, cuts, spans_of, starts_of, pieces, IsJoined}
use Rattle.journal_meaning.specs.inner.Pieces.{IsUncut}

cut-above : (t : ℕ) → t < next_cut t
cut-above t = omega arith

cut-next : (t : ℕ) → next_cut (next_cut t) ≡ next_cut t + 65536
cut-next t = omega arith

record IsSpan (c : Circuit) (q : Query) (w : Span) : Type 0 where
  root : w.start < w.stop → IsRoot c (window_of q) w.start
  stop : w.stop ≤ q.to
  uncut : w.stop ≤ next_cut w.start

module _ (c : Circuit) (q : Query) where
  cuts-are : (n t : ℕ) → (t < q.to → IsRoot c (window_of q) t) → q.from ≤ t → q.to ≤ next_cut t + n * 65536 → AllByRecursion (IsSpan c q) (cuts n t q.to)
  cuts-are zero t root low enough = (record { root = root; stop = omega arith; uncut = omega arith }, tt)
  cuts-are (suc n) t root low enough = elim (cases_Bool (nat_lt (next_cut t) q.to)) [
    | inl k ↦
        let high = ltb-true (next_cut t) q.to k in
        let above = cut-above t in
        let again = cut-next t in
        rw k (
          record { root = λ l. root (omega arith); stop = omega arith; uncut = omega arith },
          cuts-are n (next_cut t) (λ l. Piece (t / 65536 + 1) (omega arith) high) (omega arith) (omega arith),
        )
    | inr k ↦ let high = ltb-false (next_cut t) q.to k in rw k (record { root = root; stop = omega arith; uncut = omega arith }, tt)
  ]

some-cut : (n t stop : ℕ) → 1 ≤ length (cuts n t stop)
some-cut zero t stop = omega arith
some-cut (suc n) t stop = elim (nat_lt (next_cut t) stop) as (λ k. 1 ≤ length (cond k (span_at t (next_cut t) ∷ cuts n (next_cut t) stop) (span_at t stop ∷ []))) [ true ↦ omega arith | false ↦ omega arith ]

-- each is a lawful start
module _ (b : Batch) (site : b.site ≡ None) (q : Query) (known : Contains b.queries q) where
  starts-are : (ws : List Span) (first each : ℕ) → first ≤ q.budget → each ≤ q.budget → AllByRecursion (IsSpan b.circuit q) ws → AllByRecursion (IsStart b) (starts_of q first each ws)
  starts-are [] first each l m h = tt
  starts-are (w ∷ ws) first each l m h = (
    record { known = inl (site, known); root = h.0.root; stop = h.0.stop; charge = omega arith; budget = l },
    starts-are ws each each m m h.1,
  )

  pub pieces-lawful : AllByRecursion (IsStart b) (pieces q)
  pieces-lawful =
      let m = length (spans_of q) in
      let some = some-cut (q.to / 65536 + 1) q.from q.to in
      let whole = div-add-mod q.budget m in
      let part : q.budget / m ≤ m * (q.budget / m) = times m (q.budget / m) some in
      starts-are (spans_of q) (q.budget / m + q.budget % m) (q.budget / m) (omega arith) (omega arith) (cuts-are b.circuit q (q.to / 65536 + 1) q.from (λ l. First l) (omega arith) (omega arith))
    where
      times : (m k : ℕ) → 1 ≤ m → k ≤ m * k
      times zero k l = absurd (omega arith)
      times (suc m) k l = grind arith

-- they follow one another, and none is cut again
module _ (q : Query) where
  joined : (n t stop first each : ℕ) → IsJoined t (starts_of q first each (cuts n t stop)) stop
  joined zero t stop first each = (refl, refl)
  joined (suc n) t stop first each = elim (nat_lt (next_cut t) stop) as (λ k. IsJoined t (starts_of q first each (cond k (span_at t (next_cut t) ∷ cuts n (next_cut t) stop) (span_at t stop ∷ []))) stop) [
    | true ↦ (refl, joined n (next_cut t) stop each each)
    | false ↦ (refl, refl)
  ]

  pub pieces-joined : IsJoined q.from (pieces q) q.to
  pieces-joined = let m = length (spans_of q) in joined (q.to / 65536 + 1) q.from q.to (q.budget / m + q.budget % m) (q.budget / m)

  uncut-each : (c : Circuit) (ws : List Span) (first each : ℕ) → AllByRecursion (IsSpan c q) ws → AllByRecursion IsUncut (starts_of q first each ws)
  uncut-each c [] first each h = tt
  uncut-each c (w ∷ ws) first each h = (h.0.uncut, uncut-each c ws each each h.1)

  pub pieces-uncut : (c : Circuit) → AllByRecursion IsUncut (pieces q)
  pieces-uncut c = let m = length (spans_of q) in uncut-each c (spans_of q) (q.budget / m + q.budget % m) (q.budget / m) (cuts-are c q (q.to / 65536 + 1) q.from (λ l. First l) (omega arith) (omega arith))

  -- they share the budget
  equal : (ws : List Span) (each : ℕ) → sum_by (λ (a : Start). a.budget) (starts_of q each each ws) ≡ length ws * each
  equal [] each = omega arith
  equal (w ∷ ws) each =
      let k = equal ws each in
      let u = sum_by-cons (λ (a : Start). a.budget) (record { query = q; start = w.start; stop = w.stop; budget = each; charged = 0 }) (starts_of q each each ws) in
      let m : suc (length ws) * each ≡ length ws * each + each = grind arith in
      omega arith

  shares : (ws : List Span) (first each : ℕ) → 1 ≤ length ws → sum_by (λ (a : Start). a.budget) (starts_of q (first + each) each ws) ≡ first + length ws * each
  shares [] first each l = absurd (omega arith)
  shares (w ∷ ws) first each l =
      let k = equal ws each in
      let u = sum_by-cons (λ (a : Start). a.budget) (record { query = q; start = w.start; stop = w.stop; budget = first + each; charged = 0 }) (starts_of q each each ws) in
      let m : suc (length ws) * each ≡ length ws * each + each = grind arith in
      omega arith

  pub pieces-share : sum_by (λ (a : Start). a.budget) (pieces q) ≡ q.budget
  pieces-share =
      let m = length (spans_of q) in
      let some = some-cut (q.to / 65536 + 1) q.from q.to in
      let whole = div-add-mod q.budget m in
      let turn : q.budget / m + q.budget % m ≡ q.budget % m + q.budget / m = omega arith in
      ap (λ f. sum_by (λ (a : Start). a.budget) (starts_of q f (q.budget / m) (spans_of q))) turn ∙ shares (spans_of q) (q.budget % m) (q.budget / m) some ∙ omega arith
