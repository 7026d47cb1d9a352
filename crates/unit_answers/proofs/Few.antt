-- A batch within its limits has few pieces.
use Rattle.std.proofs.Common.{◌≡◌, ℕ, zero, suc, ◌+◌, ◌-◌, ◌*◌, ◌/◌, ◌%◌, ◌<◌, ◌≤◌, Bool, ◌&&◌, nat_lt, nat_le, true, false, cond, List, [], ◌∷◌, ◌++◌, length, flat_map, Option, Some, None, option_map, refl, ap, ◌∙◌, arith, inl, inr, length-append, append-nil}
use Rattle.std.proofs.lemmas.Bool.{cases_Bool, ltb-true, ltb-false}
use Rattle.std.proofs.lemmas.List.Concat.{flat_map-append}
use Rattle.std.proofs.lemmas.List.Sums.{sum_by-cons}
use Rattle.valid_intervals.specs.Spans.{Span}
use Rattle.journal_meaning.specs.declared.batch.Query.{Query}
use Rattle.journal_meaning.specs.Pieces.{next_cut, cuts, spans_of, starts_of, pieces}
use Rattle.query_lines.specs.declared.line.What.{What}
use Rattle.query_lines.specs.declared.line.What.TheVariants as whats
use Rattle.query_lines.specs.declared.unit.Item.{Item}
use Rattle.query_lines.specs.declared.line.Window.{Window}
use Rattle.query_lines.specs.Units.{asked_window, window_length, length_weight, lengths}
use Rattle.query_lines.specs.Laws.{IsWithin}
use Rattle.design.specs.Joined.{Joined}
use Rattle.design.specs.Join.{number}
use Rattle.session_meaning.specs.declared.Verdict.TheVariants.{Ask, Past}
use Rattle.session_meaning.specs.Verdicts.{window_verdict, verdict, verdict_of, asked_queries, item_queries, queries_of}

-- from a cut on there is one piece for each 65,536 times that are left, and one more
few-from : (n k t stop : ℕ) → t ≡ k * 65536 → length (cuts n t stop) * 65536 ≤ (stop - t) + 65536
few-from zero k t stop e = omega arith
few-from (suc n) k t stop e = elim (cases_Bool (nat_lt (next_cut t) stop)) [
  | inl l ↦
      let high = ltb-true (next_cut t) stop l in
      let next : next_cut t ≡ (k + 1) * 65536 = omega arith in
      let rest = few-from n (k + 1) (next_cut t) stop next in
      rw l (omega arith)
  | inr l ↦ rw l (omega arith)
]

few-cuts : (n t stop : ℕ) → length (cuts n t stop) * 65536 ≤ (stop - t) + 131072
few-cuts zero t stop = omega arith
few-cuts (suc n) t stop = elim (cases_Bool (nat_lt (next_cut t) stop)) [
  | inl l ↦
      let high = ltb-true (next_cut t) stop l in
      let rest = few-from n (t / 65536 + 1) (next_cut t) stop refl in
      let above : t < next_cut t = omega arith in
      rw l (omega arith)
  | inr l ↦ rw l (omega arith)
]

starts-many : (q : Query) (first each : ℕ) (ws : List Span) → length (starts_of q first each ws) ≡ length ws
starts-many q first each [] = refl
starts-many q first each (w ∷ ws) = ap suc (starts-many q each each ws)

-- a window has few pieces
few-pieces : (q : Query) → length (pieces q) * 65536 ≤ (q.to - q.from) + 131072
few-pieces q =
    let m = length (spans_of q) in
    let many = starts-many q (q.budget / m + q.budget % m) (q.budget / m) (spans_of q) in
    let few = few-cuts (q.to / 65536 + 1) q.from q.to in
    omega arith

few-window : (q : Query) (b : Bool) → nat_lt q.from q.to ≡ b → length (pieces q ++ []) * 65536 ≤ cond (b && true) (q.to - q.from) 0 + 131072
few-window q true e = let few = few-pieces q in let same = ap length (append-nil (pieces q)) in omega arith
few-window q false e =
    let few = few-pieces q in let same = ap length (append-nil (pieces q)) in let low = ltb-false q.from q.to e in omega arith

few-asked : (horizon line : ℕ) (window : Window) (signal : Option ℕ) → length (flat_map pieces (asked_queries (window_verdict horizon line window signal))) * 65536 ≤ window_length horizon window + 131072
few-asked horizon line window None = omega arith
few-asked horizon line window (Some s) =
    let q : Query = record { number = line; signal = s; from = window.from; to = window.to; budget = window.budget } in
    elim (nat_le window.to (horizon + 1)) as (λ b. length (flat_map pieces (asked_queries (cond b (Ask q) Past))) * 65536 ≤ cond (nat_lt window.from window.to && b) (window.to - window.from) 0 + 131072) [
      | true ↦ few-window q (nat_lt window.from window.to) refl
      | false ↦ omega arith
    ]

few-what : (d : Joined) (line : ℕ) (what : What) → length (flat_map pieces (item_queries (option_map (verdict d line) (asked_window what)))) * 65536 ≤ length_weight d.circuit.horizon what + 131072
few-what d line (whats.Window window tell) = few-asked d.circuit.horizon line window (number d.netlist window.name)
few-what d line whats.Bad = omega arith

few-items : (d : Joined) (items : List Item) → length (flat_map pieces (queries_of d items)) * 65536 ≤ lengths d.circuit.horizon items + length items * 131072
few-items d [] = omega arith
few-items d (item ∷ items) =
    let first = few-what d item.line item.what in
    let rest = few-items d items in
    let both : length (flat_map pieces (queries_of d (item ∷ items))) ≡ length (flat_map pieces (item_queries (verdict_of d item))) + length (flat_map pieces (queries_of d items)) =
    ap length (flat_map-append pieces (item_queries (verdict_of d item)) (queries_of d items)) ∙ length-append (flat_map pieces (item_queries (verdict_of d item))) (flat_map pieces (queries_of d items)) in
    let weights = sum_by-cons (λ (x : Item). length_weight d.circuit.horizon x.what) item items in
    omega arith

-- a batch within its limits has few strands
pub batch-few : (d : Joined) (items : List Item) → IsWithin d.circuit.horizon items → length (flat_map pieces (queries_of d items)) ≤ 256
batch-few d items within = let all = few-items d items in omega (arith, within.most, within.lengths_fit)
