-- What is left of a plan's turns falls by each turn.
use Rattle.std.proofs.Common.{◌≡◌, ℕ, zero, suc, ◌+◌, ◌-◌, ◌*◌, ◌<◌, ◌≤◌, ◌&&◌, nat_le, nat_lt, Bool, true, false, cond, List, [], ◌∷◌, length, map, filter, get_or, slice_get, slice_set, refl, ap, sym, ◌∙◌, subst, arith, inl, inr, Option, Some, None}
use Rattle.std.specs.List.{sum_by}
use Rattle.std.proofs.Math.ListN.{length-map, length-set}
use Rattle.std.proofs.lemmas.Bool.{cases_Bool, and_parts, ltb-true}
use Rattle.std.proofs.lemmas.List.Sums.{sum_by-set, sum_by-cons}
use Rattle.std.proofs.lemmas.Option.{get_or_from_slice_get, slice_get_within}
use Rattle.std.proofs.Math.Nat.{suc-mul}
use Rattle.circuit_meaning.proofs.Callers.{cut-whole}
use Rattle.gate_values.specs.Gates.{decides}
use Rattle.valid_intervals.specs.declared.Point.{Point}
use Rattle.circuit_meaning.specs.declared.Pin.{Pin}
use Rattle.circuit_meaning.specs.Circuit.{Circuit, Driver, Input, Gate, Flop, driver}
use Rattle.circuit_meaning.specs.Forward.{seen_value, value}
use Rattle.circuit_meaning.specs.Edges.{shown_edge}
use Rattle.circuit_meaning.specs.Cells.{looked_pins}
use Rattle.circuit_meaning.specs.Need.{children, children_from, flop_child}
use Rattle.plan_machine.specs.declared.strand.Next.{Next}
use Rattle.plan_machine.specs.declared.strand.Next.TheVariants.{Ask, Fill, Drop, Done}
use Rattle.plan_machine.specs.Strands.{Frame, Strand, is_evaluable, asked_children, next, rest, roots_heard, stack_heard, after_answer, after_claim, waiting, awake, given_up, after_drop, after_fill, left_in, IsFirst}
use Rattle.valid_intervals.specs.declared.SignalCell.{SignalCell}
use Rattle.journal_meaning.specs.Batches.{Batch}
use Rattle.valid_intervals.specs.Cells.{stored_at}
use Rattle.plan_machine.specs.Plans.{Plan, shard_of, claim_of, asks, woken_strand, itself}
use Rattle.plan_machine.specs.Steps.{Rest, claim_step, ask_step, next_step, step_at, turned_by, turn_outcome, is_turn}
use Rattle.plan_machine.specs.Turns.{plan_after, turn_at, turn, turns}
use Rattle.plan_machine.specs.Bounds.{pins_of, most_pins, claim_cost, stack_cost, flag, turns_left, all_left}
use Rattle.plan_machine.proofs.Stacks.{IsTop, asks-first, asks-unspent, fill-top, drop-top}

-- a point has at most as many children as its signal has pins
pub filter-length : {A : Type 0} (test : A → Bool) (xs : List A) → length (filter test xs) ≤ length xs
filter-length test [] = omega arith
filter-length test (x ∷ xs) = elim (test x) as (λ t. length (cond t (x ∷ filter test xs) (filter test xs)) ≤ length (x ∷ xs)) [
  | true ↦ let k = filter-length test xs in omega arith
  | false ↦ let k = filter-length test xs in omega arith
]

flop-length : (pin : ℕ) (o : Option ℕ) → length (flop_child pin o) ≤ 1
flop-length pin None = omega arith
flop-length pin (Some e) = omega arith

sources-few : (c : Circuit) (t : ℕ) (d : Driver) → length (children_from c t d) ≤ pins_of d
sources-few c t (Input settings) = omega arith
sources-few c t (Gate kind pins) =
    let point : Pin → Point = λ p. record { signal = p.signal; time = t - p.delay } in
    let late : Pin → Bool = λ p. nat_le p.delay t in
    let l : List Pin = looked_pins c t kind pins in
    let a = filter-length late l in
    let e = cut-whole (λ p. decides kind (seen_value (value c) t p)) pins in
    let m : length (map point (filter late l)) ≡ length (filter late l) = length-map (filter late l) point in
    omega arith
sources-few c t (Flop f) = flop-length f.pin (shown_edge f.clock f.delay t)

most-all : (ds : List Driver) (s : ℕ) → pins_of (get_or ds s (Input [])) ≤ most_pins ds
most-all [] s = omega arith
most-all (d ∷ ds) zero = omega arith
most-all (d ∷ ds) (suc s) = let k = most-all ds s in omega arith

sources-most : (c : Circuit) (p : Point) → length (asked_children c p) ≤ most_pins c.drivers
unfolding asked_children children
sources-most c p =
    let a = filter-length (is_evaluable c) (children c p.signal p.time) in
    let e = sources-few c p.time (driver c p.signal) in
    let k = most-all c.drivers p.signal in
    omega arith

-- stacks
module _ (n : ℕ) where
  heard-cost : (roots : List Point) (st : List Frame) (p : Point) → IsFirst (left_in roots st) p → stack_cost n (stack_heard st) + length (roots_heard roots st) + 1 ≡ stack_cost n st + length roots
  heard-cost [] [] p h = absurd h
  heard-cost (x ∷ xs) [] p h = omega arith
  heard-cost roots (f ∷ fs) p h = frame f.left h
    where
      frame : (xs : List Point) → IsFirst xs p → n + 1 + length (rest xs) + stack_cost n fs + length roots + 1 ≡ n + 1 + length xs + stack_cost n fs + length roots
      frame [] h = absurd h
      frame (x ∷ xs) h = omega arith

  rest-length : (xs : List Point) → length (rest xs) ≤ length xs
  rest-length [] = omega arith
  rest-length (x ∷ xs) = omega arith

  heard-less : (roots : List Point) (st : List Frame) → stack_cost n (stack_heard st) + length (roots_heard roots st) ≤ stack_cost n st + length roots
  heard-less roots [] = let k = rest-length roots in omega arith
  heard-less roots (f ∷ fs) = let k = rest-length f.left in omega arith

  rest-cost : (st : List Frame) (p : Point) → IsTop st p → stack_cost n (rest st) + n + 1 ≤ stack_cost n st
  rest-cost [] p h = absurd h
  rest-cost (f ∷ fs) p h = omega arith

claim-less : (budget charged cost : ℕ) → charged < budget → (budget - (charged + 1)) * cost + cost ≡ (budget - charged) * cost
claim-less budget charged cost h =
    let k = budget - (charged + 1) in
    let e : budget - charged ≡ suc k = omega arith in
    rw e (sym (suc-mul k cost))

module _ (b : Batch) (n : ℕ) where
  pub told-less : (s : Strand) (p : Point) → next s ≡ Ask p → turns_left b n (after_answer s) + 1 ≡ turns_left b n s
  told-less s p e = let k = heard-cost n s.roots s.stack p (asks-first s p e) in omega arith

  pub claimed-less : (s : Strand) (p : Point) → s.charged < s.budget → turns_left b n (after_claim b.circuit s p) + 1 ≤ turns_left b n s
  claimed-less s p room =
      let few = sources-most b.circuit p in
      let cost = claim_cost b n in
      let k : (s.budget - (s.charged + 1)) * cost + cost ≡ (s.budget - s.charged) * cost = claim-less s.budget s.charged cost room in
      omega arith

  waiting-less : (s : Strand) → s.waits ≡ false → turns_left b n (waiting s) + 1 ≡ turns_left b n s
  waiting-less s w = let k : flag s.waits ≡ 1 = ap flag w in omega arith

  pub spent-less : (s : Strand) (p : Point) → next s ≡ Ask p → turns_left b n (given_up s) + 1 ≡ turns_left b n s
  spent-less s p e = let k : flag s.spent ≡ 1 = ap flag (asks-unspent s p e) in omega arith

  pub finished-less : (s : Strand) (p : Point) → IsTop s.stack p → turns_left b n (after_fill s) + 1 ≤ turns_left b n s
  finished-less s p top = let k = rest-cost n s.stack p top in let l = heard-less n s.roots (rest s.stack) in omega arith

  pub dropped-less : (s : Strand) (p : Point) → IsTop s.stack p → turns_left b n (after_drop s) + n + 1 ≤ turns_left b n s
  dropped-less s p top = let k = rest-cost n s.stack p top in omega arith

  asks-next : (p : Point) (m : Next) → asks p m ≡ true → (x : Point) × (m ≡ Ask x)
  asks-next p (Ask x) h = (x, refl)
  asks-next p (Fill x) h = absurd (cc h)
  asks-next p (Drop x) h = absurd (cc h)
  asks-next p Done h = absurd (cc h)

  woken-less : (p : Point) (o : Strand) → turns_left b n (woken_strand after_answer p o) ≤ turns_left b n o
  woken-less p o = elim (cases_Bool (o.waits && asks p (next o))) [
    | inl t ↦
        let k = and_parts o.waits (asks p (next o)) t in
        let a = asks-next p (next o) k.1 in
        let e = heard-cost n o.roots o.stack a.0 (asks-first o a.0 a.1) in
        rw t (omega arith)
    | inr f ↦ rw f (omega arith)
  ]

  woken-more : (p : Point) (o : Strand) → turns_left b n (woken_strand itself p o) ≤ turns_left b n o + 1
  woken-more p o = elim (o.waits && asks p (next o)) as (λ t. turns_left b n (cond t (awake (itself o)) o) ≤ turns_left b n o + 1) [ true ↦ omega arith | false ↦ omega arith ]

sum-map : (g : Strand → ℕ) (f : Strand → Strand) (k : ℕ) (xs : List Strand) → ((o : Strand) → g (f o) ≤ g o + k) → sum_by g (map f xs) ≤ sum_by g xs + length xs * k
sum-map g f k [] h = omega arith
sum-map g f k (x ∷ xs) h = let a = h x in let e = sum-map g f k xs h in let m = suc-times (length xs) in let u = sum_by-cons g x xs in let v = sum_by-cons g (f x) (map f xs) in omega arith
  where
    suc-times : (m : ℕ) → suc m * k ≡ m * k + k
    suc-times m = grind arith

-- a strand that doesn't wait doesn't come out
pub woken-itself : (f : Strand → Strand) (p : Point) (s : Strand) → s.waits ≡ false → woken_strand f p s ≡ s
woken-itself f p s w = ap (λ t. cond (t && asks p (next s)) (awake (f s)) s) w

set-sum : (g : Strand → ℕ) (xs : List Strand) (i : ℕ) (s t : Strand) → slice_get xs i ≡ Some s → sum_by g (slice_set xs i t) + g s ≡ sum_by g xs + g t
set-sum g xs i s t at =
    let low : i < length xs = slice_get_within xs i s at in
    let same : get_or xs i s ≡ s = get_or_from_slice_get xs i s s at in
    let k = sum_by-set g xs i t s low in
    let e : g (get_or xs i s) ≡ g s = ap g same in
    omega arith

map-at : (f : Strand → Strand) (xs : List Strand) (i : ℕ) (s : Strand) → slice_get xs i ≡ Some s → slice_get (map f xs) i ≡ Some (f s)
map-at f [] i s h = absurd (cc h)
map-at f (x ∷ xs) zero s h = let e : x ≡ s = cc h in ap (λ a. Some (f a)) e
map-at f (x ∷ xs) (suc i) s h = map-at f xs i s h

module _ (b : Batch) (plan : Plan) (i : ℕ) (s : Strand) (at : slice_get plan.strands i ≡ Some s) (ready : s.waits ≡ false) where
  -- one strand is another
  one-less : (t : Strand) → turns_left b (length plan.strands) t + 1 ≤ turns_left b (length plan.strands) s → sum_by (turns_left b (length (slice_set plan.strands i t))) (slice_set plan.strands i t) + 1 ≤ all_left b plan
  one-less t less =
      let g = turns_left b (length plan.strands) in
      let k = set-sum g plan.strands i s t at in
      rw (length-set plan.strands i t) (omega arith)

  -- and f is done to those that come out
  all-less : (f : Strand → Strand) (p : Point) (t : Strand) (k : ℕ) → ((o : Strand) → turns_left b (length plan.strands) (woken_strand f p o) ≤ turns_left b (length plan.strands) o + k)
      → turns_left b (length plan.strands) t + length plan.strands * k + 1 ≤ turns_left b (length plan.strands) s
      → sum_by (turns_left b (length (slice_set (map (woken_strand f p) plan.strands) i t))) (slice_set (map (woken_strand f p) plan.strands) i t) + 1 ≤ all_left b plan
  all-less f p t k more less =
      let g = turns_left b (length plan.strands) in
      let ys = map (woken_strand f p) plan.strands in
      let here : slice_get ys i ≡ Some s = map-at (woken_strand f p) plan.strands i s at ∙ ap Some (woken-itself f p s ready) in
      let a = set-sum g ys i s t here in
      let e = sum-map g (woken_strand f p) k plan.strands more in
      let len : length (slice_set ys i t) ≡ length plan.strands = length-set ys i t ∙ length-map plan.strands (woken_strand f p) in
      rw len (omega arith)

  claim-case : (p : Point) (o : Option ℕ) → next s ≡ Ask p → all_left b (plan_after b plan i s (claim_step s p o)) + is_turn (turned_by (claim_step s p o)) ≤ all_left b plan
  claim-case p (Some q) e = let k = waiting-less b (length plan.strands) s ready in one-less (waiting s) (omega arith)
  claim-case p None e = elim (cases_Bool (nat_lt s.charged s.budget)) [
    | inl t ↦ rw t (one-less (after_claim b.circuit s p) (claimed-less b (length plan.strands) s p (ltb-true s.charged s.budget t)))
    | inr f ↦ let k = spent-less b (length plan.strands) s p e in rw f (one-less (given_up s) (omega arith))
  ]

  cell-case : (p : Point) (o : Option SignalCell) → next s ≡ Ask p → all_left b (plan_after b plan i s (ask_step plan s p o)) + is_turn (turned_by (ask_step plan s p o)) ≤ all_left b plan
  cell-case p (Some x) e = let k = told-less b (length plan.strands) s p e in one-less (after_answer s) (omega arith)
  cell-case p None e = claim-case p (claim_of plan p) e

  next-case : (m : Next) → next s ≡ m → all_left b (plan_after b plan i s (next_step plan s m)) + is_turn (turned_by (next_step plan s m)) ≤ all_left b plan
  next-case (Ask p) e = cell-case p (stored_at (shard_of plan p).state.cells p) e
  next-case (Fill p) e =
      let n = length plan.strands in
      let k = finished-less b n s p (fill-top s p e) in
      all-less after_answer p (after_fill s) 0 (λ o. let l = woken-less b n p o in omega arith) (omega arith)
  next-case (Drop p) e =
      let n = length plan.strands in
      let k = dropped-less b n s p (drop-top s p e) in
      all-less itself p (after_drop s) 1 (woken-more b n p) (omega arith)
  next-case Done e = omega arith

strand-case : (b : Batch) (plan : Plan) (i : ℕ) (o : Option Strand) → slice_get plan.strands i ≡ o → all_left b (turn_at b plan i o) + is_turn (turned_by (step_at plan o)) ≤ all_left b plan
strand-case b plan i None e = omega arith
strand-case b plan i (Some s) e =
    let P : Bool → Type 0 = λ w. all_left b (plan_after b plan i s (cond w Rest (next_step plan s (next s)))) + is_turn (turned_by (cond w Rest (next_step plan s (next s)))) ≤ all_left b plan in
    let idle : P true = omega arith in
    elim (cases_Bool s.waits) [
      | inl t ↦ subst P (sym t) idle
      | inr f ↦ subst P (sym f) (next-case b plan i s e f (next s) refl)
    ]

pub turn-less : (b : Batch) (plan : Plan) (i : ℕ) → all_left b (turn b plan i) + is_turn (turn_outcome plan i) ≤ all_left b plan
turn-less b plan i = strand-case b plan i (slice_get plan.strands i) refl

pub turns-few : (b : Batch) (plan : Plan) (schedule : List ℕ) → turns b plan schedule ≤ all_left b plan
turns-few b plan [] = omega arith
turns-few b plan (i ∷ is) = let k = turn-less b plan i in let l = turns-few b (turn b plan i) is in omega arith
