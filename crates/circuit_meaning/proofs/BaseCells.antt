-- A base answer is the cell, and there is one exactly where a point is not evaluable.
use Rattle.std.proofs.Common.{◌≡◌, ℕ, ◌+◌, ◌<◌, ◌≤◌, true, min, List, length, map, Option, Some, None, IsSome, MatchOption, refl, sym, ap, subst, arith, lt-ltb, le-ltb, inl, inr}
use Rattle.std.specs.List.{AllByRecursion}
use Rattle.std.proofs.lemmas.Bool.{cases_lt}
use Rattle.std.proofs.Math.ListN.{length-map}
use Rattle.gate_values.specs.declared.Value.TheVariants.{X}
use Rattle.gate_values.specs.declared.Kind.{Kind}
use Rattle.gate_values.specs.Gates.{gate_value, is_unknown}
use Rattle.gate_values.proofs.Callers.{allows-some, gate_value-unknown}
use Rattle.circuit_meaning.specs.Edges.{shown_edge, flop_span}
use Rattle.valid_intervals.specs.Spans.{from_to}
use Rattle.valid_intervals.specs.declared.Cell.{Cell}
use Rattle.circuit_meaning.specs.Circuit.{Pin, FlipFlop, Driver, Input, Gate, Flop, Circuit, driver, IsCircuit, IsDriver}
use Rattle.circuit_meaning.specs.Forward.{value, value_from, seen_value, flop_value}
use Rattle.circuit_meaning.specs.Cells.{span, span_from, pin_span, looked_pins, least_delay, cell_at, point_at}
use Rattle.circuit_meaning.specs.Base.{cell_with, flop_base, base_from, base_answer}
use Rattle.circuit_meaning.specs.Need.{HasChildren, IsEvaluable}
use Rattle.circuit_meaning.proofs.Equations.{value_is, span_is, driver_fits, all_imply}
use Rattle.circuit_meaning.proofs.Steady.{least, map_all, seen-early, gate_span-early}

-- an answer, by the case of it
module _ (H : Type 0) (y : Cell) (o : Option Cell) where
  answered : (x : Cell) → o ≡ Some x → x ≡ y → (H → ⊥) → MatchOption o H (λ x. (x ≡ y) × (H → ⊥))
  answered x e same none = rw e (same, none)

  unanswered : o ≡ None → H → MatchOption o H (λ x. (x ≡ y) × (H → ⊥))
  unanswered e h = rw e h

module _ (c : Circuit) (t : ℕ) where
  -- what the driver gives at t
  abbrev given : Driver → Cell
  given d = cell_with (span_from c (span c) t d) (value_from (value c) t d)

  -- the answer of a driver is what it gives, and there is one exactly where it has no sources
  abbrev IsAnswer : Driver → Option Cell → Type 0
  IsAnswer d o = MatchOption o (HasChildren t d) (λ x. (x ≡ given d) × (HasChildren t d → ⊥))

  -- before its least delay each pin of a gate sees x
  early-unknown : (pins : List Pin) → t < least_delay pins → AllByRecursion (λ v. is_unknown v ≡ true) (map (seen_value (value c) t) pins)
  early-unknown pins h =
      map_all (λ v. is_unknown v ≡ true) (seen_value (value c) t) pins
      (all_imply (λ p. least_delay pins ≤ p.delay) (λ p. is_unknown (seen_value (value c) t p) ≡ true) (λ p m. rw (seen-early (value c) t p (omega arith)) refl) pins (least pins))

  gate-answer : (kind : Kind) (pins : List Pin) → 1 ≤ length pins → IsAnswer (Gate kind pins) (base_from (c.horizon + 1) t (Gate kind pins))
  gate-answer kind pins some = elim (cases_lt t (least_delay pins)) [
    | inl l ↦
        let early : span_from c (span c) t (Gate kind pins) ≡ from_to 0 (min (least_delay pins) (c.horizon + 1)) = gate_span-early (c.horizon + 1) t (least_delay pins) (map (pin_span (span c) t) (looked_pins c t kind pins)) l in
        let x : gate_value kind (map (seen_value (value c) t) pins) ≡ X = gate_value-unknown kind (map (seen_value (value c) t) pins) (early-unknown pins l) (rw length-map some) in
        answered (HasChildren t (Gate kind pins)) (given (Gate kind pins)) (base_from (c.horizon + 1) t (Gate kind pins)) (cell_with (from_to 0 (min (least_delay pins) (c.horizon + 1))) X)
        (rw (lt-ltb t (least_delay pins) l) refl) (cc (early, x)) (λ h. omega arith)
    | inr l ↦ unanswered (HasChildren t (Gate kind pins)) (given (Gate kind pins)) (base_from (c.horizon + 1) t (Gate kind pins)) (rw (le-ltb t (least_delay pins) l) refl) l
  ]

  flop-answer : (f : FlipFlop) (o : Option ℕ) → shown_edge f.clock f.delay t ≡ o → IsAnswer (Flop f) (flop_base (c.horizon + 1) f o)
  flop-answer f None e =
      let given_is : given (Flop f) ≡ cell_with (flop_span (c.horizon + 1) f.delay f.clock None) f.initial = ap (λ o. cell_with (flop_span (c.horizon + 1) f.delay f.clock o) (flop_value (value c) f o)) e in
      (sym given_is, λ h. let k : IsSome {T = ℕ} None = subst IsSome e h in absurd (cc k))
  flop-answer f (Some x) e = subst IsSome (sym e) refl

  driver-answer : (n h : ℕ) (d : Driver) → IsDriver n h d → IsAnswer d (base_from (c.horizon + 1) t d)
  driver-answer n h (Input settings) ok = (refl, λ k. k)
  driver-answer n h (Gate kind pins) ok = gate-answer kind pins (allows-some kind (length pins) ok.count)
  driver-answer n h (Flop f) ok = flop-answer f (shown_edge f.clock f.delay t) refl

pub base-answers : (c : Circuit) → IsCircuit c → (s t : ℕ) → MatchOption (base_answer c s t) (IsEvaluable c s t) (λ x. (x ≡ cell_at c (point_at s t)) × (IsEvaluable c s t → ⊥))
unfolding base_answer
base-answers c ok s t =
    let same : given c t (driver c s) ≡ cell_at c (point_at s t) = cc (value_is c ok s t, span_is c ok s t) in
    subst (λ y. MatchOption (base_from (c.horizon + 1) t (driver c s)) (IsEvaluable c s t) (λ x. (x ≡ y) × (IsEvaluable c s t → ⊥))) same
    (driver-answer c t (length c.drivers) c.horizon (driver c s) (driver_fits c ok s))
