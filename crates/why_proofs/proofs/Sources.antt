-- The children of a point are answered exactly where the sources are that forward simulation looks at.
use Rattle.std.proofs.Common.{◌≡◌, ℕ, ◌-◌, ◌<◌, nat_lt, Bool, true, false, cond, List, [], length, map, get_or, Option, Some, None, IsSome, IfSome, sym, ap, subst, ◌∙◌, arith, inl, inr, lt-ltb, le-ltb}
use Rattle.std.specs.List.{AllByRecursion}
use Rattle.std.proofs.lemmas.Bool.{cases_lt}
use Rattle.std.proofs.lemmas.List.Elements.{recursion_from_All, All-from_recursion}
use Rattle.std.proofs.lemmas.List.{get_or_default}
use Rattle.gate_values.specs.declared.Kind.TheVariants.{Dff}
use Rattle.gate_values.specs.Gates.{decides, up_to_first}
use Rattle.valid_intervals.specs.declared.Point.{Point}
use Rattle.circuit_meaning.specs.Edges.{shown_edge}
use Rattle.circuit_meaning.specs.declared.Pin.{Pin}
use Rattle.circuit_meaning.specs.Circuit.{Circuit, Driver, Input, Gate, Flop, driver, IsCircuit}
use Rattle.circuit_meaning.specs.Cells.{looked_pins}
use Rattle.circuit_meaning.specs.Looks.{kind_of, pin_point, flop_points, pin_points_at, sees}
use Rattle.circuit_meaning.proofs.Callers.{all_map, map_all, all_imply, cut-sources}
use Rattle.why_proofs.specs.Justified.{Answers, looked_in, IsAnswered, AreAnswered}
use Rattle.valid_intervals.specs.declared.Cell.{Cell}
use Rattle.circuit_meaning.specs.Cells.{cell_at}
use Rattle.design.specs.declared.pin_walk.PinWalk.{PinWalk}
use Rattle.design.specs.PinWalks.{looked_at, next_point}
use Rattle.why_proofs.specs.Known.{IsKnown, AreKnown, IsRuled}
use Rattle.why_proofs.proofs.Sound.{AreRight, looked-from, looked-to}

source-known : (a : Answers) (t : ℕ) (p : Pin) → IsAnswered a t p → IsKnown a (pin_point t p)
source-known a t p h = elim (cases_lt t p.delay) [
  | inl l ↦ rw (lt-ltb _ _ l) tt
  | inr l ↦ rw (le-ltb _ _ l) (h l)
]

source-answered : (a : Answers) (t : ℕ) (p : Pin) → IsKnown a (pin_point t p) → IsAnswered a t p
source-answered a t p h = λ l. let late : nat_lt t p.delay ≡ false = le-ltb t p.delay l in go (nat_lt t p.delay) late h
  where
    go : (b : Bool) → b ≡ false → IsKnown a (cond b None (Some (record { signal = p.signal; time = t - p.delay }))) → IsSome (a p.signal (t - p.delay))
    go true e k = absurd (cc e)
    go false e k = k

module _ (c : Circuit) (ok : IsCircuit c) (a : Answers) (right : AreRight c ok a) where
  abbrev sources : ℕ → Driver → List (Option Point)
  sources t d = up_to_first (λ o. decides (kind_of d) (sees c o)) (pin_points_at t d)

  known-from : (t : ℕ) (d : Driver) → AreAnswered a t d → AllByRecursion (IsKnown a) (sources t d)
  known-from t (Input settings) h = tt
  known-from t (Gate kind pins) h =
      let each : AllByRecursion (IsAnswered a t) (looked_in a t kind pins) = recursion_from_All (IsAnswered a t) (looked_in a t kind pins) h in
      let true-pins : AllByRecursion (IsAnswered a t) (looked_pins c t kind pins) = subst (AllByRecursion (IsAnswered a t)) (sym (looked-from c ok a right t kind pins each)) each in
      subst (AllByRecursion (IsKnown a)) (cut-sources c t kind pins)
      (map_all (IsKnown a) (pin_point t) (looked_pins c t kind pins) (all_imply (IsAnswered a t) (λ p. IsKnown a (pin_point t p)) (source-known a t) (looked_pins c t kind pins) true-pins))
  known-from t (Flop f) h = go (shown_edge f.clock f.delay t) h
    where
      cut : (b : Bool) → AllByRecursion (IsKnown a) (cond b [] [])
      cut true = tt
      cut false = tt

      go : (o : Option ℕ) → IfSome o (λ e. IsSome (a f.pin e)) → AllByRecursion (IsKnown a) (up_to_first (λ o. decides Dff (sees c o)) (flop_points f.pin o))
      go None h = tt
      go (Some e) h = (h, cut (decides Dff (sees c (Some (record { signal = f.pin; time = e })))))

  known-to : (t : ℕ) (d : Driver) → AllByRecursion (IsKnown a) (sources t d) → AreAnswered a t d
  known-to t (Input settings) h = tt
  known-to t (Gate kind pins) h =
      let mapped : AllByRecursion (IsKnown a) (map (pin_point t) (looked_pins c t kind pins)) = subst (AllByRecursion (IsKnown a)) (sym (cut-sources c t kind pins)) h in
      let true-pins : AllByRecursion (IsAnswered a t) (looked_pins c t kind pins) = all_imply (λ p. IsKnown a (pin_point t p)) (IsAnswered a t) (source-answered a t) (looked_pins c t kind pins) (all_map (IsKnown a) (pin_point t) (looked_pins c t kind pins) mapped) in
      All-from_recursion (IsAnswered a t) (looked_in a t kind pins) (subst (AllByRecursion (IsAnswered a t)) (sym (looked-to c ok a right t kind pins true-pins)) true-pins)
  known-to t (Flop f) h = go (shown_edge f.clock f.delay t) h
    where
      go : (o : Option ℕ) → AllByRecursion (IsKnown a) (up_to_first (λ o. decides Dff (sees c o)) (flop_points f.pin o)) → IfSome o (λ e. IsSome (a f.pin e))
      go None h = tt
      go (Some e) h = h.0

  module _ (p : Point) where
    -- a source that is looked at and has no answer
    pub unknown : (n : ℕ) → n < length (looked_at c p) → (IsKnown a (get_or (looked_at c p) n None) → ⊥) → AreAnswered a p.time (driver c p.signal) → ⊥
    unknown n l none h = none (All-from_recursion (IsKnown a) (looked_at c p) (known-from p.time (driver c p.signal) h) n None l)

    -- all are known
    pub known-all : (n : ℕ) → n ≡ length (looked_at c p) → AreKnown c a p n → AreAnswered a p.time (driver c p.signal)
    known-all n e known = known-to p.time (driver c p.signal) (recursion_from_All (IsKnown a) (looked_at c p) (λ k d l. same k d l (known k (omega arith))))
      where
        same : (k : ℕ) (d : Option Point) → k < length (looked_at c p) → IsKnown a (get_or (looked_at c p) k None) → IsKnown a (get_or (looked_at c p) k d)
        same k d l h = subst (IsKnown a) (get_or_default (looked_at c p) k None d l) h

  -- a walk to its end
  pub ruled : (w : PinWalk) (p : Point) (cell : Cell) → w.point ≡ p → w.looked ≡ length (looked_at c w.point) → AreKnown c a p w.looked → cell ≡ cell_at c w.point → IsRuled c a p cell
  ruled w p cell same done known right-cell = record {
    answered = known-all p w.looked (done ∙ ap (λ q. length (looked_at c q)) same) known;
    right = right-cell ∙ ap (cell_at c) same;
  }

  -- a walk that stops at a pin without an answer
  pub unruled : (w : PinWalk) (p : Point) → w.point ≡ p → w.looked < length (looked_at c w.point) → (IsKnown a (next_point c w) → ⊥) → AreAnswered a p.time (driver c p.signal) → ⊥
  unruled w p same looking none =
      unknown p w.looked (subst (λ q. w.looked < length (looked_at c q)) same looking) (λ k. none (subst (λ q. IsKnown a (get_or (looked_at c q) w.looked None)) (sym same) k))
