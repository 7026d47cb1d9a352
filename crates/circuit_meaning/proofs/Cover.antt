-- Each time stands in its own cell.
use Rattle.std.proofs.Common.{◌≡◌, ℕ, ◌+◌, ◌-◌, ◌<◌, ◌≤◌, List, length, map, Option, Some, None, IfSome, refl, arith, inl, inr}
use Rattle.std.specs.List.{AllByRecursion}
use Rattle.std.proofs.lemmas.Bool.{cases_lt}
use Rattle.std.proofs.lemmas.List.Elements.{recursion_from_All}
use Rattle.gate_values.specs.declared.Kind.{Kind}
use Rattle.gate_values.specs.Gates.{decides}
use Rattle.circuit_meaning.specs.Circuit.{Pin, Driver, Input, Gate, Flop, Circuit, driver, IsCircuit, IsDriver}
use Rattle.circuit_meaning.specs.declared.flip_flop.Clock.{Clock}
use Rattle.circuit_meaning.specs.Forward.{value, seen_value}
use Rattle.circuit_meaning.specs.Edges.{shown_edge, flop_span}
use Rattle.circuit_meaning.specs.Cells.{span, span_from, pin_span, looked_pins, least_delay}
use Rattle.valid_intervals.specs.Spans.{Span, IsIn, from_to}
use Rattle.circuit_meaning.specs.Laws.{IsCovered}
use Rattle.circuit_meaning.proofs.Table.{at_all_times}
use Rattle.circuit_meaning.proofs.Equations.{span_is, driver_fits, all_imply, all_cut}
use Rattle.circuit_meaning.proofs.EdgeLemmas.{last_edge-le, edge-none, edge-next}
use Rattle.circuit_meaning.proofs.Inputs.{start-le, next-le, next-above}
use Rattle.circuit_meaning.proofs.Steady.{in_meet, meet-stop, map_all, pin_span-early, pin_span-late, gate_span-early, gate_span-late}

record Covers (limit t : ℕ) (x : Span) : Type 0 where
  inside : IsIn x t
  within : x.stop ≤ limit

module _ (c : Circuit) (t : ℕ) (within : t ≤ c.horizon) (before : (w : ℕ) → w < t → (s : ℕ) → w ≤ c.horizon → IsCovered c s w) where
  pin-inside : (p : Pin) → 1 ≤ p.delay → IsIn (pin_span (span c) t p) t
  pin-inside p pos = elim (cases_lt t p.delay) [
    | inl l ↦ rw (pin_span-early (span c) t p l) (record { low = omega arith; high = l })
    | inr l ↦
        let k = before (t - p.delay) (omega arith) p.signal (omega arith) in
        rw (pin_span-late (span c) t p l) (record { low = omega (arith, k.inside); high = omega (arith, k.inside) })
  ]

  gate-covers : (kind : Kind) (pins : List Pin) → AllByRecursion (λ p. 1 ≤ p.delay) pins → Covers (c.horizon + 1) t (span_from c (span c) t (Gate kind pins))
  gate-covers kind pins pos = elim (cases_lt t (least_delay pins)) [
    | inl l ↦ rw (gate_span-early (c.horizon + 1) t (least_delay pins) (map (pin_span (span c) t) (looked_pins c t kind pins)) l) (record { inside = record { low = omega arith; high = omega arith }; within = omega arith })
    | inr l ↦
        let P : Pin → Type 0 = λ p. 1 ≤ p.delay in
        let spans = map (pin_span (span c) t) (looked_pins c t kind pins) in
        let base = from_to (least_delay pins) (c.horizon + 1) in
        rw (gate_span-late (c.horizon + 1) t (least_delay pins) spans l) (record {
          inside = in_meet base spans t (record { low = l; high = omega arith }) (map_all (λ x. IsIn x t) (pin_span (span c) t) (looked_pins c t kind pins)
              (all_imply P (λ p. IsIn (pin_span (span c) t p) t) pin-inside (looked_pins c t kind pins) (all_cut P (λ p. decides kind (seen_value (value c) t p)) pins pos)));
          within = meet-stop base spans;
        })
  ]

  flop-covers : (limit delay : ℕ) (clock : Option Clock) (o : Option ℕ) → t < limit → IfSome clock (λ k. 1 ≤ k.period) → shown_edge clock delay t ≡ o → Covers limit t (flop_span limit delay clock o)
  flop-covers limit delay None o l pos e = record { inside = record { low = omega arith; high = l }; within = omega arith }
  flop-covers limit delay (Some clock) None l pos e = let k = edge-none clock delay t e in record { inside = record { low = omega arith; high = omega arith }; within = omega arith }
  flop-covers limit delay (Some clock) (Some x) l pos e =
      let low = last_edge-le clock delay t x e in
      let high = edge-next clock delay t x pos e in
      record { inside = record { low = low; high = omega arith }; within = omega arith }

  covers : (d : Driver) (n : ℕ) → IsDriver n c.horizon d → Covers (c.horizon + 1) t (span_from c (span c) t d)
  covers (Input settings) n ok = record { inside = record { low = start-le settings t; high = next-above settings t (c.horizon + 1) (omega arith) }; within = next-le settings t (c.horizon + 1) }
  covers (Gate kind pins) n ok = gate-covers kind pins (recursion_from_All (λ p. 1 ≤ p.delay) pins ok.delay)
  covers (Flop f) n ok = flop-covers (c.horizon + 1) f.delay f.clock (shown_edge f.clock f.delay t) (omega arith) ok.period refl

pub cell-covers : (c : Circuit) → IsCircuit c → (t s : ℕ) → t ≤ c.horizon → IsCovered c s t
cell-covers c ok = at_all_times (λ t. (s : ℕ) → t ≤ c.horizon → IsCovered c s t) (λ t before s within.
    let k = covers c t within before (driver c s) (length c.drivers) (driver_fits c ok s) in
    record { inside = rw (span_is c ok s t) k.inside; within = rw (span_is c ok s t) k.within })
