-- The cells of a signal divide the time, and in each of them nothing changes.
use Rattle.std.proofs.Common.{◌≡◌, ℕ, ◌+◌, ◌-◌, ◌<◌, ◌≤◌, min, List, [], ◌∷◌, length, map, fold, Option, Some, None, IfSome, refl, sym, ap, ◌∙◌, arith, lt-ltb, le-ltb, inl, inr}
use Rattle.std.specs.List.{AllByRecursion}
use Rattle.std.proofs.lemmas.Bool.{cases_lt}
use Rattle.std.proofs.lemmas.List.Elements.{recursion_from_All}
use Rattle.gate_values.specs.declared.Value.{Value}
use Rattle.gate_values.specs.declared.Value.TheVariants.{X}
use Rattle.gate_values.specs.declared.Kind.{Kind}
use Rattle.gate_values.specs.Gates.{gate_value, decides}
use Rattle.gate_values.proofs.Callers.{gate_value-looked, cut_alike, map-up_to_first}
use Rattle.circuit_meaning.specs.Circuit.{Pin, Driver, Input, Gate, Flop, Circuit, driver, IsCircuit, IsDriver}
use Rattle.circuit_meaning.specs.declared.flip_flop.Clock.{Clock}
use Rattle.circuit_meaning.specs.Forward.{value, value_from, seen_value, flop_value, input_value}
use Rattle.circuit_meaning.specs.Edges.{shown_edge, flop_span}
use Rattle.circuit_meaning.specs.Cells.{span, span_from, gate_span, pin_span, looked_pins, least_delay}
use Rattle.valid_intervals.specs.Spans.{Span, IsIn, from_to, meet, moved_span}
use Rattle.circuit_meaning.specs.Laws.{Pins, Edge, look, IsSame}
use Rattle.circuit_meaning.proofs.Table.{at_all_times}
use Rattle.circuit_meaning.proofs.Equations.{value_is, span_is, driver_fits, map_same, all_imply, all_cut}
use Rattle.circuit_meaning.proofs.Inputs.{last-steady, next-steady}
use Rattle.circuit_meaning.proofs.EdgeLemmas.{none-edge, edge-steady}

-- intersections
pub in_all : (a : Span) (xs : List Span) (u : ℕ) → IsIn (fold meet a xs) u → IsIn a u × AllByRecursion (λ x. IsIn x u) xs
in_all a [] u h = (h, tt)
in_all a (x ∷ xs) u h =
    let k = in_all (meet a x) xs u h in
    (record { low = omega (arith, k.0); high = omega (arith, k.0) }, (record { low = omega (arith, k.0); high = omega (arith, k.0) }, k.1))

pub in_meet : (a : Span) (xs : List Span) (u : ℕ) → IsIn a u → AllByRecursion (λ x. IsIn x u) xs → IsIn (fold meet a xs) u
in_meet a [] u h k = h
in_meet a (x ∷ xs) u h k = in_meet (meet a x) xs u (record { low = omega (arith, k.0); high = omega (arith, k.0) }) k.1

pub meet-stop : (a : Span) (xs : List Span) → (fold meet a xs).stop ≤ a.stop
meet-stop a [] = omega arith
meet-stop a (x ∷ xs) = let k = meet-stop (meet a x) xs in omega arith

-- the least delay is below each
fold-least : (m : ℕ) (pins : List Pin) → fold (λ m q. min m q.delay) m pins ≤ m × AllByRecursion (λ p. fold (λ m q. min m q.delay) m pins ≤ p.delay) pins
fold-least m [] = (omega arith, tt)
fold-least m (p ∷ pins) = let k = fold-least (min m p.delay) pins in (omega (arith, k.0), (omega (arith, k.0), k.1))

pub least : (pins : List Pin) → AllByRecursion (λ p. least_delay pins ≤ p.delay) pins
unfolding least_delay
least [] = tt
least (p ∷ pins) = fold-least p.delay pins

pub all_map : {A B : Type 0} (P : B → Type 0) (f : A → B) (xs : List A) → AllByRecursion P (map f xs) → AllByRecursion (λ a. P (f a)) xs
all_map P f [] h = tt
all_map P f (x ∷ xs) h = (h.0, all_map P f xs h.1)

pub map_all : {A B : Type 0} (P : B → Type 0) (f : A → B) (xs : List A) → AllByRecursion (λ a. P (f a)) xs → AllByRecursion P (map f xs)
map_all P f [] h = tt
map_all P f (x ∷ xs) h = (h.0, map_all P f xs h.1)

pub both : {A : Type 0} (P Q : A → Type 0) (xs : List A) → AllByRecursion P xs → AllByRecursion Q xs → AllByRecursion (λ a. P a × Q a) xs
both P Q [] h k = tt
both P Q (x ∷ xs) h k = ((h.0, k.0), both P Q xs h.1 k.1)

-- what a pin sees, before its delay and after
module _ (v : ℕ → ℕ → Value) (t : ℕ) (p : Pin) where
  pub seen-early : t < p.delay → seen_value v t p ≡ X
  seen-early h = rw (lt-ltb t p.delay h)

  pub seen-late : p.delay ≤ t → seen_value v t p ≡ v p.signal (t - p.delay)
  seen-late h = rw (le-ltb t p.delay h)

module _ (b : ℕ → ℕ → Span) (t : ℕ) (p : Pin) where
  pub pin_span-early : t < p.delay → pin_span b t p ≡ from_to 0 p.delay
  pin_span-early h = rw (lt-ltb t p.delay h)

  pub pin_span-late : p.delay ≤ t → pin_span b t p ≡ moved_span p.delay (b p.signal (t - p.delay))
  pin_span-late h = rw (le-ltb t p.delay h)

module _ (limit t m : ℕ) (xs : List Span) where
  pub gate_span-early : t < m → gate_span limit t m xs ≡ from_to 0 (min m limit)
  gate_span-early h = rw (lt-ltb t m h)

  pub gate_span-late : m ≤ t → gate_span limit t m xs ≡ fold meet (from_to m limit) xs
  gate_span-late h = rw (le-ltb t m h)

-- at u a driver gives what it gives at t
record Gives (c : Circuit) (d : Driver) (t u : ℕ) : Type 0 where
  value : value_from (value c) u d ≡ value_from (value c) t d
  span : span_from c (span c) u d ≡ span_from c (span c) t d
  look : look c u d ≡ look c t d

module _ (c : Circuit) (t u : ℕ) (before : (w : ℕ) → w < t → (s x : ℕ) → IsIn (span c s w) x → IsSame c s w x) where
  -- a pin sees at each time of its interval what it sees at t
  pin-steady : (p : Pin) → 1 ≤ p.delay → IsIn (pin_span (span c) t p) u → (seen_value (value c) u p ≡ seen_value (value c) t p) × (pin_span (span c) u p ≡ pin_span (span c) t p)
  pin-steady p pos h = elim (cases_lt t p.delay) [
    | inl l ↦
        let k = rw (pin_span-early (span c) t p l) at h in
        let l' : u < p.delay = omega arith in
        (seen-early (value c) u p l' ∙ sym (seen-early (value c) t p l), pin_span-early (span c) u p l' ∙ sym (pin_span-early (span c) t p l))
    | inr l ↦
        let k = rw (pin_span-late (span c) t p l) at h in
        let l' : p.delay ≤ u = omega arith in
        let same = before (t - p.delay) (omega arith) p.signal (u - p.delay) (record { low = omega arith; high = omega arith }) in
        (seen-late (value c) u p l' ∙ same.value ∙ sym (seen-late (value c) t p l), pin_span-late (span c) u p l' ∙ ap (moved_span p.delay) same.span ∙ sym (pin_span-late (span c) t p l))
  ]

  module _ (kind : Kind) (pins : List Pin) where
    -- where the looked pins see the same, so does the gate
    module _ (same : AllByRecursion (λ p. seen_value (value c) u p ≡ seen_value (value c) t p) (looked_pins c t kind pins)) where
      looked-steady : looked_pins c u kind pins ≡ looked_pins c t kind pins
      looked-steady = cut_alike (decides kind) (seen_value (value c) t) (seen_value (value c) u) pins (all_imply (λ p. seen_value (value c) u p ≡ seen_value (value c) t p) (λ p. seen_value (value c) t p ≡ seen_value (value c) u p) (λ p e. sym e) (looked_pins c t kind pins) same)

      gate-looked : (w : ℕ) → gate_value kind (map (seen_value (value c) w) pins) ≡ gate_value kind (map (seen_value (value c) w) (looked_pins c w kind pins))
      gate-looked w = sym (gate_value-looked kind (map (seen_value (value c) w) pins)) ∙ ap (gate_value kind) (sym (map-up_to_first (decides kind) (seen_value (value c) w) pins))

      gate-steady : gate_value kind (map (seen_value (value c) u) pins) ≡ gate_value kind (map (seen_value (value c) t) pins)
      gate-steady = gate-looked u ∙ ap (gate_value kind) (ap (map (seen_value (value c) u)) looked-steady ∙ map_same (seen_value (value c) u) (seen_value (value c) t) (looked_pins c t kind pins) same) ∙ sym (gate-looked t)

    gate-gives : AllByRecursion (λ p. 1 ≤ p.delay) pins → IsIn (span_from c (span c) t (Gate kind pins)) u → Gives c (Gate kind pins) t u
    gate-gives pos h = elim (cases_lt t (least_delay pins)) [
      | inl l ↦
          let k = rw (gate_span-early (c.horizon + 1) t (least_delay pins) (map (pin_span (span c) t) (looked_pins c t kind pins)) l) at h in
          let l' : u < least_delay pins = omega arith in
          let same = all_imply (λ p. least_delay pins ≤ p.delay) (λ p. seen_value (value c) u p ≡ seen_value (value c) t p)
          (λ p m. seen-early (value c) u p (omega arith) ∙ sym (seen-early (value c) t p (omega arith))) (looked_pins c t kind pins)
          (all_cut (λ p. least_delay pins ≤ p.delay) (λ p. decides kind (seen_value (value c) t p)) pins (least pins)) in
          record {
            value = gate-steady same;
            span = gate_span-early (c.horizon + 1) u (least_delay pins) (map (pin_span (span c) u) (looked_pins c u kind pins)) l' ∙ sym (gate_span-early (c.horizon + 1) t (least_delay pins) (map (pin_span (span c) t) (looked_pins c t kind pins)) l);
            look = ap Pins (looked-steady same);
          }
      | inr l ↦
          let k = in_all (from_to (least_delay pins) (c.horizon + 1)) (map (pin_span (span c) t) (looked_pins c t kind pins)) u (rw (gate_span-late (c.horizon + 1) t (least_delay pins) (map (pin_span (span c) t) (looked_pins c t kind pins)) l) at h) in
          let l' : least_delay pins ≤ u = omega (arith, k.0) in
          let P : Pin → Type 0 = λ p. 1 ≤ p.delay in
          let Q : Pin → Type 0 = λ p. IsIn (pin_span (span c) t p) u in
          let R : Pin → Type 0 = λ p. (seen_value (value c) u p ≡ seen_value (value c) t p) × (pin_span (span c) u p ≡ pin_span (span c) t p) in
          let all = all_imply (λ p. P p × Q p) R (λ p h. pin-steady p h.0 h.1) (looked_pins c t kind pins)
          (both P Q (looked_pins c t kind pins) (all_cut P (λ p. decides kind (seen_value (value c) t p)) pins pos) (all_map (λ x. IsIn x u) (pin_span (span c) t) (looked_pins c t kind pins) k.1)) in
          let same = all_imply R (λ p. seen_value (value c) u p ≡ seen_value (value c) t p) (λ p h. h.0) (looked_pins c t kind pins) all in
          let spans = all_imply R (λ p. pin_span (span c) u p ≡ pin_span (span c) t p) (λ p h. h.1) (looked_pins c t kind pins) all in
          record {
            value = gate-steady same;
            span = gate_span-late (c.horizon + 1) u (least_delay pins) (map (pin_span (span c) u) (looked_pins c u kind pins)) l'
                ∙ ap (fold meet (from_to (least_delay pins) (c.horizon + 1))) (ap (map (pin_span (span c) u)) (looked-steady same) ∙ map_same (pin_span (span c) u) (pin_span (span c) t) (looked_pins c t kind pins) spans)
                ∙ sym (gate_span-late (c.horizon + 1) t (least_delay pins) (map (pin_span (span c) t) (looked_pins c t kind pins)) l);
            look = ap Pins (looked-steady same);
          }
    ]

  -- a flip-flop shows the same edge
  shown-steady : (limit delay : ℕ) (clock : Option Clock) (o : Option ℕ) → IfSome clock (λ k. 1 ≤ k.period) → shown_edge clock delay t ≡ o → IsIn (flop_span limit delay clock o) u → shown_edge clock delay u ≡ o
  shown-steady limit delay None o pos e h = e
  shown-steady limit delay (Some clock) None pos e h = none-edge clock delay u (omega arith)
  shown-steady limit delay (Some clock) (Some x) pos e h = edge-steady clock delay t u x pos e (omega arith) (omega arith)

  gives : (d : Driver) (n : ℕ) → IsDriver n c.horizon d → IsIn (span_from c (span c) t d) u → Gives c d t u
  gives (Input settings) n ok h =
      let low = last-steady settings t u (c.horizon + 1) h.low h.high in
      let high = next-steady settings t u (c.horizon + 1) h.low h.high in
      record { value = ap input_value low; span = cc; look = refl }
  gives (Gate kind pins) n ok h = gate-gives kind pins (recursion_from_All (λ p. 1 ≤ p.delay) pins ok.delay) h
  gives (Flop f) n ok h =
      let same = shown-steady (c.horizon + 1) f.delay f.clock (shown_edge f.clock f.delay t) ok.period refl h in
      record { value = ap (flop_value (value c) f) same; span = ap (flop_span (c.horizon + 1) f.delay f.clock) same; look = ap Edge same }

-- at each time of a cell all is the same
pub cell-steady : (c : Circuit) → IsCircuit c → (t s u : ℕ) → IsIn (span c s t) u → IsSame c s t u
cell-steady c ok = at_all_times (λ t. (s u : ℕ) → IsIn (span c s t) u → IsSame c s t u) (λ t before s u h.
    let k = gives c t u before (driver c s) (length c.drivers) (driver_fits c ok s) (rw (span_is c ok s t) at h) in
    record { value = value_is c ok s u ∙ k.value ∙ sym (value_is c ok s t); span = span_is c ok s u ∙ k.span ∙ sym (span_is c ok s t); look = k.look })
