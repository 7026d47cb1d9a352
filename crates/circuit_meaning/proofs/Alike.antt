-- Two circuits that drive alike a set of signals, closed under what they read, give these signals the same values and cells.
use Rattle.std.proofs.Common.{◌≡◌, ℕ, ◌+◌, ◌-◌, ◌<◌, ◌≤◌, Bool, nat_le, filter, List, [], ◌∷◌, length, map, All, Option, Some, None, refl, sym, ap, ◌∙◌, subst, arith, inl, inr, Contains, get_or, get_or-set_other, length-set, set}
use Rattle.std.specs.List.{AllByRecursion}
use Rattle.std.proofs.lemmas.Bool.{cases_lt, cases_eq}
use Rattle.std.proofs.lemmas.List.Elements.{recursion_from_All, All-from_recursion, All-set, Contains-get_or}
use Rattle.gate_values.specs.declared.Value.{Value}
use Rattle.gate_values.specs.declared.Kind.TheVariants.{Dff}
use Rattle.gate_values.specs.Gates.{gate_value, decides}
use Rattle.gate_values.proofs.Callers.{cut_alike}
use Rattle.circuit_meaning.specs.Circuit.{Setting, Pin, FlipFlop, Driver, Input, Gate, Flop, Circuit, driver, IsCircuit, IsDriver, read_by}
use Rattle.circuit_meaning.specs.Forward.{value, value_from, seen_value, flop_value}
use Rattle.circuit_meaning.specs.Edges.{shown_edge}
use Rattle.circuit_meaning.specs.Cells.{span, span_from, gate_span, pin_span, looked_pins, least_delay}
use Rattle.valid_intervals.specs.Spans.{moved_span}
use Rattle.circuit_meaning.specs.Base.{base_from, base_answer}
use Rattle.circuit_meaning.specs.Need.{children, children_from, IsInCone, Itself, Reads}
use Rattle.valid_intervals.specs.declared.Point.{Point}
use Rattle.circuit_meaning.specs.Laws.{Pins, look}
use Rattle.circuit_meaning.specs.Forced.{IsAlike, IsFree, forced_circuit}
use Rattle.circuit_meaning.proofs.Table.{at_all_times}
use Rattle.circuit_meaning.proofs.Equations.{value_is, span_is, driver_fits, map_same, all_imply, all_cut}
use Rattle.circuit_meaning.proofs.EdgeLemmas.{shown_edge-le}
use Rattle.circuit_meaning.proofs.Steady.{seen-early, seen-late, pin_span-early, pin_span-late, both}

-- the signals of a gate's pins
pins_all : (P : ℕ → Type 0) (pins : List Pin) → AllByRecursion P (map (λ p. p.signal) pins) → AllByRecursion (λ p. P p.signal) pins
pins_all P [] h = tt
pins_all P (p ∷ pins) h = (h.0, pins_all P pins h.1)

module _ (c d : Circuit) (same_horizon : d.horizon ≡ c.horizon) (P : ℕ → Type 0) (t : ℕ)
    (before : (w : ℕ) → w < t → (s : ℕ) → P s → (value d s w ≡ value c s w) × (span d s w ≡ span c s w)) where
  pin-alike : (p : Pin) → 1 ≤ p.delay → P p.signal → (seen_value (value d) t p ≡ seen_value (value c) t p) × (pin_span (span d) t p ≡ pin_span (span c) t p)
  pin-alike p pos h = elim (cases_lt t p.delay) [
    | inl l ↦ (seen-early (value d) t p l ∙ sym (seen-early (value c) t p l), pin_span-early (span d) t p l ∙ sym (pin_span-early (span c) t p l))
    | inr l ↦
        let k = before (t - p.delay) (omega arith) p.signal h in
        (seen-late (value d) t p l ∙ k.0 ∙ sym (seen-late (value c) t p l), pin_span-late (span d) t p l ∙ ap (moved_span p.delay) k.1 ∙ sym (pin_span-late (span c) t p l))
  ]

  flop-alike : (f : FlipFlop) → 1 ≤ f.delay → P f.pin → (o : Option ℕ) → shown_edge f.clock f.delay t ≡ o → flop_value (value d) f o ≡ flop_value (value c) f o
  flop-alike f pos h None e = refl
  flop-alike f pos h (Some x) e = ap (λ v. gate_value Dff (v ∷ [])) (before x (let k = shown_edge-le f.clock f.delay t x e in omega arith) f.pin h).0

  record DriverAlike (x : Driver) : Type 0 where
    value : value_from (value d) t x ≡ value_from (value c) t x
    span : span_from d (span d) t x ≡ span_from c (span c) t x
    look : look d t x ≡ look c t x
    children : children_from d t x ≡ children_from c t x

  driver-alike : (x : Driver) (n h : ℕ) → IsDriver n h x → AllByRecursion P (read_by x) → DriverAlike x
  driver-alike (Input settings) n h ok k = record { value = refl; span = rw same_horizon; look = refl; children = refl }
  driver-alike (Flop f) n h ok k = record { value = flop-alike f ok.delay k.0 (shown_edge f.clock f.delay t) refl; span = rw same_horizon; look = refl; children = refl }
  driver-alike (Gate kind pins) n h ok k =
      let point : Pin → Point = λ p. record { signal = p.signal; time = t - p.delay } in
      let R : Pin → Type 0 = λ p. (seen_value (value d) t p ≡ seen_value (value c) t p) × (pin_span (span d) t p ≡ pin_span (span c) t p) in
      let all : AllByRecursion R pins = all_imply (λ p. (1 ≤ p.delay) × P p.signal) R (λ p h. pin-alike p h.0 h.1) pins
      (both (λ p. 1 ≤ p.delay) (λ p. P p.signal) pins (recursion_from_All (λ p. 1 ≤ p.delay) pins ok.delay) (pins_all P pins k)) in
      let see = all_imply R (λ p. seen_value (value d) t p ≡ seen_value (value c) t p) (λ p h. h.0) pins all in
      let test : Pin → Bool = λ p. decides kind (seen_value (value c) t p) in
      let cut : looked_pins d t kind pins ≡ looked_pins c t kind pins = cut_alike (decides kind) (seen_value (value c) t) (seen_value (value d) t) pins
      (all_cut (λ p. seen_value (value c) t p ≡ seen_value (value d) t p) test pins (all_imply R (λ p. seen_value (value c) t p ≡ seen_value (value d) t p) (λ p h. sym h.0) pins all)) in
      let spans = all_cut (λ p. pin_span (span d) t p ≡ pin_span (span c) t p) test pins (all_imply R (λ p. pin_span (span d) t p ≡ pin_span (span c) t p) (λ p h. h.1) pins all) in
      record {
        value = ap (gate_value kind) (map_same (seen_value (value d) t) (seen_value (value c) t) pins see);
        span = ap (λ h. gate_span (h + 1) t (least_delay pins) (map (pin_span (span d) t) (looked_pins d t kind pins))) same_horizon ∙ (ap (gate_span (c.horizon + 1) t (least_delay pins)) (ap (map (pin_span (span d) t)) cut ∙ map_same (pin_span (span d) t) (pin_span (span c) t) (looked_pins c t kind pins) spans));
        look = ap Pins cut;
        children = ap (λ ps. map point (filter (λ p. nat_le p.delay t) ps)) cut;
      }

module _ (c d : Circuit) (c_ok : IsCircuit c) (d_ok : IsCircuit d) (same_horizon : d.horizon ≡ c.horizon) (P : ℕ → Type 0)
    (same : (s : ℕ) → P s → driver d s ≡ driver c s) (closed : (s : ℕ) → P s → AllByRecursion P (read_by (driver c s))) where
  values-alike : (t s : ℕ) → P s → (value d s t ≡ value c s t) × (span d s t ≡ span c s t)
  values-alike = at_all_times (λ t. (s : ℕ) → P s → (value d s t ≡ value c s t) × (span d s t ≡ span c s t)) (λ t before s h.
      let k = driver-alike c d same_horizon P t before (driver c s) (length c.drivers) c.horizon (driver_fits c c_ok s) (closed s h) in
      (value_is d d_ok s t ∙ rw (same s h) (k.value ∙ sym (value_is c c_ok s t)), span_is d d_ok s t ∙ rw (same s h) (k.span ∙ sym (span_is c c_ok s t))))

  base-alike : (s t : ℕ) → driver d s ≡ driver c s → base_answer d s t ≡ base_answer c s t
  unfolding base_answer
  base-alike s t e = ap (λ h. base_from (h + 1) t (driver d s)) same_horizon ∙ ap (base_from (c.horizon + 1) t) e

  pub alike : (s t : ℕ) → P s → IsAlike c d s t
  unfolding children
  alike s t h =
      let k = driver-alike c d same_horizon P t (λ w _ x p. values-alike w x p) (driver c s) (length c.drivers) c.horizon (driver_fits c c_ok s) (closed s h) in
      record { value = (values-alike t s h).0; span = (values-alike t s h).1; look = rw (same s h) k.look; driver = same s h; base = base-alike s t (same s h); children = rw (same s h) k.children }

-- the signals that are free of s are closed under what they read
pub cone-step : (c : Circuit) (x p s : ℕ) → Contains (read_by (driver c x)) p → IsInCone c p s → IsInCone c x s
cone-step c x p s h Itself = Reads Itself h
cone-step c x p u h (Reads {s} k r) = Reads (cone-step c x p s h k) r

free-closed : (c : Circuit) (s x : ℕ) → IsFree c s x → AllByRecursion (IsFree c s) (read_by (driver c x))
free-closed c s x free = recursion_from_All (IsFree c s) (read_by (driver c x)) (λ k d l h. free (cone-step c x (get_or (read_by (driver c x)) k d) s (Contains-get_or (read_by (driver c x)) k d l) h))

held-drives : (c : Circuit) (s : ℕ) (w : Value) (x : ℕ) → IsFree c s x → driver (forced_circuit c s w) x ≡ driver c x
held-drives c s w x free = elim (cases_eq x s) [
  | inl e ↦ absurd (free (subst (λ y. IsInCone c x y) e Itself))
  | inr n ↦ get_or-set_other c.drivers s x (Input (record { time = 0; value = w } ∷ [])) (Input []) n
]

-- a circuit with a signal held is a circuit
pub held-fits : (c : Circuit) (s : ℕ) (w : Value) → IsCircuit c → IsCircuit (forced_circuit c s w)
held-fits c s w ok =
    let settings : List Setting = record { time = 0; value = w } ∷ [] in
    let fits : IsDriver (length c.drivers) c.horizon (Input settings) = record {
      within = All-from_recursion (λ a. a.time ≤ c.horizon) settings (omega arith, tt);
      different = λ i j d l h. absurd (omega arith);
    } in
    subst (λ n. All (IsDriver n c.horizon) (set c.drivers s (Input settings))) (sym (length-set c.drivers s (Input settings)))
    (All-set (IsDriver (length c.drivers) c.horizon) c.drivers s (Input settings) fits ok)

pub free-alike : (c : Circuit) (s : ℕ) (w : Value) → IsCircuit c → (x t : ℕ) → IsFree c s x → IsAlike c (forced_circuit c s w) x t
free-alike c s w ok x t free = alike c (forced_circuit c s w) ok (held-fits c s w ok) refl (IsFree c s) (held-drives c s w) (free-closed c s) x t free
