-- The value of a signal by what drives it.
use Rattle.std.proofs.Common.{◌≡◌, ℕ, ◌-◌, ◌<◌, ◌≤◌, List, [], ◌∷◌, map, length, get_or, take, set, ◌+◌, ◌++◌, Vec, Global, Option, Some, None, refl, sym, ap, ◌∙◌, subst, arith, lt-ltb, le-ltb, take_all}
use Rattle.gate_values.proofs.Callers.{allows-few}
use Rattle.gate_values.specs.declared.Value.{Value}
use Rattle.gate_values.specs.declared.Value.TheVariants.{X}
use Rattle.gate_values.specs.declared.Kind.{Kind}
use Rattle.gate_values.specs.Gates.{gate_value}
use Rattle.circuit_meaning.specs.Circuit.{Input, Gate, Flop, Circuit, IsCircuit, IsDriver, driver}
use Rattle.circuit_meaning.specs.Forward.{value, value_from, seen_value, flop_value, input_value, last_setting}
use Rattle.circuit_meaning.specs.Edges.{shown_edge}
use Rattle.circuit_meaning.proofs.Callers.{shown_edge-le, value_is, driver_fits}
use Rattle.reference_simulator.specs.declared.Element.{Element}
use Rattle.reference_simulator.specs.declared.Element.TheVariants.{Input as InputElement, Gate as GateElement, Flop as FlopElement}
use Rattle.circuit_meaning.specs.declared.Setting.{Setting}
use Rattle.circuit_meaning.specs.declared.Pin.{Pin}
use Rattle.circuit_meaning.specs.declared.FlipFlop.{FlipFlop}
use Rattle.reference_simulator.specs.Elements.{driver_of, circuit_of}
use Rattle.std.proofs.lemmas.List.{get_or-map, take_more_set, map_more}
use Rattle.std.proofs.Math.ListN.{length-map}

module _ (c : Circuit) (ok : IsCircuit c) (s t : ℕ) where
  pub value-input : (settings : List Setting) → driver c s ≡ Input settings → value c s t ≡ input_value (last_setting settings t)
  value-input settings e = value_is c ok s t ∙ ap (value_from (value c) t) e

  pub value-gate : (kind : Kind) (pins : List Pin) → driver c s ≡ Gate kind pins → value c s t ≡ gate_value kind (map (seen_value (value c) t) pins)
  value-gate kind pins e = value_is c ok s t ∙ ap (value_from (value c) t) e

  pub value-flop : (f : FlipFlop) → driver c s ≡ Flop f → value c s t ≡ flop_value (value c) f (shown_edge f.clock f.delay t)
  value-flop f e = value_is c ok s t ∙ ap (value_from (value c) t) e

pub element-driver : (h : ℕ) (elements : List Element) (c : Circuit) (s : ℕ) (r : Element) → circuit_of h elements ≡ c → s < length c.drivers → r ≡ get_or elements s r → driver c s ≡ driver_of r
element-driver h elements c s r e = subst (λ c. s < length c.drivers → r ≡ get_or elements s r → driver c s ≡ driver_of r) e
    (λ l q. let k : s < length elements = rw length-map at l in get_or-map driver_of elements s r (Input []) k ∙ ap driver_of (sym q))

pub view-circuit : (h : ℕ) (elements : List Element) (c : Circuit) → circuit_of h elements ≡ c → IsCircuit (circuit_of h elements) → IsCircuit c
view-circuit h rows c e ok = subst IsCircuit e ok

pub element-fits : (c : Circuit) → IsCircuit c → (s : ℕ) (r : Element) → driver c s ≡ driver_of r → IsDriver (length c.drivers) c.horizon (driver_of r)
element-fits c ok s r e = subst (IsDriver (length c.drivers) c.horizon) e (driver_fits c ok s)

module _ (c : Circuit) (ok : IsCircuit c) (s t : ℕ) (r : Element) (e : driver c s ≡ driver_of r) where
  pub at-input : (v : Vec Setting Global) → r ≡ InputElement v → (xs : List Setting) → xs ≡ v.items → (o p : Option Setting) → o ≡ last_setting xs t → o ≡ p → input_value p ≡ value c s t
  at-input v q xs x o p l k = ap input_value (sym k ∙ l) ∙ ap (λ ys. input_value (last_setting ys t)) x ∙ sym (value-input c ok s t v.items (e ∙ ap driver_of q))

  pub at-flop : (f : FlipFlop) → r ≡ FlopElement f → (o p : Option ℕ) → o ≡ shown_edge f.clock f.delay t → o ≡ p → flop_value (value c) f p ≡ value c s t
  at-flop f q o p l k = ap (flop_value (value c) f) (sym k ∙ l) ∙ sym (value-flop c ok s t f (e ∙ ap driver_of q))

  pub flop-calls : (f : FlipFlop) → r ≡ FlopElement f → (x : ℕ) (o : Option ℕ) → o ≡ shown_edge f.clock f.delay t → o ≡ Some x → (x < t) × (f.pin < length c.drivers)
  flop-calls f q x o l k =
      let fits : IsDriver (length c.drivers) c.horizon (Flop f) = subst (IsDriver (length c.drivers) c.horizon) (e ∙ ap driver_of q) (driver_fits c ok s) in
      let pos = fits.delay in
      let low = shown_edge-le f.clock f.delay t x (sym l ∙ k) in
      (omega arith, fits.pin)

  pub at-gate : (kind : Kind) (v : Vec Pin Global) → r ≡ GateElement kind v → (xs : List Value) → xs ≡ map (seen_value (value c) t) v.items → gate_value kind xs ≡ value c s t
  at-gate kind v q xs x = ap (gate_value kind) x ∙ sym (value-gate c ok s t kind v.items (e ∙ ap driver_of q))

  pub few-pins : (kind : Kind) (v : Vec Pin Global) → r ≡ GateElement kind v → length v.items ≤ 64
  few-pins kind v q =
      let fits : IsDriver (length c.drivers) c.horizon (Gate kind v.items) = subst (IsDriver (length c.drivers) c.horizon) (e ∙ ap driver_of q) (driver_fits c ok s) in
      allows-few kind (length v.items) fits.count

-- one pin more is seen
pub see-more : (f : Pin → Value) (seen_value : List Value) (pins : List Pin) (i : ℕ) (w : Value) (d : Pin) → i < length seen_value → i < length pins → take i seen_value ≡ map f (take i pins) → w ≡ f (get_or pins i d) → take (i + 1) (set seen_value i w) ≡ map f (take (i + 1) pins)
see-more f seen_value pins i w d h k e q = take_more_set seen_value i w h ∙ ap (λ a. a ++ w ∷ []) e ∙ ap (λ x. map f (take i pins) ++ x ∷ []) q ∙ sym (map_more f pins i d k)

module _ (v : ℕ → ℕ → Value) (t : ℕ) (pins : List Pin) (i : ℕ) (p : Pin) (at : p ≡ get_or pins i p) where
  pub seen-late : p.delay ≤ t → (w : Value) → w ≡ v p.signal (t - p.delay) → w ≡ seen_value v t (get_or pins i p)
  seen-late h w e = subst (λ q. w ≡ seen_value v t q) at (rw (le-ltb t p.delay h) e)

  pub seen-early : t < p.delay → X ≡ seen_value v t (get_or pins i p)
  seen-early h = subst (λ q. X ≡ seen_value v t q) at (rw (lt-ltb t p.delay h))

-- all pins are seen
pub see-all : (f : Pin → Value) (seen_value : List Value) (pins : List Pin) (i n : ℕ) → take i seen_value ≡ map f (take i pins) → i ≡ n → n ≡ length pins → take n seen_value ≡ map f pins
see-all f seen_value pins i n e q l = subst (λ k. take k seen_value ≡ map f pins) q (e ∙ ap (map f) (take_all i pins (omega arith)))

some_element : Element
some_element = FlopElement (record { pin = 0; delay = 0; clock = None; initial = X })

-- elements of which each fits make a circuit
pub drivers-fit : (h : ℕ) (elements : List Element) → ((k : ℕ) (d : Element) → k < length elements → IsDriver (length elements) h (driver_of (get_or elements k d))) → IsCircuit (circuit_of h elements)
drivers-fit h elements all = λ k d l.
    let within : k < length elements = rw length-map at l in
    let long : length (map driver_of elements) ≡ length elements = length-map elements driver_of in
    let at : get_or (map driver_of elements) k d ≡ driver_of (get_or elements k some_element) = get_or-map driver_of elements k some_element d within in
    subst (IsDriver (length (map driver_of elements)) h) (sym at) (subst (λ n. IsDriver n h (driver_of (get_or elements k some_element))) (sym long) (all k some_element within))

-- and an element of a circuit fits
pub driver-fits : (h : ℕ) (elements : List Element) (k : ℕ) (e : Element) → k < length elements → e ≡ get_or elements k e → IsCircuit (circuit_of h elements) → IsDriver (length elements) h (driver_of e)
driver-fits h elements k e within at ok =
    let long : length (map driver_of elements) ≡ length elements = length-map elements driver_of in
    let inside : k < length (map driver_of elements) = rw long within in
    subst (λ n. IsDriver n h (driver_of e)) long (element-fits (circuit_of h elements) ok k e (element-driver h elements (circuit_of h elements) k e refl inside at))
