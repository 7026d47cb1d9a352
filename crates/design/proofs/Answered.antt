-- What the accessors answer, by the driver of the signal.
use Rattle.std.proofs.Common.{◌≡◌, ℕ, zero, suc, ◌+◌, ◌<◌, ◌≤◌, min, true, List, [], ◌∷◌, map, length, get_or, All, None, IsSome, refl, sym, ap, ap₂, ◌∙◌, subst, arith}
use Rattle.std.specs.Borrow.{Bor}
use Rattle.std.specs.List.{AllByRecursion}
use Rattle.std.proofs.Math.ListN.{length-map}
use Rattle.std.proofs.lemmas.List.Elements.{recursion_from_All, All-from_recursion}
use Rattle.gate_values.specs.declared.Value.{Value}
use Rattle.gate_values.specs.declared.Value.TheVariants.{X}
use Rattle.gate_values.specs.declared.Kind.{Kind}
use Rattle.gate_values.specs.Gates.{is_unknown}
use Rattle.gate_values.proofs.Callers.{allows-some, gate_value-unknown}
use Rattle.valid_intervals.specs.declared.Cell.{Cell}
use Rattle.valid_intervals.specs.Spans.{Span, from_to}
use Rattle.circuit_meaning.specs.Edges.{shown_edge, flop_span}
use Rattle.circuit_meaning.specs.declared.FlipFlop.{FlipFlop}
use Rattle.circuit_meaning.specs.declared.Setting.{Setting}
use Rattle.circuit_meaning.specs.declared.Pin.{Pin}
use Rattle.circuit_meaning.specs.Circuit.{Driver, Input, Gate, Flop, Circuit, driver, IsDriver, IsCircuit, read_by}
use Rattle.circuit_meaning.specs.Forward.{value, value_from, seen_value, flop_value, input_value, last_setting}
use Rattle.circuit_meaning.specs.Cells.{span, span_from, least_delay, input_start, next_setting, looked_pins, pin_span, cell_at, point_at}
use Rattle.circuit_meaning.specs.Need.{IsEvaluable, HasChildren}
use Rattle.circuit_meaning.proofs.Callers.{value_is, span_is, all_imply, least, seen-early, map_all, gate_span-early}
use Rattle.design.specs.declared.rows.SignalView.{SignalView as View}
use Rattle.design.specs.declared.rows.SignalView.TheVariants as row
use Rattle.design.specs.inner.KeptDesigns.{IsViewOf, driver_seen}
use Rattle.design.specs.KeptDesigns.{pins_with}

-- the pins as a whole
pub signals-pins_with : (signals delays : List ℕ) → length delays ≡ length signals → map (λ (p : Pin). p.signal) (pins_with signals delays) ≡ signals
signals-pins_with [] delays e = refl
signals-pins_with (s ∷ signals) [] e = absurd (omega arith)
signals-pins_with (s ∷ signals) (d ∷ delays) e = ap (λ rest. s ∷ rest) (signals-pins_with signals delays (omega arith))

pub length-pins_with : (signals delays : List ℕ) → length delays ≡ length signals → length (pins_with signals delays) ≡ length signals
length-pins_with [] delays e = refl
length-pins_with (s ∷ signals) [] e = absurd (omega arith)
length-pins_with (s ∷ signals) (d ∷ delays) e = ap suc (length-pins_with signals delays (omega arith))

pub get_or-pins_with : (signals delays : List ℕ) (k : ℕ) (d : Pin) → length delays ≡ length signals → k < length signals
    → get_or (pins_with signals delays) k d ≡ record { signal = get_or signals k 0; delay = get_or delays k 0 }
get_or-pins_with [] delays k d e l = absurd (omega arith)
get_or-pins_with (s ∷ signals) [] k d e l = absurd (omega arith)
get_or-pins_with (s ∷ signals) (x ∷ delays) zero d e l = refl
get_or-pins_with (s ∷ signals) (x ∷ delays) (suc k) d e l = get_or-pins_with signals delays k d (omega arith) (omega arith)

cell-is : (x : Cell) (a : Span) (v : Value) → x.span ≡ a → x.value ≡ v → x ≡ record { span = a; value = v }
cell-is x a v e f = ap₂ (λ (b : Span) (w : Value). record { span = b; value = w }) e f

module _ (c : Circuit) (ok : IsCircuit c) (s t limit : ℕ) (top : limit ≡ c.horizon + 1) where
  module _ (xs : Bor (List Setting)) (src : IsViewOf c s (row.Input xs)) where
    pub input-is : (cell : Cell) → cell.span ≡ from_to (input_start (last_setting xs.now t)) (next_setting xs.now t limit) → cell.value ≡ input_value (last_setting xs.now t) → cell ≡ cell_at c (point_at s t)
    input-is cell e v =
        let there : cell.span ≡ span c s t = e ∙ ap (λ n. from_to (input_start (last_setting xs.now t)) (next_setting xs.now t n)) top ∙ sym (span_is c ok s t ∙ ap (span_from c (span c) t) src.driver) in
        let shown : cell.value ≡ value c s t = v ∙ sym (value_is c ok s t ∙ ap (value_from (value c) t) src.driver) in
        cell-is cell (span c s t) (value c s t) there shown

    pub input-asks : IsEvaluable c s t → ⊥
    input-asks h = subst (HasChildren t) src.driver h

    pub input-reads : (n : ℕ) → n < length (read_by (driver c s)) → ⊥
    input-reads n h = let k : n < length (read_by (Input xs.now)) = subst (λ d. n < length (read_by d)) src.driver h in omega arith

  module _ (kind : Kind) (signals delays : Bor (List ℕ)) (m : ℕ) (src : IsViewOf c s (row.Gate kind signals delays m)) where
    abbrev pins : List Pin
    pins = pins_with signals.now delays.now

    pub gate-early : t < m → (cell : Cell) → cell ≡ record { span = from_to 0 (min m limit); value = X } → cell ≡ cell_at c (point_at s t)
    gate-early l cell e =
        let l' : t < least_delay pins = subst (λ n. t < n) src.fits.1 l in
        let early : AllByRecursion (λ p. is_unknown (seen_value (value c) t p) ≡ true) pins =
        all_imply (λ p. least_delay pins ≤ p.delay) (λ p. is_unknown (seen_value (value c) t p) ≡ true) (λ p h. ap is_unknown (seen-early (value c) t p (omega arith))) pins (least pins) in
        let shown : value c s t ≡ X = value_is c ok s t ∙ ap (value_from (value c) t) src.driver
        ∙ gate_value-unknown kind (map (seen_value (value c) t) pins) (map_all (λ v. is_unknown v ≡ true) (seen_value (value c) t) pins early) (rw length-map (allows-some kind (length pins) src.sound.count)) in
        let there : span c s t ≡ from_to 0 (min m (c.horizon + 1)) = span_is c ok s t ∙ ap (span_from c (span c) t) src.driver
        ∙ gate_span-early (c.horizon + 1) t (least_delay pins) (map (pin_span (span c) t) (looked_pins c t kind pins)) l' ∙ ap (λ n. from_to 0 (min n (c.horizon + 1))) (sym src.fits.1) in
        e ∙ cell-is (record { span = from_to 0 (min m limit); value = X }) (span c s t) (value c s t) (ap (λ n. from_to 0 (min m n)) top ∙ sym there) (sym shown)

    pub gate-rests : t < m → IsEvaluable c s t → ⊥
    gate-rests l h = let k : least_delay pins ≤ t = subst (HasChildren t) src.driver h in let e = src.fits.1 in omega (arith, e, k, l)

    pub gate-asks : m ≤ t → IsEvaluable c s t
    gate-asks l = subst (HasChildren t) (sym src.driver) (subst (λ n. n ≤ t) src.fits.1 l)

    pub gate-reads : read_by (driver c s) ≡ signals.now
    gate-reads = ap read_by src.driver ∙ signals-pins_with signals.now delays.now src.fits.0

  module _ (f : FlipFlop) (signals : Bor (List ℕ)) (src : IsViewOf c s (row.Flop f signals)) where
    pub flop-spans : span c s t ≡ flop_span (c.horizon + 1) f.delay f.clock (shown_edge f.clock f.delay t)
    flop-spans = span_is c ok s t ∙ ap (span_from c (span c) t) src.driver

    pub flop-idle : shown_edge f.clock f.delay t ≡ None → (cell : Cell) → cell ≡ record { span = flop_span limit f.delay f.clock None; value = f.initial } → cell ≡ cell_at c (point_at s t)
    flop-idle none cell e =
        let shown : value c s t ≡ f.initial = value_is c ok s t ∙ ap (value_from (value c) t) src.driver ∙ ap (flop_value (value c) f) none in
        let there : span c s t ≡ flop_span (c.horizon + 1) f.delay f.clock None = flop-spans ∙ ap (flop_span (c.horizon + 1) f.delay f.clock) none in
        e ∙ cell-is (record { span = flop_span limit f.delay f.clock None; value = f.initial }) (span c s t) (value c s t) (ap (λ n. flop_span n f.delay f.clock None) top ∙ sym there) (sym shown)

    pub flop-rests : shown_edge f.clock f.delay t ≡ None → IsEvaluable c s t → ⊥
    flop-rests none h = let k : IsSome (shown_edge f.clock f.delay t) = subst (HasChildren t) src.driver h in absurd (cc (subst IsSome none k))

    pub flop-asks : IsSome (shown_edge f.clock f.delay t) → IsEvaluable c s t
    flop-asks h = subst (HasChildren t) (sym src.driver) h

    pub flop-reads : read_by (driver c s) ≡ signals.now
    flop-reads = ap read_by src.driver ∙ sym src.fits

-- the signals of pins are those of the circuit
signals-within : (n : ℕ) (pins : List Pin) → AllByRecursion (λ p. p.signal < n) pins → AllByRecursion (λ x. x < n) (map (λ (p : Pin). p.signal) pins)
signals-within n [] h = tt
signals-within n (p ∷ pins) h = (h.0, signals-within n pins h.1)

driver-reads : (n horizon : ℕ) (d : Driver) → IsDriver n horizon d → AllByRecursion (λ x. x < n) (read_by d)
driver-reads n horizon (Input settings) h = tt
driver-reads n horizon (Gate kind pins) h = signals-within n pins (recursion_from_All (λ p. p.signal < n) pins h.signal)
driver-reads n horizon (Flop f) h = (h.pin, tt)

pub reads-within : (c : Circuit) (s : ℕ) (reads : List ℕ) (r : View) → IsViewOf c s r → reads ≡ read_by (driver_seen r) → All (λ x. x < length c.drivers) reads
reads-within c s reads r src e = subst (All (λ x. x < length c.drivers)) (sym e) (All-from_recursion (λ x. x < length c.drivers) (read_by (driver_seen r)) (driver-reads (length c.drivers) c.horizon (driver_seen r) src.sound))
