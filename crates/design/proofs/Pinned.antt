-- What a point looks at through one of its pins, by the driver of the signal.
use Rattle.std.proofs.Common.{◌≡◌, ℕ, ◌+◌, ◌-◌, ◌<◌, ◌≤◌, cond, List, length, get_or, Option, Some, None, IsSome, refl, sym, ap, ap₂, ◌∙◌, subst, arith, inl, inr, lt-ltb, le-ltb}
use Rattle.std.specs.Prelude.{slice_get, option_map, IfSome}
use Rattle.std.specs.Option.{SomeIff}
use Rattle.std.specs.Borrow.{Bor}
use Rattle.std.proofs.lemmas.Bool.{cases_lt}
use Rattle.std.proofs.lemmas.Option.{slice_get-get_or, slice_get-map, get_or_from_slice_get}
use Rattle.valid_intervals.specs.declared.Point.{Point}
use Rattle.valid_intervals.specs.Spans.{Span, from_to, moved_span, cut_at}
use Rattle.circuit_meaning.specs.Edges.{shown_edge, flop_span}
use Rattle.circuit_meaning.specs.declared.FlipFlop.{FlipFlop}
use Rattle.circuit_meaning.specs.declared.Pin.{Pin}
use Rattle.circuit_meaning.specs.Circuit.{Circuit, driver, IsCircuit, read_by}
use Rattle.gate_values.specs.declared.Kind.{Kind}
use Rattle.circuit_meaning.specs.Cells.{span, pin_span}
use Rattle.circuit_meaning.specs.Need.{IsEvaluable, HasChildren}
use Rattle.circuit_meaning.specs.Looks.{pin_point, flop_points, pin_points_at, pin_points, no_pin, interval_at, pin_interval}
use Rattle.circuit_meaning.proofs.Callers.{shown_edge-le, cell-covers}
use Rattle.design.specs.declared.rows.SignalView.TheVariants as row
use Rattle.design.specs.inner.KeptDesigns.{IsViewOf}
use Rattle.design.specs.KeptDesigns.{pins_with}
use Rattle.design.specs.Pins.{pin_at, heard_of}
use Rattle.design.specs.inner.Given.{later_of}
use Rattle.design.proofs.Answered.{get_or-pins_with, length-pins_with, gate-reads, flop-spans}

module _ (c : Circuit) (ok : IsCircuit c) (s t k limit : ℕ) (top : limit ≡ c.horizon + 1) (within : t ≤ c.horizon) where
  module _ (kind : Kind) (signals delays : Bor (List ℕ)) (m : ℕ) (src : IsViewOf c s (row.Gate kind signals delays m)) (l : k < length (read_by (driver c s))) where
    abbrev pins : List Pin
    pins = pins_with signals.now delays.now

    -- the pin number k
    abbrev pin : Pin
    pin = record { signal = get_or signals.now k 0; delay = get_or delays.now k 0 }

    few : k < length signals.now
    few = subst (λ xs. k < length xs) (gate-reads c ok s t limit top kind signals delays m src) l

    pub gate-pin : k < length delays.now
    gate-pin = let h = few in omega (arith, h, src.fits.0)

    short : k < length pins
    short = let h = few in omega (arith, h, length-pins_with signals.now delays.now src.fits.0)

    pin-is : (d : Pin) → get_or pins k d ≡ pin
    pin-is d = get_or-pins_with signals.now delays.now k d src.fits.0 few

    at : slice_get pins k ≡ Some pin
    at = slice_get-get_or pins k no_pin short ∙ ap Some (pin-is no_pin)

    pub gate-delay : (d : ℕ) → d ≡ get_or delays.now k 0 → (1 ≤ d) × (d ≤ 1000000)
    gate-delay d e =
        let low = subst (λ (p : Pin). 1 ≤ p.delay) (pin-is no_pin) (src.sound.delay k no_pin short) in
        let high = subst (λ (p : Pin). p.delay ≤ 1000000) (pin-is no_pin) (src.within k no_pin short) in
        (omega (arith, low, e), omega (arith, high, e))

    -- what the pin reads
    reads : slice_get (pin_points c s t) k ≡ Some (pin_point t pin)
    reads = ap (λ d. slice_get (pin_points_at t d) k) src.driver ∙ slice_get-map (pin_point t) pins k ∙ ap (option_map (pin_point t)) at

    pub gate-view : (d : ℕ) → d ≡ get_or delays.now k 0 → (o : Option ℕ) → SomeIff o (d ≤ t) (t - d) → slice_get (pin_points c s t) k ≡ Some (option_map (pin_at c s k) o)
    gate-view d e None h =
        reads ∙ ap (λ b. Some (cond b None (Some (record { signal = pin.signal; time = t - pin.delay })))) (lt-ltb t pin.delay (grind (arith, h, e)))
    gate-view d e (Some u) h =
        reads ∙ ap (λ b. Some (cond b None (Some (record { signal = pin.signal; time = t - pin.delay })))) (le-ltb t pin.delay (let low = h.0 in omega (arith, low, e)))
        ∙ ap₂ (λ (a : ℕ) (b : ℕ). Some (Some (record { signal = a; time = b }))) (ap (λ xs. get_or xs k 0) (sym (gate-reads c ok s t limit top kind signals delays m src))) (let is = h.1 in omega (arith, is, e))

    pub gate-earlier : (d : ℕ) → d ≡ get_or delays.now k 0 → (o : Option ℕ) → SomeIff o (d ≤ t) (t - d) → IfSome o (λ u. u < t)
    gate-earlier d e None h = tt
    gate-earlier d e (Some u) h = let low = (gate-delay d e).0 in let is = h.1 in let le = h.0 in omega (arith, low, is, le)

    heard-is : heard_of c s t k ≡ option_map (λ (p : Point). span c p.signal p.time) (pin_point t pin)
    heard-is = ap (option_map (λ (p : Point). span c p.signal p.time)) (get_or_from_slice_get (pin_points c s t) k (pin_point t pin) None reads)

    unheard : t < pin.delay → heard_of c s t k ≡ None
    unheard l = heard-is ∙ ap (λ b. option_map (λ (p : Point). span c p.signal p.time) (cond b None (Some (record { signal = pin.signal; time = t - pin.delay })))) (lt-ltb t pin.delay l)

    heard : pin.delay ≤ t → heard_of c s t k ≡ Some (span c pin.signal (t - pin.delay))
    heard l = heard-is ∙ ap (λ b. option_map (λ (p : Point). span c p.signal p.time) (cond b None (Some (record { signal = pin.signal; time = t - pin.delay })))) (le-ltb t pin.delay l)

    pub heard-starts : (d : ℕ) → d ≡ get_or delays.now k 0 → (o : Option Span) → o ≡ heard_of c s t k → IfSome o (λ a. a.start + d ≤ t)
    heard-starts d e o h =
        let P : Option Span → Type 0 = λ q. IfSome q (λ a. a.start + d ≤ t) in
        elim (cases_lt t pin.delay) [
          | inl l ↦ subst P {x = None} (sym (h ∙ unheard l)) tt
          | inr l ↦
              let covered = cell-covers c ok (t - pin.delay) pin.signal (omega arith) in
              let low = covered.inside.low in
              subst P {x = Some (span c pin.signal (t - pin.delay))} (sym (h ∙ heard l)) (omega (arith, low, e, l))
        ]

    seen-span : later_of pin.delay (heard_of c s t k) ≡ pin_span (span c) t pin
    seen-span = elim (cases_lt t pin.delay) [
      | inl l ↦ ap (later_of pin.delay) (unheard l) ∙ sym (ap (λ b. cond b (from_to 0 pin.delay) (moved_span pin.delay (span c pin.signal (t - pin.delay)))) (lt-ltb t pin.delay l))
      | inr l ↦ ap (later_of pin.delay) (heard l) ∙ sym (ap (λ b. cond b (from_to 0 pin.delay) (moved_span pin.delay (span c pin.signal (t - pin.delay)))) (le-ltb t pin.delay l))
    ]

    pub gate-sees : (d : ℕ) → d ≡ get_or delays.now k 0 → (o : Option Span) → o ≡ heard_of c s t k → (a : Span) → a ≡ cut_at limit (later_of d o) → a ≡ pin_interval c s t k
    gate-sees d e o h a is =
        is ∙ ap₂ (λ (n : ℕ) (q : Option Span). cut_at limit (later_of n q)) e h ∙ ap (cut_at limit) seen-span ∙ ap (λ n. cut_at n (pin_span (span c) t pin)) top
        ∙ ap (λ p. cut_at (c.horizon + 1) (pin_span (span c) t p)) (sym (pin-is no_pin)) ∙ ap (λ d. interval_at c s t d k) (sym src.driver)

  module _ (f : FlipFlop) (signals : Bor (List ℕ)) (src : IsViewOf c s (row.Flop f signals)) (l : k < length (read_by (driver c s))) (asks : IsEvaluable c s t) where
    first : k ≡ 0
    first = let h : k < 1 = subst (λ d. k < length (read_by d)) src.driver l in omega arith

    flop-at : (o : Option ℕ) → IsSome o → slice_get (flop_points f.pin o) k ≡ Some (option_map (λ (u : ℕ). record { signal = f.pin; time = u }) o)
    flop-at None h = absurd (cc h)
    flop-at (Some e) h = rw first refl

    pub flop-view : (o : Option ℕ) → o ≡ shown_edge f.clock f.delay t → slice_get (pin_points c s t) k ≡ Some (option_map (pin_at c s k) o)
    flop-view o e =
        let shown : IsSome (shown_edge f.clock f.delay t) = subst (HasChildren t) src.driver asks in
        let pin : get_or (read_by (driver c s)) k 0 ≡ f.pin = ap (λ d. get_or (read_by d) k 0) src.driver ∙ rw first refl in
        ap (λ d. slice_get (pin_points_at t d) k) src.driver ∙ ap (λ q. slice_get (flop_points f.pin q) k) (sym e) ∙ flop-at o (subst IsSome (sym e) shown)
        ∙ ap (λ (n : ℕ). Some (option_map (λ (u : ℕ). record { signal = n; time = u }) o)) (sym pin)

    pub flop-earlier : (o : Option ℕ) → o ≡ shown_edge f.clock f.delay t → IfSome o (λ u. u < t)
    flop-earlier None e = tt
    flop-earlier (Some u) e = let low = shown_edge-le f.clock f.delay t u (sym e) in let some = src.sound.delay in omega (arith, low, some)

    pub flop-sees : (a : Span) → a ≡ flop_span limit f.delay f.clock (shown_edge f.clock f.delay t) → a ≡ pin_interval c s t k
    flop-sees a is =
        is ∙ ap (λ n. flop_span n f.delay f.clock (shown_edge f.clock f.delay t)) top ∙ sym (flop-spans c ok s t limit top f signals src) ∙ ap (λ d. interval_at c s t d k) (sym src.driver)
