-- The interval of a cell, from what its looked pins have in common.
use Rattle.std.proofs.Common.{◌≡◌, ℕ, zero, suc, ◌+◌, ◌-◌, ◌≤◌, Bool, true, false, cond, List, [], ◌∷◌, map, fold, take, length, get_or, Option, Some, None, IsSome, IsNone, refl, sym, ap, ap₂, ◌∙◌, subst, arith}
use Rattle.std.specs.Borrow.{Bor}
use Rattle.std.specs.List.{range_with_len}
use Rattle.std.proofs.lemmas.List.{length-map, take_all}
use Rattle.std.proofs.lemmas.Simd.{map-map}
use Rattle.gate_values.specs.declared.Kind.{Kind}
use Rattle.gate_values.specs.declared.Kind.TheVariants.{Dff}
use Rattle.gate_values.specs.Gates.{up_to_first, decides}
use Rattle.gate_values.proofs.Callers.{allows-some}
use Rattle.valid_intervals.specs.declared.Point.{Point}
use Rattle.valid_intervals.specs.Spans.{Span, from_to, meet, cut_at}
use Rattle.circuit_meaning.specs.Edges.{shown_edge}
use Rattle.circuit_meaning.specs.declared.FlipFlop.{FlipFlop}
use Rattle.circuit_meaning.specs.declared.Pin.{Pin}
use Rattle.circuit_meaning.specs.Circuit.{Circuit, IsCircuit}
use Rattle.circuit_meaning.specs.Forward.{value, seen_value}
use Rattle.circuit_meaning.specs.Cells.{span, least_delay, looked_pins, pin_span}
use Rattle.circuit_meaning.specs.Need.{IsEvaluable, HasChildren}
use Rattle.circuit_meaning.specs.Looks.{kind_of, pin_point, flop_points, pin_points_at, sees, looked_points, no_pin, interval_at, pin_interval, met_interval}
use Rattle.circuit_meaning.proofs.Callers.{cell-covers, met-all, gate-span, cut-sources, cut-take, cut-whole}
use Rattle.design.specs.declared.rows.SignalView.TheVariants as row
use Rattle.design.specs.inner.KeptDesigns.{IsViewOf}
use Rattle.design.specs.KeptDesigns.{pins_with}

-- the elements by their places are the list
module _ {A B : Type 0} (f : A → B) (d : A) where
  by-place : (xs : List A) (g : ℕ → A) (a n : ℕ) → n ≤ length xs → ((k : ℕ) → g (a + k) ≡ get_or xs k d) → map (λ k. f (g k)) (range_with_len a n) ≡ map f (take n xs)
  by-place xs g a zero l h = refl
  by-place [] g a (suc n) l h = absurd (omega arith)
  by-place (x ∷ xs) g a (suc n) l h =
      ap₂ (λ (y : B) (ys : List B). y ∷ ys) (ap f (let e : a + 0 ≡ a = omega arith in subst (λ m. g m ≡ x) e (h 0)))
      (by-place xs g (a + 1) n (omega arith) (λ k. let e : a + suc k ≡ a + 1 + k = omega arith in subst (λ m. g m ≡ get_or xs k d) e (h (suc k))))

length-cut : (c : Circuit) (t : ℕ) (kind : Kind) (pins : List Pin) → length (up_to_first (λ o. decides kind (sees c o)) (map (pin_point t) pins)) ≡ length (looked_pins c t kind pins)
length-cut c t kind pins = ap length (sym (cut-sources c t kind pins)) ∙ length-map (looked_pins c t kind pins) (pin_point t)

-- the meet with all times adds nothing
whole-first : (limit : ℕ) (x : Span) → limit ≤ 2000002 → meet (from_to 0 2000002) (cut_at limit x) ≡ cut_at limit x
whole-first limit x l = ap₂ from_to (omega arith) (omega arith)

met-parts : (m limit : ℕ) (xs : List Span) → limit ≤ 2000002 → 1 ≤ length xs → meet (fold meet (from_to 0 2000002) (map (cut_at limit) xs)) (from_to m limit) ≡ fold meet (from_to m limit) xs
met-parts m limit [] l some = absurd (omega arith)
met-parts m limit (x ∷ xs) l some = ap (λ a. meet (fold meet a (map (cut_at limit) xs)) (from_to m limit)) (whole-first limit x l) ∙ met-all m limit x xs

cut-some : {A : Type 0} (test : A → Bool) (xs : List A) → 1 ≤ length xs → 1 ≤ length (up_to_first test xs)
cut-some test [] l = l
cut-some test (x ∷ xs) l = omega arith

module _ (c : Circuit) (ok : IsCircuit c) (s t limit : ℕ) (top : limit ≡ c.horizon + 1) (small : limit ≤ 1000001) (within : t ≤ c.horizon) (asks : IsEvaluable c s t) where
  module _ (kind : Kind) (signals delays : Bor (List ℕ)) (m : ℕ) (src : IsViewOf c s (row.Gate kind signals delays m)) where
    abbrev pins : List Pin
    pins = pins_with signals.now delays.now

    passed : m ≤ t
    passed = let k : least_delay pins ≤ t = subst (HasChildren t) src.driver asks in let e = src.fits.1 in omega (arith, e, k)

    -- the intervals of the looked pins
    parts : map (pin_interval c s t) (range_with_len 0 (length (looked_points c s t))) ≡ map (cut_at (c.horizon + 1)) (map (pin_span (span c) t) (looked_pins c t kind pins))
    parts =
        let cut = looked_pins c t kind pins in
        let n = length cut in
        let part : Pin → Span = λ p. cut_at (c.horizon + 1) (pin_span (span c) t p) in
        ap (λ d. map (interval_at c s t d) (range_with_len 0 (length (looked_points c s t)))) src.driver
        ∙ ap (λ l. map (λ k. part (get_or pins k no_pin)) (range_with_len 0 l)) (ap (λ d. length (up_to_first (λ o. decides (kind_of d) (sees c o)) (pin_points_at t d))) src.driver ∙ length-cut c t kind pins)
        ∙ by-place part no_pin pins (λ k. get_or pins k no_pin) 0 n (cut-whole (λ p. decides kind (seen_value (value c) t p)) pins) (λ k. ap (λ j. get_or pins j no_pin) (omega arith))
        ∙ ap (map part) (sym (cut-take (λ p. decides kind (seen_value (value c) t p)) pins n (omega arith)))
        ∙ ap (map part) (take_all n cut (omega arith))
        ∙ sym (map-map (cut_at (c.horizon + 1)) (pin_span (span c) t) cut)

    some-part : 1 ≤ length (map (pin_span (span c) t) (looked_pins c t kind pins))
    some-part = rw (length-map (looked_pins c t kind pins) (pin_span (span c) t)) (cut-some (λ p. decides kind (seen_value (value c) t p)) pins (allows-some kind (length pins) src.sound.count))

    gate-meets : meet (met_interval c s t (length (looked_points c s t))) (from_to m limit) ≡ span c s t
    gate-meets =
        let spans = map (pin_span (span c) t) (looked_pins c t kind pins) in
        ap₂ (λ (xs : List Span) (n : ℕ). meet (fold meet (from_to 0 2000002) xs) (from_to m n)) parts top
        ∙ met-parts m (c.horizon + 1) spans (omega (arith, top, small)) some-part
        ∙ ap (λ n. fold meet (from_to n (c.horizon + 1)) spans) src.fits.1
        ∙ sym (gate-span c ok s t kind pins src.driver (let e = src.fits.1 in let l = passed in omega (arith, e, l)))

    module _ (a b : Span) (e : a ≡ met_interval c s t (length (looked_points c s t))) (f : b ≡ from_to m limit) where
      pub gate-over : meet a b ≡ span c s t
      gate-over = ap₂ meet e f ∙ gate-meets

      pub gate-overlaps : (meet a b).stop ≤ (meet a b).start → ⊥
      gate-overlaps h =
          let inside = (cell-covers c ok t s within).inside in
          let low = inside.low in
          let high = inside.high in
          let k : (span c s t).stop ≤ (span c s t).start = subst (λ (x : Span). x.stop ≤ x.start) gate-over h in
          omega (arith, low, high, k)

  module _ (f : FlipFlop) (signals : Bor (List ℕ)) (src : IsViewOf c s (row.Flop f signals)) where
    flop-one : (test : Option Point → Bool) (o : Option ℕ) → IsSome o → length (up_to_first test (flop_points f.pin o)) ≡ 1
    flop-one test None h = absurd (cc h)
    flop-one test (Some e) h = go (test (Some here))
      where
        here : Point
        here = record { signal = f.pin; time = e }

        go : (b : Bool) → length {A = Option Point} (Some here ∷ cond b [] []) ≡ 1
        go true = refl
        go false = refl

    pub flop-over : (a : Span) → a ≡ met_interval c s t (length (looked_points c s t)) → a ≡ span c s t
    flop-over a e =
        let covered = (cell-covers c ok t s within).within in
        e ∙ ap (met_interval c s t) (ap (λ d. length (up_to_first (λ o. decides (kind_of d) (sees c o)) (pin_points_at t d))) src.driver
        ∙ flop-one (λ o. decides Dff (sees c o)) (shown_edge f.clock f.delay t) (subst (HasChildren t) src.driver asks))
        ∙ ap (λ d. meet (from_to 0 2000002) (interval_at c s t d 0)) src.driver
        ∙ ap₂ from_to (omega arith) (omega (arith, covered, top, small))

pub some_unless : {A : Type 0} (o : Option A) → (IsNone o → ⊥) → IsSome o
some_unless None h = absurd (h refl)
some_unless (Some a) h = refl
