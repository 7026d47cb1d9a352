-- What a point looks at, told by its sources, is what the definitions of values, children and cells say.
use Rattle.std.proofs.Common.{◌≡◌, ℕ, zero, suc, ◌-◌, ◌<◌, ◌≤◌, ◌||◌, nat_lt, nat_le, Bool, true, false, cond, List, [], ◌∷◌, length, map, filter, take, refl, ap, sym, ◌∙◌, arith, Option, Some, None, IsSome, inl, inr, lt-ltb, le-ltb, le-leb}
use Rattle.std.specs.List.{AllByRecursion, list_any}
use Rattle.std.proofs.lemmas.Bool.{cases_lt, lt-leb}
use Rattle.std.proofs.lemmas.Simd.{map-map}
use Rattle.gate_values.specs.declared.Value.TheVariants.{X}
use Rattle.gate_values.specs.declared.Kind.{Kind}
use Rattle.gate_values.specs.declared.Kind.TheVariants.{Dff}
use Rattle.gate_values.specs.Gates.{gate_value, decides, up_to_first}
use Rattle.gate_values.proofs.Callers.{gate_value-looked, cut_alike, map-up_to_first}
use Rattle.valid_intervals.specs.declared.Point.{Point}
use Rattle.circuit_meaning.specs.Edges.{shown_edge}
use Rattle.circuit_meaning.specs.declared.Pin.{Pin}
use Rattle.circuit_meaning.specs.Circuit.{Circuit, Driver, Input, Gate, Flop, driver, IsCircuit}
use Rattle.circuit_meaning.specs.Forward.{value, value_from, flop_value, seen_value}
use Rattle.circuit_meaning.specs.Cells.{looked_pins}
use Rattle.circuit_meaning.specs.Need.{HasChildren, IsEvaluable, children, children_from, flop_child}
use Rattle.circuit_meaning.specs.Looks.{somes, kind_of, pin_point, flop_points, pin_points_at, pin_points, sees, looked_points}
use Rattle.circuit_meaning.proofs.Equations.{value_is, map_same}

all_of : {A : Type 0} (P : A → Type 0) → ((a : A) → P a) → (xs : List A) → AllByRecursion P xs
all_of P h [] = tt
all_of P h (x ∷ xs) = (h x, all_of P h xs)

pub sees-source : (c : Circuit) (t : ℕ) (p : Pin) → sees c (pin_point t p) ≡ seen_value (value c) t p
sees-source c t p = elim (nat_lt t p.delay) as (λ b. sees c (cond b None (Some (record { signal = p.signal; time = t - p.delay }))) ≡ cond b X (value c p.signal (t - p.delay))) [ true ↦ refl | false ↦ refl ]

sees-sources : (c : Circuit) (t : ℕ) (pins : List Pin) → map (sees c) (map (pin_point t) pins) ≡ map (seen_value (value c) t) pins
sees-sources c t pins = map-map (sees c) (pin_point t) pins ∙ map_same (λ p. sees c (pin_point t p)) (seen_value (value c) t) pins (all_of (λ p. sees c (pin_point t p) ≡ seen_value (value c) t p) (sees-source c t) pins)

-- the value that a driver gives, of what its pins see
seen-value : (c : Circuit) (t : ℕ) (d : Driver) → HasChildren t d → value_from (value c) t d ≡ gate_value (kind_of d) (map (sees c) (pin_points_at t d))
seen-value c t (Input settings) h = absurd h
seen-value c t (Gate kind pins) h = ap (gate_value kind) (sym (sees-sources c t pins))
seen-value c t (Flop f) h = go (shown_edge f.clock f.delay t) h
  where
    go : (o : Option ℕ) → IsSome o → flop_value (value c) f o ≡ gate_value Dff (map (sees c) (flop_points f.pin o))
    go None h = absurd (cc h)
    go (Some e) h = refl

module _ (c : Circuit) (s t : ℕ) where
  -- a point's value, of all its sources
  pub sources-value : IsCircuit c → IsEvaluable c s t → value c s t ≡ gate_value (kind_of (driver c s)) (map (sees c) (pin_points c s t))
  sources-value ok e = value_is c ok s t ∙ seen-value c t (driver c s) e

  -- and of those that are looked at
  pub looked-value : IsCircuit c → IsEvaluable c s t → gate_value (kind_of (driver c s)) (map (sees c) (looked_points c s t)) ≡ value c s t
  looked-value ok e =
      let kind = kind_of (driver c s) in
      ap (gate_value kind) (map-up_to_first (decides kind) (sees c) (pin_points c s t)) ∙ gate_value-looked kind (map (sees c) (pin_points c s t)) ∙ sym (sources-value ok e)

-- the children are the sources that are looked at
late-somes : (t : ℕ) (pins : List Pin) → map (λ p. record { signal = p.signal; time = t - p.delay }) (filter (λ p. nat_le p.delay t) pins) ≡ somes (map (pin_point t) pins)
late-somes t [] = refl
late-somes t (p ∷ pins) =
    let point : Pin → Point = λ p. record { signal = p.signal; time = t - p.delay } in
    elim (cases_lt t p.delay) [
      | inl l ↦ rw (lt-leb _ _ l, lt-ltb _ _ l) (late-somes t pins)
      | inr l ↦ rw (le-leb _ _ l, le-ltb _ _ l) (ap (λ rest. point p ∷ rest) (late-somes t pins))
    ]

pub cut-sources : (c : Circuit) (t : ℕ) (kind : Kind) (pins : List Pin) → map (pin_point t) (looked_pins c t kind pins) ≡ up_to_first (λ o. decides kind (sees c o)) (map (pin_point t) pins)
cut-sources c t kind pins =
    ap (map (pin_point t)) (cut_alike (decides kind) (λ p. sees c (pin_point t p)) (seen_value (value c) t) pins (all_of (λ p. sees c (pin_point t p) ≡ seen_value (value c) t p) (sees-source c t) (up_to_first (λ p. decides kind (sees c (pin_point t p))) pins)))
    ∙ map-up_to_first (λ o. decides kind (sees c o)) (pin_point t) pins

flop-somes : (pin : ℕ) (o : Option ℕ) (test : Option Point → Bool) → flop_child pin o ≡ somes (up_to_first test (flop_points pin o))
flop-somes pin None test = refl
flop-somes pin (Some e) test = go (test (Some here))
  where
    here : Point
    here = record { signal = pin; time = e }

    go : (b : Bool) → ◌≡◌ {A = List Point} (here ∷ []) (here ∷ somes (cond b [] []))
    go true = refl
    go false = refl

sources-somes : (c : Circuit) (t : ℕ) (d : Driver) → children_from c t d ≡ somes (up_to_first (λ o. decides (kind_of d) (sees c o)) (pin_points_at t d))
sources-somes c t (Input settings) = refl
sources-somes c t (Gate kind pins) = late-somes t (looked_pins c t kind pins) ∙ ap somes (cut-sources c t kind pins)
sources-somes c t (Flop f) = flop-somes f.pin (shown_edge f.clock f.delay t) (λ o. decides Dff (sees c o))

pub children-somes : (c : Circuit) (s t : ℕ) → children c s t ≡ somes (looked_points c s t)
unfolding children
children-somes c s t = sources-somes c t (driver c s)

-- a list up to and including the first element that passes, by places
module _ {A : Type 0} (test : A → Bool) where
  pub cut-take : (xs : List A) (n : ℕ) → n ≤ length (up_to_first test xs) → take n (up_to_first test xs) ≡ take n xs
  cut-take [] n h = refl
  cut-take (x ∷ xs) zero h = refl
  cut-take (x ∷ xs) (suc n) h = go (test x) (cut-take xs n) h
    where
      go : (b : Bool) → (n ≤ length (up_to_first test xs) → take n (up_to_first test xs) ≡ take n xs) → suc n ≤ length (x ∷ cond b [] (up_to_first test xs))
          → take (suc n) (x ∷ cond b [] (up_to_first test xs)) ≡ take (suc n) (x ∷ xs)
      go true again k = let z : n ≡ 0 = omega arith in rw z refl
      go false again k = ap (λ rest. x ∷ rest) (again (omega arith))

  -- it ends where one has passed
  pub cut-ends : (xs : List A) (n : ℕ) → n ≤ length (up_to_first test xs) → list_any test (take n xs) ≡ true → n ≡ length (up_to_first test xs)
  cut-ends [] n h = λ e. omega (arith, h)
  cut-ends (x ∷ xs) zero h = λ e. absurd (cc e)
  cut-ends (x ∷ xs) (suc n) h = go (test x) (cut-ends xs n) h
    where
      go : (b : Bool) → (n ≤ length (up_to_first test xs) → list_any test (take n xs) ≡ true → n ≡ length (up_to_first test xs)) → suc n ≤ length (x ∷ cond b [] (up_to_first test xs))
          → (b || list_any test (take n xs)) ≡ true → suc n ≡ length (x ∷ cond b [] (up_to_first test xs))
      go true again k = λ f. omega arith
      go false again k = λ f. let rest = again (omega arith) f in omega arith

  -- or where the list does
  pub cut-whole : (xs : List A) → length (up_to_first test xs) ≤ length xs
  cut-whole [] = omega arith
  cut-whole (x ∷ xs) = elim (test x) as (λ b. length (x ∷ cond b [] (up_to_first test xs)) ≤ length (x ∷ xs)) [ true ↦ omega arith | false ↦ let rest = cut-whole xs in omega arith ]

  -- and else it goes on with the next element
  pub cut-more : (xs : List A) (n : ℕ) → n < length xs → list_any test (take n xs) ≡ false → n < length (up_to_first test xs)
  cut-more [] n h = λ e. absurd (omega (arith, h))
  cut-more (x ∷ xs) zero h = λ e. omega arith
  cut-more (x ∷ xs) (suc n) h = go (test x) (cut-more xs n)
    where
      go : (b : Bool) → (n < length xs → list_any test (take n xs) ≡ false → n < length (up_to_first test xs)) → (b || list_any test (take n xs)) ≡ false → suc n < length (x ∷ cond b [] (up_to_first test xs))
      go true again = λ f. absurd (cc f)
      go false again = λ f. let rest = again (omega (arith, h)) f in omega arith
