-- Each value and each interval is what the driver gives from the earlier ones.
use Rattle.std.proofs.Common.{◌≡◌, ℕ, ◌+◌, ◌-◌, ◌<◌, ◌≤◌, Bool, true, false, if◌then◌else◌, cond, nat_lt, List, [], ◌∷◌, length, get_or, map, Option, Some, None, refl, ap, ◌∙◌, arith, ltb-false, inl, inr}
use Rattle.std.specs.List.{AllByRecursion}
use Rattle.std.proofs.lemmas.List.Elements.{recursion_from_All, All-nil}
use Rattle.std.proofs.Math.ListN.{get_or-map, get_or-eq_default}
use Rattle.std.proofs.lemmas.Bool.{cases_lt}
use Rattle.gate_values.specs.declared.Value.{Value}
use Rattle.gate_values.specs.declared.Value.TheVariants.{X}
use Rattle.gate_values.specs.declared.Kind.TheVariants.{Dff}
use Rattle.gate_values.specs.Gates.{gate_value, decides, up_to_first}
use Rattle.circuit_meaning.specs.Circuit.{Pin, FlipFlop, Driver, Input, Gate, Flop, Circuit, driver, IsCircuit, IsDriver}
use Rattle.circuit_meaning.specs.Forward.{rows_below, row_at, last_setting, seen_value, flop_value, value_from, entry, next_row, value}
use Rattle.circuit_meaning.specs.Edges.{shown_edge}
use Rattle.circuit_meaning.proofs.EdgeLemmas.{shown_edge-le}
use Rattle.circuit_meaning.specs.Cells.{pin_span, span_from, span_entry, next_spans, span, looked_pins, next_setting, least_delay, gate_span}
use Rattle.valid_intervals.specs.Spans.{Span, from_to, moved_span}
use Rattle.circuit_meaning.proofs.Table.{length-rows_below, get_or-rows_below}

pub map_same : {A B : Type 0} (f g : A → B) (xs : List A) → AllByRecursion (λ a. f a ≡ g a) xs → map f xs ≡ map g xs
map_same f g [] h = refl
map_same f g (x ∷ xs) h = cc (h.0, map_same f g xs h.1)

pub all_imply : {A : Type 0} (P Q : A → Type 0) → ((a : A) → P a → Q a) → (xs : List A) → AllByRecursion P xs → AllByRecursion Q xs
all_imply P Q f [] h = tt
all_imply P Q f (x ∷ xs) h = (f x h.0, all_imply P Q f xs h.1)

-- every number has a driver that fits the circuit
pub driver_fits : (c : Circuit) → IsCircuit c → (s : ℕ) → IsDriver (length c.drivers) c.horizon (driver c s)
driver_fits c ok s = elim (cases_lt s (length c.drivers)) [
  | inl h ↦ ok s (Input []) h
  | inr h ↦ rw (get_or-eq_default c.drivers (Input []) h) (record { within = All-nil _; different = λ i j d _ h. absurd (omega arith) })
]

-- a pin with a delay of at least one reads an earlier time
seen_same : (b b' : ℕ → ℕ → Value) (t : ℕ) → ((s u : ℕ) → u < t → b s u ≡ b' s u) → (p : Pin) → 1 ≤ p.delay → seen_value b t p ≡ seen_value b' t p
seen_same b b' t same p pos = go (nat_lt t p.delay) refl
  where
    go : (x : Bool) → nat_lt t p.delay ≡ x → (if x then X else b p.signal (t - p.delay)) ≡ (if x then X else b' p.signal (t - p.delay))
    go true h = refl
    go false h = same p.signal (t - p.delay) (let k : p.delay ≤ t = ltb-false t p.delay h in omega arith)

flop_same : (b b' : ℕ → ℕ → Value) (t : ℕ) → ((s u : ℕ) → u < t → b s u ≡ b' s u) → (f : FlipFlop) → 1 ≤ f.delay → (o : Option ℕ) → shown_edge f.clock f.delay t ≡ o → flop_value b f o ≡ flop_value b' f o
flop_same b b' t same f pos None h = refl
flop_same b b' t same f pos (Some e) h = ap (λ v. gate_value Dff (v ∷ [])) (same f.pin e (let k : e + f.delay ≤ t = shown_edge-le f.clock f.delay t e h in omega arith))

value_from-same : (n h : ℕ) (b b' : ℕ → ℕ → Value) (t : ℕ) → ((s u : ℕ) → u < t → b s u ≡ b' s u) → (d : Driver) → IsDriver n h d → value_from b t d ≡ value_from b' t d
value_from-same n h b b' t same (Input settings) ok = refl
value_from-same n h b b' t same (Gate kind pins) ok =
    ap (gate_value kind) (map_same (seen_value b t) (seen_value b' t) pins (all_imply (λ p. 1 ≤ p.delay) (λ p. seen_value b t p ≡ seen_value b' t p) (seen_same b b' t same) pins (recursion_from_All (λ p. 1 ≤ p.delay) pins ok.delay)))
value_from-same n h b b' t same (Flop f) ok = flop_same b b' t same f ok.delay (shown_edge f.clock f.delay t) refl

pub entry-value : (c : Circuit) (t s u : ℕ) → u < t → entry (rows_below (next_row c) t) s u ≡ value c s u
unfolding value
entry-value c t s u h = ap (λ row. get_or row s X) (get_or-rows_below (next_row c) t u [] h)

-- the value of a signal is what its driver gives from the earlier values
pub value_is : (c : Circuit) → IsCircuit c → (s t : ℕ) → value c s t ≡ value_from (value c) t (driver c s)
unfolding value row_at last_setting
value_is c ok s t =
    let rows = rows_below (next_row c) t in
    get_or-map (value_from (entry rows) (length rows)) c.drivers s (Input [])
    ∙ rw (length-rows_below (next_row c) t) (value_from-same (length c.drivers) c.horizon (entry rows) (value c) t (entry-value c t) (driver c s) (driver_fits c ok s))

pub all_cut : {A : Type 0} (P : A → Type 0) (test : A → Bool) (xs : List A) → AllByRecursion P xs → AllByRecursion P (up_to_first test xs)
all_cut P test [] h = tt
all_cut P test (x ∷ xs) h = (h.0, elim (test x) as (λ b. AllByRecursion P (cond b [] (up_to_first test xs))) [ true ↦ tt | false ↦ all_cut P test xs h.1 ])

pin_span_same : (b b' : ℕ → ℕ → Span) (t : ℕ) → ((s u : ℕ) → u < t → b s u ≡ b' s u) → (p : Pin) → 1 ≤ p.delay → pin_span b t p ≡ pin_span b' t p
pin_span_same b b' t same p pos = go (nat_lt t p.delay) refl
  where
    go : (x : Bool) → nat_lt t p.delay ≡ x → (if x then from_to 0 p.delay else moved_span p.delay (b p.signal (t - p.delay))) ≡ (if x then from_to 0 p.delay else moved_span p.delay (b' p.signal (t - p.delay)))
    go true h = refl
    go false h = ap (moved_span p.delay) (same p.signal (t - p.delay) (let k : p.delay ≤ t = ltb-false t p.delay h in omega arith))

span_from-same : (c : Circuit) (n h : ℕ) (b b' : ℕ → ℕ → Span) (t : ℕ) → ((s u : ℕ) → u < t → b s u ≡ b' s u) → (d : Driver) → IsDriver n h d → span_from c b t d ≡ span_from c b' t d
span_from-same c n h b b' t same (Input settings) ok = refl
span_from-same c n h b b' t same (Gate kind pins) ok =
    let P : Pin → Type 0 = λ p. 1 ≤ p.delay in
    ap (gate_span (c.horizon + 1) t (least_delay pins)) (map_same (pin_span b t) (pin_span b' t) (looked_pins c t kind pins)
    (all_imply P (λ p. pin_span b t p ≡ pin_span b' t p) (pin_span_same b b' t same) (looked_pins c t kind pins)
    (all_cut P (λ p. decides kind (seen_value (value c) t p)) pins (recursion_from_All P pins ok.delay))))
span_from-same c n h b b' t same (Flop f) ok = refl

entry-span : (c : Circuit) (t s u : ℕ) → u < t → span_entry c (rows_below (next_spans c) t) s u ≡ span c s u
unfolding span
entry-span c t s u h = ap (λ row. get_or row s (from_to 0 (c.horizon + 1))) (get_or-rows_below (next_spans c) t u [] h)

-- the interval of a signal is what its driver gives from the earlier intervals
pub span_is : (c : Circuit) → IsCircuit c → (s t : ℕ) → span c s t ≡ span_from c (span c) t (driver c s)
unfolding span row_at last_setting next_setting
span_is c ok s t =
    let rows = rows_below (next_spans c) t in
    get_or-map (span_from c (span_entry c rows) (length rows)) c.drivers s (Input [])
    ∙ rw (length-rows_below (next_spans c) t) (span_from-same c (length c.drivers) c.horizon (span_entry c rows) (span c) t (entry-span c t) (driver c s) (driver_fits c ok s))
