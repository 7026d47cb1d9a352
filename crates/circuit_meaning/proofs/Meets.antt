-- The interval of a gate from intervals of its looked pins that are cut at the horizon before they are met.
use Rattle.std.proofs.Common.{◌≡◌, ℕ, ◌+◌, ◌≤◌, min, List, [], ◌∷◌, map, fold, refl, ap, ◌∙◌, arith, ap₂}
use Rattle.circuit_meaning.specs.declared.Pin.{Pin}
use Rattle.gate_values.specs.declared.Kind.{Kind}
use Rattle.circuit_meaning.specs.Circuit.{Circuit, IsCircuit, Gate, driver}
use Rattle.circuit_meaning.specs.Cells.{span, span_from, pin_span, looked_pins, least_delay}
use Rattle.valid_intervals.specs.Spans.{Span, from_to, meet}
use Rattle.circuit_meaning.proofs.Equations.{span_is}
use Rattle.circuit_meaning.proofs.Steady.{gate_span-late}

abbrev pub cut : ℕ → Span → Span
cut limit a = from_to a.start (min a.stop limit)

same_span : (a b c d : ℕ) → a ≡ c → b ≡ d → from_to a b ≡ from_to c d
same_span a b c d p q = ap₂ from_to p q

cut-meet : (m limit : ℕ) (a x : Span) → meet (meet a (cut limit x)) (from_to m limit) ≡ meet (meet a (from_to m limit)) x
cut-meet m limit a x = same_span _ _ _ _ (omega arith) (omega arith)

cut-first : (m limit : ℕ) (x : Span) → meet (cut limit x) (from_to m limit) ≡ meet (from_to m limit) x
cut-first m limit x = same_span _ _ _ _ (omega arith) (omega arith)

met : (m limit : ℕ) (a : Span) (xs : List Span) → meet (fold meet a (map (cut limit) xs)) (from_to m limit) ≡ fold meet (meet a (from_to m limit)) xs
met m limit a [] = refl
met m limit a (x ∷ xs) = met m limit (meet a (cut limit x)) xs ∙ ap (λ b. fold meet b xs) (cut-meet m limit a x)

pub met-all : (m limit : ℕ) (x : Span) (xs : List Span) → meet (fold meet (cut limit x) (map (cut limit) xs)) (from_to m limit) ≡ fold meet (from_to m limit) (x ∷ xs)
met-all m limit x xs = met m limit (cut limit x) xs ∙ ap (λ b. fold meet b xs) (cut-first m limit x)

-- the interval of an evaluable gate
pub gate-span : (c : Circuit) → IsCircuit c → (s t : ℕ) (kind : Kind) (pins : List Pin) → driver c s ≡ Gate kind pins → least_delay pins ≤ t
    → span c s t ≡ fold meet (from_to (least_delay pins) (c.horizon + 1)) (map (pin_span (span c) t) (looked_pins c t kind pins))
gate-span c ok s t kind pins e h = span_is c ok s t ∙ ap (span_from c (span c) t) e ∙ gate_span-late (c.horizon + 1) t (least_delay pins) (map (pin_span (span c) t) (looked_pins c t kind pins)) h
