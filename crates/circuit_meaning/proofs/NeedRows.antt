-- Worked examples of roots and of needed points.
use Rattle.std.proofs.Common.{◌≡◌, ℕ, ◌-◌, ◌*◌, ◌<◌, ◌≤◌, ◌⊎◌, List, [], ◌∷◌, fold, All, refl, ap, ap₂, ◌∙◌, subst, arith, inl, inr, le-leb, le-ltb}
use Rattle.std.proofs.lemmas.Bool.{cases_lt}
use Rattle.std.proofs.lemmas.List.Elements.{All-from_recursion, All-contains}
use Rattle.gate_values.specs.declared.Value.TheVariants.{Zero}
use Rattle.gate_values.specs.declared.Kind.TheVariants.{Not}
use Rattle.valid_intervals.specs.Spans.{from_to, meet, moved_span}
use Rattle.valid_intervals.specs.declared.Point.{Point}
use Rattle.circuit_meaning.specs.declared.Window.{Window}
use Rattle.circuit_meaning.specs.Circuit.{Setting, Pin, Input, Gate, Circuit, IsCircuit, IsDriver}
use Rattle.circuit_meaning.specs.Forward.{last_setting}
use Rattle.circuit_meaning.specs.Cells.{span, next_setting, input_start, least_delay}
use Rattle.circuit_meaning.specs.Need.{IsRoot, First, Piece, Next, IsNeeded, Root, Child, IsEvaluable, IsInCone, Itself, Reads, children}
use Rattle.circuit_meaning.specs.Laws.{at_point}
use Rattle.circuit_meaning.proofs.Equations.{span_is}
use Rattle.circuit_meaning.proofs.Meets.{gate-span}
use Rattle.circuit_meaning.proofs.Steady.{pin_span-late}
use Rattle.circuit_meaning.proofs.Rows.{set, pin, point, c17, c17-cell, c17-children, c17-child, c17-other_child}

-- y = NOT(a) after 1, a is 0, and the horizon is 200,000
abbrev long : Circuit
long = record { horizon = 200000; drivers = Input (set 0 Zero ∷ []) ∷ Gate Not (pin 0 1 ∷ []) ∷ [] }

abbrev all_of_it : Window
all_of_it = record { signal = 1; start = 0; stop = 200001 }

long-fits : IsCircuit long
long-fits =
    let settings : List Setting = set 0 Zero ∷ [] in
    let pins : List Pin = pin 0 1 ∷ [] in
    let input : IsDriver 2 200000 (Input settings) = record { within = All-from_recursion (λ s. s.time ≤ 200000) settings (omega arith, tt); different = λ i j d l h. absurd (omega arith) } in
    let gate : IsDriver 2 200000 (Gate Not pins) = record {
      count = refl;
      signal = All-from_recursion (λ p. p.signal < 2) pins (omega arith, tt);
      delay = All-from_recursion (λ p. 1 ≤ p.delay) pins (omega arith, tt);
    } in
    All-from_recursion (IsDriver 2 200000) long.drivers (input, (gate, tt))

long-start : (u : ℕ) → input_start (last_setting (set 0 Zero ∷ []) u) ≡ 0
unfolding last_setting
long-start u = rw (le-leb 0 u (omega arith)) refl

long-end : (u : ℕ) → next_setting (set 0 Zero ∷ []) u 200001 ≡ 200001
unfolding next_setting
long-end u = rw (le-ltb u 0 (omega arith)) refl

long-input : (u : ℕ) → span long 0 u ≡ from_to 0 200001
long-input u = span_is long long-fits 0 u ∙ ap₂ from_to (long-start u) (long-end u)

long-first : span long 1 0 ≡ from_to 0 1
unfolding least_delay
long-first = span_is long long-fits 1 0

long-rest : (t : ℕ) → 1 ≤ t → span long 1 t ≡ from_to 1 200001
unfolding least_delay
long-rest t h =
    gate-span long long-fits 1 t Not (pin 0 1 ∷ []) refl h
    ∙ ap (λ x. fold meet (from_to 1 200001) (x ∷ [])) (pin_span-late (span long) t (pin 0 1) h ∙ ap (moved_span 1) (long-input (t - 1)))

-- the roots of the whole window are its start, the end of the cell there, and the multiples of 65,536
pub long-roots : (r : ℕ) → IsRoot long all_of_it r → (r ≡ 0) ⊎ ((r ≡ 1) ⊎ ((n : ℕ) × (1 ≤ n) × (n ≤ 3) × (r ≡ n * 65536)))
long-roots r (First h) = inl refl
long-roots r (Piece n low high) = inr (inr (n, omega arith, omega arith, refl))
long-roots r (Next {r = x} root h) = elim (cases_lt x 1) [
  | inl l ↦ let e : x ≡ 0 = omega arith in inr (inl (ap (λ y. (span long 1 y).stop) e ∙ ap (λ y. y.stop) long-first))
  | inr l ↦ let e : (span long 1 x).stop ≡ 200001 = ap (λ y. y.stop) (long-rest x l) in let k : (span long 1 x).stop < 200001 = h in absurd (omega arith)
]

pub long-are_roots : IsRoot long all_of_it 0 × IsRoot long all_of_it 1 × ((n : ℕ) → 1 ≤ n → n ≤ 3 → IsRoot long all_of_it (n * 65536))
long-are_roots =
    let first : IsRoot long all_of_it 0 = First (omega arith) in
    let end : (span long 1 0).stop ≡ 1 = ap (λ y. y.stop) long-first in
    let next : IsRoot long all_of_it (span long 1 0).stop = Next first (omega arith) in
    (first, subst (IsRoot long all_of_it) end next, λ n low high. Piece n (omega arith) (omega arith))

-- The points that the query for signal 22 of c17 at 3 needs: itself, and its two pins an instant before. Of these the first
-- pin decides, an input; so signal 11 is not needed, though it lies in the cone.
abbrev pub IsOneOf : ℕ → ℕ → Type 0
IsOneOf s t = ((s ≡ 5) × (t ≡ 3)) ⊎ (((s ≡ 7) × (t ≡ 2)) ⊎ ((s ≡ 9) × (t ≡ 2)))

abbrev IsFine : Point → Type 0
IsFine p = IsEvaluable c17 p.signal p.time → IsOneOf p.signal p.time

c17-fine : (s t : ℕ) → IsOneOf s t → All IsFine (children c17 s t)
unfolding c17
c17-fine s t (inl h) = rw (h.0, h.1, c17-children) (All-from_recursion IsFine (point 7 2 ∷ point 9 2 ∷ []) (λ e. inr (inl (refl, refl)), (λ e. inr (inr (refl, refl)), tt)))
c17-fine s t (inr (inl h)) = rw (h.0, h.1, c17-child) (All-from_recursion IsFine (point 0 1 ∷ []) (λ e. absurd e, tt))
c17-fine s t (inr (inr h)) = rw (h.0, h.1, c17-other_child) (All-from_recursion IsFine (point 1 1 ∷ []) (λ e. absurd e, tt))

c17-root : (r : ℕ) → IsRoot c17 (at_point 5 3) r → r ≡ 3
c17-root r (First h) = refl
c17-root r (Piece n low high) = absurd (omega arith)
c17-root r (Next {r = x} root h) =
    let e : (span c17 5 x).stop ≡ 11 = ap (λ t. (span c17 5 t).stop) (c17-root x root) ∙ ap (λ y. y.stop) c17-cell in
    let k : (span c17 5 x).stop < 4 = h in
    absurd (omega arith)

pub c17-needed : (s t : ℕ) → IsNeeded c17 (at_point 5 3) s t → IsOneOf s t
c17-needed s t (Root r e) = inl (refl, c17-root t r)
c17-needed u w (Child {s} {t} n k e) = All-contains IsFine (children c17 s t) (point u w) (c17-fine s t (c17-needed s t n)) k e

pub c17-cone : IsInCone c17 5 8
unfolding c17
c17-cone = Reads {s = 9} (Reads {s = 5} Itself (1, omega arith, refl)) (1, omega arith, refl)
