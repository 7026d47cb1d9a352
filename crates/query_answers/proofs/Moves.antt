-- What a point looks at, at another time of its cell: the same pins, whose sources lie in the same cells.
use Rattle.std.proofs.Common.{◌≡◌, ℕ, zero, suc, ◌+◌, ◌<◌, ◌≤◌, List, [], ◌∷◌, map, get_or, Contains, Option, Some, None, IfSome, refl, sym, ap, subst, ◌∙◌, arith, inl, inr, lt-ltb, le-ltb}
use Rattle.std.specs.List.{AllByRecursion}
use Rattle.std.proofs.lemmas.Bool.{cases_lt}
use Rattle.std.proofs.lemmas.List.Elements.{All-contains, recursion_from_All}
use Rattle.gate_values.specs.declared.Kind.{Kind}
use Rattle.gate_values.specs.declared.Kind.TheVariants.{Dff}
use Rattle.gate_values.specs.Gates.{decides, up_to_first}
use Rattle.gate_values.proofs.Callers.{cut_alike, map-up_to_first}
use Rattle.valid_intervals.specs.declared.Cell.{Cell}
use Rattle.valid_intervals.specs.declared.Point.{Point}
use Rattle.valid_intervals.specs.Spans.{Span, IsIn, from_to}
use Rattle.circuit_meaning.specs.Edges.{shown_edge}
use Rattle.circuit_meaning.specs.declared.Pin.{Pin}
use Rattle.circuit_meaning.specs.Circuit.{Circuit, Driver, Input, Gate, Flop, driver, IsCircuit}
use Rattle.circuit_meaning.specs.Forward.{value, seen_value}
use Rattle.circuit_meaning.specs.Cells.{span, span_from, looked_pins, pin_span, least_delay, cell_at, point_at}
use Rattle.circuit_meaning.specs.Base.{base_answer}
use Rattle.circuit_meaning.specs.Need.{HasChildren, IsEvaluable, children}
use Rattle.circuit_meaning.specs.Looks.{kind_of, pin_point, flop_points, pin_points_at, sees, looked_points}
use Rattle.circuit_meaning.specs.Laws.{look, Pins, Edge}
use Rattle.circuit_meaning.proofs.Callers.{span_is, children-earlier, cell-covers, in_all, all_map, cell-steady, gate_span-late, pin_span-early, pin_span-late, base-answers, sees-source, children-somes}
use Rattle.std.specs.Prelude.{MatchOption}
use Rattle.journal_meaning.proofs.Callers.{covered-cell}
use Rattle.plan_core.proofs.Callers.{somes-has}

-- the source of a pin at another time: none where there was none, or else a point of the same cell
abbrev pub IsMoved : Circuit → Option Point → Option Point → Type 0
IsMoved c None None = Unit {0}
IsMoved c (Some p) (Some q) = (q.signal ≡ p.signal) × IsIn (span c p.signal p.time) q.time
IsMoved c o r = ⊥

-- ---- sources are children

-- a pin that is looked at reads a child
pub source-child : (c : Circuit) (s t n : ℕ) (x : Point) → get_or (looked_points c s t) n None ≡ Some x → Contains (children c s t) x
source-child c s t n x e = subst (λ l. Contains l x) (sym (children-somes c s t)) (somes-has (looked_points c s t) n x e)

-- which is earlier
pub source-earlier : (c : Circuit) → IsCircuit c → (s t n : ℕ) (x : Point) → get_or (looked_points c s t) n None ≡ Some x → x.time < t
source-earlier c ok s t n x e = All-contains (λ (p : Point). p.time < t) (children c s t) x (children-earlier c ok s t) (source-child c s t n x e)

-- ---- pin by pin

-- what a driver looks at
abbrev points : Circuit → ℕ → Driver → List (Option Point)
points c t d = up_to_first (λ o. decides (kind_of d) (sees c o)) (pin_points_at t d)

cut-sources : (c : Circuit) (t : ℕ) (kind : Kind) (pins : List Pin) → map (pin_point t) (looked_pins c t kind pins) ≡ points c t (Gate kind pins)
cut-sources c t kind pins =
    let looked = up_to_first (λ p. decides kind (sees c (pin_point t p))) pins in
    ap (map (pin_point t)) (cut_alike (decides kind) (λ p. sees c (pin_point t p)) (seen_value (value c) t) pins (recursion_from_All (λ p. sees c (pin_point t p) ≡ seen_value (value c) t p) looked (λ k d l. sees-source c t (get_or looked k d))))
    ∙ map-up_to_first (λ o. decides kind (sees c o)) (pin_point t) pins

same-pins : (a b : List Pin) → Pins a ≡ Pins b → a ≡ b
same-pins a b e = cc

same-edge : (a b : Option ℕ) → Edge a ≡ Edge b → a ≡ b
same-edge a b e = cc

module _ (c : Circuit) (ok : IsCircuit c) (t u : ℕ) where
  pin-moved : (p : Pin) → IsIn (pin_span (span c) t p) u → IsMoved c (pin_point t p) (pin_point u p)
  pin-moved p h = elim (cases_lt t p.delay) [
    | inl l ↦
        let k = rw (pin_span-early (span c) t p l) at h in
        let l' : u < p.delay = omega (arith, k) in
        rw (lt-ltb t p.delay l, lt-ltb u p.delay l') tt
    | inr l ↦
        let k = rw (pin_span-late (span c) t p l) at h in
        let l' : p.delay ≤ u = omega (arith, k) in
        rw (le-ltb t p.delay l, le-ltb u p.delay l') (refl, record { low = omega (arith, k); high = omega (arith, k) })
  ]

  pins-moved : (pins : List Pin) → AllByRecursion (λ p. IsIn (pin_span (span c) t p) u) pins → (n : ℕ) → IsMoved c (get_or (map (pin_point t) pins) n None) (get_or (map (pin_point u) pins) n None)
  pins-moved [] h n = tt
  pins-moved (p ∷ pins) h zero = pin-moved p h.0
  pins-moved (p ∷ pins) h (suc n) = pins-moved pins h.1 n

  -- a source that stays
  stays : (o : Option Point) → IfSome o (λ p. p.time ≤ c.horizon) → IsMoved c o o
  stays None h = tt
  stays (Some p) h = (refl, (cell-covers c ok p.time p.signal h).inside)

  moved-from : (d : Driver) → IsIn (span_from c (span c) t d) u → look c u d ≡ look c t d → HasChildren t d → (n : ℕ) → IfSome (get_or (points c t d) n None) (λ p. p.time ≤ c.horizon) → IsMoved c (get_or (points c t d) n None) (get_or (points c u d) n None)
  moved-from (Input settings) inside same h n low = absurd h
  moved-from (Gate kind pins) inside same h n low =
      let L = looked_pins c t kind pins in
      let k = in_all (from_to (least_delay pins) (c.horizon + 1)) (map (pin_span (span c) t) L) u (rw (gate_span-late (c.horizon + 1) t (least_delay pins) (map (pin_span (span c) t) L) h) at inside) in
      let pins-in = all_map (λ x. IsIn x u) (pin_span (span c) t) L k.1 in
      let there : map (pin_point u) L ≡ points c u (Gate kind pins) = ap (map (pin_point u)) (sym (same-pins (looked_pins c u kind pins) L same)) ∙ cut-sources c u kind pins in
      subst (λ xs. IsMoved c (get_or (points c t (Gate kind pins)) n None) (get_or xs n None)) there
      (subst (λ xs. IsMoved c (get_or xs n None) (get_or (map (pin_point u) L) n None)) (cut-sources c t kind pins) (pins-moved L pins-in n))
  moved-from (Flop f) inside same h n low =
      let cut : Option ℕ → List (Option Point) = λ o. up_to_first (λ o. decides Dff (sees c o)) (flop_points f.pin o) in
      let e : shown_edge f.clock f.delay u ≡ shown_edge f.clock f.delay t = same-edge (shown_edge f.clock f.delay u) (shown_edge f.clock f.delay t) same in
      subst (λ o. IsMoved c (get_or (cut (shown_edge f.clock f.delay t)) n None) (get_or (cut o) n None)) (sym e) (stays (get_or (cut (shown_edge f.clock f.delay t)) n None) low)

pub if-some : {A : Type 0} (P : A → Type 0) (o : Option A) → ((x : A) → o ≡ Some x → P x) → IfSome o P
if-some P None h = tt
if-some P (Some x) h = h x refl

module _ (c : Circuit) (ok : IsCircuit c) (s t u : ℕ) (inside : IsIn (span c s t) u) where
  -- at another time of its cell a point looks at points of the same cells
  pub sources-moved : t ≤ c.horizon → IsEvaluable c s t → (n : ℕ) → IsMoved c (get_or (looked_points c s t) n None) (get_or (looked_points c s u) n None)
  sources-moved low has n =
      let same = cell-steady c ok t s u inside in
      moved-from c ok t u (driver c s) (subst (λ (x : Span). IsIn x u) (span_is c ok s t) inside) same.look has n
      (if-some (λ (p : Point). p.time ≤ c.horizon) (get_or (looked_points c s t) n None) (λ p e. let l = source-earlier c ok s t n p e in omega (arith, l, low)))

  -- what has a base answer at one time of its cell has one at each
  pub never-moves : (IsEvaluable c s t → ⊥) → IsEvaluable c s u → ⊥
  never-moves never has = elim (covered-cell c ok s t u inside [] (λ e h. absurd (let l = h.1 in omega arith)) (inl never)) [
    | inl k ↦ k has
    | inr k ↦ let l = k.1.1 in absurd (omega arith)
  ]

  -- and what has none has none
  pub evaluable-moves : t ≤ c.horizon → IsEvaluable c s t → IsEvaluable c s u
  evaluable-moves low has = go (base_answer c s u) (base-answers c ok s u)
    where
      back : IsIn (span c s u) t
      back = subst (λ (x : Span). IsIn x t) (sym (cell-steady c ok t s u inside).span) (cell-covers c ok t s low).inside

      no : (IsEvaluable c s u → ⊥) → ⊥
      no never = elim (covered-cell c ok s u t back [] (λ e h. absurd (let l = h.1 in omega arith)) (inl never)) [
        | inl k ↦ k has
        | inr k ↦ let l = k.1.1 in absurd (omega arith)
      ]

      go : (b : Option Cell) → MatchOption b (IsEvaluable c s u) (λ x. (x ≡ cell_at c (point_at s u)) × (IsEvaluable c s u → ⊥)) → IsEvaluable c s u
      go (Some y) m = absurd (no m.1)
      go None m = m
