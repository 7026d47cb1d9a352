-- What the rules give from right answers is the cell; so justified lines state cells.
use Rattle.std.proofs.Common.{◌≡◌, ℕ, zero, suc, ◌+◌, ◌-◌, ◌<◌, ◌&&◌, nat_le, nat_lt, nat_eq, Bool, true, false, cond, List, [], ◌∷◌, ◌++◌, length, map, take, Option, Some, None, IsSome, IfSome, MatchOption, slice_get, option_map, refl, sym, ap, ap₂, subst, ◌∙◌, arith, inl, inr, eqb-true, leb-true}
use Rattle.std.specs.Prelude.{find}
use Rattle.std.specs.Option.{option_map_or}
use Rattle.std.specs.List.{AllByRecursion}
use Rattle.std.proofs.lemmas.Bool.{and_parts, cases_lt, ltb-true}
use Rattle.std.proofs.lemmas.List.{take_all}
use Rattle.std.proofs.lemmas.List.Elements.{recursion_from_All}
use Rattle.std.proofs.lemmas.Option.{same_Some, none-some, IfSome_then}
use Rattle.gate_values.specs.declared.Value.{Value}
use Rattle.gate_values.specs.declared.Value.TheVariants.{X}
use Rattle.gate_values.specs.declared.Kind.{Kind}
use Rattle.gate_values.specs.declared.Kind.TheVariants.{Dff}
use Rattle.gate_values.specs.Gates.{gate_value, decides}
use Rattle.gate_values.proofs.Callers.{gate_value-looked, cut_alike, map-up_to_first}
use Rattle.valid_intervals.specs.declared.Cell.{Cell}
use Rattle.valid_intervals.specs.declared.SignalCell.{SignalCell}
use Rattle.valid_intervals.specs.Cells.{covers}
use Rattle.valid_intervals.specs.Spans.{Span, IsIn, moved_span}
use Rattle.circuit_meaning.specs.Edges.{shown_edge}
use Rattle.circuit_meaning.specs.declared.Pin.{Pin}
use Rattle.circuit_meaning.specs.Circuit.{Circuit, Driver, Input, Gate, Flop, driver, IsCircuit}
use Rattle.circuit_meaning.specs.Forward.{value, value_from, seen_value, flop_value}
use Rattle.circuit_meaning.specs.Cells.{span, span_from, looked_pins, pin_span, gate_span, least_delay, cell_at, point_at}
use Rattle.circuit_meaning.specs.Base.{base_answer}
use Rattle.circuit_meaning.specs.Need.{IsEvaluable}
use Rattle.circuit_meaning.proofs.Callers.{map_same, all_imply, value_is, span_is, seen-early, seen-late, pin_span-early, pin_span-late, cell-steady, base-answers}
use Rattle.design.specs.Joined.{Joined}
use Rattle.design.proofs.Callers.{take-none}
use Rattle.why_proofs.specs.Spelling.{Proof}
use Rattle.why_proofs.specs.Justified.{Answers, base_or, line_at, answer, value_in, span_in, looked_in, IsAnswered, AreAnswered, rule_value, rule_span, rule_cell, IsJustified, AreJustified, IsJustifiedProof}
use Rattle.why_proofs.specs.Laws.{IsTrueLine}

abbrev made : Span → Value → Cell
made x v = record { span = x; value = v }

-- a line that covers the point
pub record Covers (x : SignalCell) (s t : ℕ) : Type 0 where
  pub signal : x.signal ≡ s
  pub inside : IsIn x.cell.span t

pub covers-from : (x : SignalCell) (s t : ℕ) → covers (point_at s t) x ≡ true → Covers x s t
covers-from x s t h =
    let k = and_parts (nat_eq x.signal s && nat_le x.cell.span.start t) (nat_lt t x.cell.span.stop) h in
    let l = and_parts (nat_eq x.signal s) (nat_le x.cell.span.start t) k.0 in
    record { signal = eqb-true x.signal s l.0; inside = record { low = leb-true x.cell.span.start t l.1; high = ltb-true t x.cell.span.stop k.1 } }

module _ (c : Circuit) (ok : IsCircuit c) where
  -- a cell is the cell at each of its times
  pub steady : (x : Cell) (s t u : ℕ) → x ≡ cell_at c (point_at s t) → IsIn x.span u → x ≡ cell_at c (point_at s u)
  steady x s t u e inside =
      let same = cell-steady c ok t s u (subst (λ (z : Cell). IsIn z.span u) e inside) in
      e ∙ ap₂ made (sym same.span) (sym same.value)

  -- answers that are cells
  abbrev pub AreRight : Answers → Type 0
  AreRight a = (s t : ℕ) (x : Cell) → a s t ≡ Some x → x ≡ cell_at c (point_at s t)

  -- a line that states a cell, at each point that it covers
  pub line-says : (y : SignalCell) (s t : ℕ) → IsTrueLine c y → Covers y s t → y.cell ≡ cell_at c (point_at s t)
  line-says y s t h k =
      steady y.cell y.signal y.cell.span.start t h k.inside ∙ ap (λ u. cell_at c (point_at u t)) k.signal

  pub line-right : (lines : List SignalCell) → AllByRecursion (IsTrueLine c) lines → AreRight (line_at lines)
  line-right [] h s t x e = absurd (none-some x e)
  line-right (y ∷ rest) h s t x e = go (covers (point_at s t) y) refl (line-right rest h.1 s t x) e
    where
      go : (b : Bool) → covers (point_at s t) y ≡ b → (line_at rest s t ≡ Some x → x ≡ cell_at c (point_at s t)) → option_map (λ x. x.cell) (cond b (Some y) (find (covers (point_at s t)) rest)) ≡ Some x → x ≡ cell_at c (point_at s t)
      go true k more e = sym (same_Some y.cell x e) ∙ line-says y s t h.0 (covers-from y s t k)
      go false k more e = more e

  pub answer-right : (lines : List SignalCell) → AllByRecursion (IsTrueLine c) lines → AreRight (answer c lines)
  answer-right lines h s t x e = go (base_answer c s t) (base-answers c ok s t) e
    where
      go : (o : Option Cell) → MatchOption o (IsEvaluable c s t) (λ x. (x ≡ cell_at c (point_at s t)) × (IsEvaluable c s t → ⊥)) → base_or o (line_at lines s t) ≡ Some x → x ≡ cell_at c (point_at s t)
      go (Some y) m e = sym (same_Some y x e) ∙ m.0
      go None m e = line-right lines h s t x e

  module _ (a : Answers) (right : AreRight a) where
    value-known : (s t : ℕ) → IsSome (a s t) → value_in a s t ≡ value c s t
    value-known s t h = go (a s t) refl h
      where
        go : (o : Option Cell) → a s t ≡ o → IsSome o → value_in a s t ≡ value c s t
        go (Some x) e h = ap (λ o. option_map_or (λ x. x.value) o X) e ∙ ap (λ (x : Cell). x.value) (right s t x e)
        go None e h = absurd (cc h)

    span-known : (s t : ℕ) → IsSome (a s t) → span_in a s t ≡ span c s t
    span-known s t h = go (a s t) refl h
      where
        go : (o : Option Cell) → a s t ≡ o → IsSome o → span_in a s t ≡ span c s t
        go (Some x) e h = ap (λ o. option_map_or (λ x. x.span) o (record { start = 0; stop = 0 })) e ∙ ap (λ (x : Cell). x.span) (right s t x e)
        go None e h = absurd (cc h)

    -- a pin that is answered sees what it sees
    seen-same : (t : ℕ) (p : Pin) → IsAnswered a t p → seen_value (value_in a) t p ≡ seen_value (value c) t p
    seen-same t p h = elim (cases_lt t p.delay) [
      | inl l ↦ seen-early (value_in a) t p l ∙ sym (seen-early (value c) t p l)
      | inr l ↦ seen-late (value_in a) t p l ∙ value-known p.signal (t - p.delay) (h l) ∙ sym (seen-late (value c) t p l)
    ]

    span-same : (t : ℕ) (p : Pin) → IsAnswered a t p → pin_span (span_in a) t p ≡ pin_span (span c) t p
    span-same t p h = elim (cases_lt t p.delay) [
      | inl l ↦ pin_span-early (span_in a) t p l ∙ sym (pin_span-early (span c) t p l)
      | inr l ↦ pin_span-late (span_in a) t p l ∙ ap (moved_span p.delay) (span-known p.signal (t - p.delay) (h l)) ∙ sym (pin_span-late (span c) t p l)
    ]

    module _ (t : ℕ) (kind : Kind) (pins : List Pin) where
      -- the same pins are looked at, if those are answered
      pub looked-from : AllByRecursion (IsAnswered a t) (looked_in a t kind pins) → looked_pins c t kind pins ≡ looked_in a t kind pins
      looked-from h = cut_alike (decides kind) (seen_value (value_in a) t) (seen_value (value c) t) pins (all_imply (IsAnswered a t) (λ p. seen_value (value_in a) t p ≡ seen_value (value c) t p) (seen-same t) (looked_in a t kind pins) h)

      pub looked-to : AllByRecursion (IsAnswered a t) (looked_pins c t kind pins) → looked_in a t kind pins ≡ looked_pins c t kind pins
      looked-to h = cut_alike (decides kind) (seen_value (value c) t) (seen_value (value_in a) t) pins (all_imply (IsAnswered a t) (λ p. seen_value (value c) t p ≡ seen_value (value_in a) t p) (λ p k. sym (seen-same t p k)) (looked_pins c t kind pins) h)

      gate-value : AllByRecursion (IsAnswered a t) (looked_in a t kind pins) → rule_value a t (Gate kind pins) ≡ value_from (value c) t (Gate kind pins)
      gate-value h =
          let L = looked_in a t kind pins in
          ap (gate_value kind) (map_same (seen_value (value_in a) t) (seen_value (value c) t) L (all_imply (IsAnswered a t) (λ p. seen_value (value_in a) t p ≡ seen_value (value c) t p) (seen-same t) L h))
          ∙ ap (λ l. gate_value kind (map (seen_value (value c) t) l)) (sym (looked-from h))
          ∙ ap (gate_value kind) (map-up_to_first (decides kind) (seen_value (value c) t) pins)
          ∙ gate_value-looked kind (map (seen_value (value c) t) pins)

      gate-span : (limit : ℕ) → AllByRecursion (IsAnswered a t) (looked_in a t kind pins)
          → gate_span limit t (least_delay pins) (map (pin_span (span_in a) t) (looked_in a t kind pins)) ≡ gate_span limit t (least_delay pins) (map (pin_span (span c) t) (looked_pins c t kind pins))
      gate-span limit h =
          let L = looked_in a t kind pins in
          ap (gate_span limit t (least_delay pins)) (map_same (pin_span (span_in a) t) (pin_span (span c) t) L (all_imply (IsAnswered a t) (λ p. pin_span (span_in a) t p ≡ pin_span (span c) t p) (span-same t) L h))
          ∙ ap (λ l. gate_span limit t (least_delay pins) (map (pin_span (span c) t) l)) (sym (looked-from h))

    driver-value : (t : ℕ) (d : Driver) → AreAnswered a t d → rule_value a t d ≡ value_from (value c) t d
    driver-value t (Input settings) h = refl
    driver-value t (Gate kind pins) h = gate-value t kind pins (recursion_from_All (IsAnswered a t) (looked_in a t kind pins) h)
    driver-value t (Flop f) h = go (shown_edge f.clock f.delay t) h
      where
        go : (o : Option ℕ) → IfSome o (λ e. IsSome (a f.pin e)) → flop_value (value_in a) f o ≡ flop_value (value c) f o
        go None h = refl
        go (Some e) h = ap (λ v. gate_value Dff (v ∷ [])) (value-known f.pin e h)

    driver-span : (t : ℕ) (d : Driver) → AreAnswered a t d → rule_span (c.horizon + 1) a t d ≡ span_from c (span c) t d
    driver-span t (Input settings) h = refl
    driver-span t (Gate kind pins) h = gate-span t kind pins (c.horizon + 1) (recursion_from_All (IsAnswered a t) (looked_in a t kind pins) h)
    driver-span t (Flop f) h = refl

    -- what the rules give is the cell
    pub rule-right : (s t : ℕ) → AreAnswered a t (driver c s) → rule_cell c a s t ≡ cell_at c (point_at s t)
    rule-right s t h = ap₂ made (driver-span t (driver c s) h ∙ sym (span_is c ok s t)) (driver-value t (driver c s) h ∙ sym (value_is c ok s t))

  pub justified-true : (lines : List SignalCell) → AllByRecursion (IsTrueLine c) lines → (x : SignalCell) → IsJustified c lines x → IsTrueLine c x
  justified-true lines h x j = j.rule ∙ rule-right (answer c lines) (answer-right lines h) x.signal x.cell.span.start j.answered

-- ---- line by line

abbrev pub grown : {A : Type 0} → List A → Option A → List A
grown xs None = xs
grown xs (Some x) = xs ++ x ∷ []

cons-grown : {A : Type 0} (x : A) (xs : List A) (o : Option A) → x ∷ grown xs o ≡ grown (x ∷ xs) o
cons-grown x xs None = refl
cons-grown x xs (Some y) = refl

pub take-grown : {A : Type 0} (xs : List A) (n : ℕ) → take (suc n) xs ≡ grown (take n xs) (slice_get xs n)
take-grown [] zero = refl
take-grown [] (suc n) = refl
take-grown (x ∷ xs) zero = ap (λ l. x ∷ l) (take-none xs)
take-grown (x ∷ xs) (suc n) = ap (λ l. x ∷ l) (take-grown xs n) ∙ cons-grown x (take n xs) (slice_get xs n)

all-push : {A : Type 0} (P : A → Type 0) (xs : List A) (y : A) → AllByRecursion P xs → P y → AllByRecursion P (xs ++ y ∷ [])
all-push P [] y h k = (k, tt)
all-push P (x ∷ xs) y h k = (h.0, all-push P xs y h.1 k)

all-grown : {A : Type 0} (P : A → Type 0) (xs : List A) (o : Option A) → AllByRecursion P xs → IfSome o P → AllByRecursion P (grown xs o)
all-grown P xs None h k = h
all-grown P xs (Some y) h k = all-push P xs y h k

module _ (c : Circuit) (ok : IsCircuit c) (lines : List SignalCell) where
  pub all-true : (n : ℕ) → AreJustified c lines n → AllByRecursion (IsTrueLine c) (take n lines)
  all-true zero j = subst (AllByRecursion (IsTrueLine c)) (sym (take-none lines)) tt
  all-true (suc n) j =
      let above = all-true n (λ k l. j k (omega arith)) in
      subst (AllByRecursion (IsTrueLine c)) (sym (take-grown lines n))
      (all-grown (IsTrueLine c) (take n lines) (slice_get lines n) above (IfSome_then (slice_get lines n) (j n (omega arith)) (justified-true c ok (take n lines) above)))

  pub each-true : (n : ℕ) → AreJustified c lines n → (k : ℕ) → k < n → IfSome (slice_get lines k) (IsTrueLine c)
  each-true n j k l =
      IfSome_then (slice_get lines k) (j k l) (justified-true c ok (take k lines) (all-true k (λ i m. j i (omega arith))))

-- what is claimed is the value
pub claim-true : (d : Joined) → IsCircuit d.circuit → (p : Proof) (s : ℕ) → IsJustifiedProof d p s → value d.circuit s p.time ≡ p.value
claim-true d ok p s j =
    let whole : take (length p.cells) p.cells ≡ p.cells = take_all (length p.cells) p.cells (omega arith) in
    let all : AllByRecursion (IsTrueLine d.circuit) p.cells = subst (AllByRecursion (IsTrueLine d.circuit)) whole (all-true d.circuit ok p.cells (length p.cells) j.cells) in
    go (answer d.circuit p.cells s p.time) (answer-right d.circuit ok p.cells all s p.time) j.claim.value
  where
    go : (o : Option Cell) → ((x : Cell) → o ≡ Some x → x ≡ cell_at d.circuit (point_at s p.time)) → option_map (λ x. x.value) o ≡ Some p.value → value d.circuit s p.time ≡ p.value
    go (Some x) right e = sym (ap (λ (x : Cell). x.value) (right x refl)) ∙ same_Some x.value p.value e
    go None right e = absurd (none-some p.value e)
