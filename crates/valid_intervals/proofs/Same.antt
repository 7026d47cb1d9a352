-- The tests for equality tell equal points and cells.
use Rattle.std.proofs.Common.{◌≡◌, ℕ, true, nat_eq, ◌&&◌, ap₂, eqb-true, eq-eqb, refl}
use Rattle.std.proofs.lemmas.Bool.{and_parts, and_from}
use Rattle.gate_values.specs.declared.Value.{Value}
use Rattle.gate_values.specs.Gates.{same_value}
use Rattle.gate_values.proofs.Callers.{same_is, same_itself}
use Rattle.valid_intervals.specs.declared.Point.{Point}
use Rattle.valid_intervals.specs.Spans.{Span}
use Rattle.valid_intervals.specs.declared.Cell.{Cell}
use Rattle.valid_intervals.specs.Cells.{same_point, same_cell, same_stored}
use Rattle.valid_intervals.specs.declared.SignalCell.{SignalCell}

abbrev point : ℕ → ℕ → Point
point s t = record { signal = s; time = t }

pub same_point-true : (a b : Point) → same_point a b ≡ true → a ≡ b
same_point-true a b h =
    let k = and_parts (nat_eq a.signal b.signal) (nat_eq a.time b.time) h in
    ap₂ point (eqb-true a.signal b.signal k.0) (eqb-true a.time b.time k.1)

pub same_point-itself : (a : Point) → same_point a a ≡ true
same_point-itself a = and_from (nat_eq a.signal a.signal) (nat_eq a.time a.time) (eq-eqb a.signal a.signal refl) (eq-eqb a.time a.time refl)

abbrev cell : Span → Value → Cell
cell x v = record { span = x; value = v }

abbrev span : ℕ → ℕ → Span
span a b = record { start = a; stop = b }

abbrev stored : ℕ → Cell → SignalCell
stored s x = record { signal = s; cell = x }

pub same_cell-true : (a b : Cell) → same_cell a b ≡ true → a ≡ b
same_cell-true a b h =
    let k = and_parts (nat_eq a.span.start b.span.start && nat_eq a.span.stop b.span.stop) (same_value a.value b.value) h in
    let l = and_parts (nat_eq a.span.start b.span.start) (nat_eq a.span.stop b.span.stop) k.0 in
    ap₂ cell (ap₂ span (eqb-true a.span.start b.span.start l.0) (eqb-true a.span.stop b.span.stop l.1)) (same_is a.value b.value k.1)

pub same_cell-itself : (a : Cell) → same_cell a a ≡ true
same_cell-itself a = and_from _ _ (and_from _ _ (eq-eqb a.span.start a.span.start refl) (eq-eqb a.span.stop a.span.stop refl)) (same_itself a.value)

pub same_stored-true : (a b : SignalCell) → same_stored a b ≡ true → a ≡ b
same_stored-true a b h =
    let k = and_parts (nat_eq a.signal b.signal) (same_cell a.cell b.cell) h in
    ap₂ stored (eqb-true a.signal b.signal k.0) (same_cell-true a.cell b.cell k.1)

pub same_stored-itself : (a : SignalCell) → same_stored a a ≡ true
same_stored-itself a = and_from _ _ (eq-eqb a.signal a.signal refl) (same_cell-itself a.cell)
