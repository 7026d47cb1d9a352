-- Sets of points that are closed under children, and parts of windows.
use Rattle.std.proofs.Common.{◌≡◌, ◌≢◌, ℕ, ◌<◌, [], ◌∷◌, length, map, Contains, Option, Some, None, sym, ap, ◌∙◌, subst, arith}
use Rattle.std.proofs.lemmas.List.Elements.{All-contains}
use Rattle.gate_values.specs.declared.Value.{Value}
use Rattle.gate_values.specs.declared.Value.TheVariants.{Z}
use Rattle.gate_values.specs.declared.Kind.TheVariants.{Dff}
use Rattle.gate_values.proofs.Callers.{gate_value-not_z}
use Rattle.circuit_meaning.specs.Edges.{shown_edge}
use Rattle.circuit_meaning.specs.declared.Window.{Window}
use Rattle.circuit_meaning.specs.Circuit.{FlipFlop, Driver, Input, Gate, Flop, Circuit, IsCircuit, IsDriver, driver, read_by}
use Rattle.circuit_meaning.specs.Forward.{value, value_from, seen_value, flop_value}
use Rattle.circuit_meaning.specs.Cells.{span}
use Rattle.circuit_meaning.specs.Need.{children, HasChildren, IsEvaluable, IsRoot, First, Piece, Next, IsNeeded, Root, Child, IsClosedUnderChildren, IsPart}
use Rattle.circuit_meaning.specs.Forced.{forced_circuit, IsFree}
use Rattle.circuit_meaning.specs.Laws.{IsDriven}
use Rattle.circuit_meaning.proofs.Equations.{value_is, driver_fits}
use Rattle.circuit_meaning.proofs.Points.{children-read}
use Rattle.circuit_meaning.proofs.Alike.{free-alike, cone-step}

pub need-closed : (c : Circuit) (q : Window) → IsClosedUnderChildren c (IsNeeded c q)
need-closed c q s t needed p child e = Child needed child e

pub held-need-closed : (c : Circuit) (s : ℕ) (w : Value) → IsCircuit c → (q : Window) → IsClosedUnderChildren c (λ u t. IsNeeded (forced_circuit c s w) q u t × IsFree c s u)
held-need-closed c s w ok q x t needed p child e =
    let alike = free-alike c s w ok x t needed.1 in
    let read : Contains (read_by (driver c x)) p.signal = All-contains (λ p. Contains (read_by (driver c x)) p.signal) (children c x t) p (children-read c x t) child in
    let free : IsFree c s p.signal = λ i. needed.1 (cone-step c x p.signal s read i) in
    let evaluable : IsEvaluable (forced_circuit c s w) p.signal p.time = subst (HasChildren p.time) (sym (free-alike c s w ok p.signal p.time free).driver) e in
    (Child needed.0 (rw alike.children child) evaluable, free)

module _ (c : Circuit) (q part : Window) (is : IsPart c q part) where
  part-root : (r : ℕ) → IsRoot c part r → IsRoot c q r
  part-root r (First h) = is.root h
  part-root r (Piece n low high) = let start = is.start in let stop = is.stop in Piece n (omega arith) (omega arith)
  part-root r (Next {r = x} root h) =
      let stop = is.stop in
      let e : span c part.signal x ≡ span c q.signal x = ap (λ s. span c s x) is.signal in
      let low : (span c q.signal x).stop < q.stop = subst (λ y. y.stop < q.stop) e (omega arith) in
      subst (λ y. IsRoot c q y.stop) (sym e) (Next (part-root x root) low)

  pub part-need : (s t : ℕ) → IsNeeded c part s t → IsNeeded c q s t
  part-need s t (Root r e) = subst (λ s. IsNeeded c q s t) (sym is.signal) (Root (part-root t r) (subst (λ s. IsEvaluable c s t) is.signal e))
  part-need s t (Child {s = x} {t = y} n k e) = Child (part-need x y n) k e

-- what a gate or a flip-flop gives is not z
module _ (c : Circuit) (t : ℕ) where
  flop-not_z : (f : FlipFlop) → f.initial ≢ Z → (o : Option ℕ) → flop_value (value c) f o ≢ Z
  flop-not_z f initial None = initial
  flop-not_z f initial (Some e) = gate_value-not_z Dff (value c f.pin e ∷ [])

  driven-not_z : (n h : ℕ) (d : Driver) → IsDriver n h d → IsDriven d → value_from (value c) t d ≢ Z
  driven-not_z n h (Input settings) ok driven = absurd driven
  driven-not_z n h (Gate kind pins) ok driven = gate_value-not_z kind (map (seen_value (value c) t) pins)
  driven-not_z n h (Flop f) ok driven = flop-not_z f ok.initial (shown_edge f.clock f.delay t)

pub value-not_z : (c : Circuit) → IsCircuit c → (s t : ℕ) → IsDriven (driver c s) → value c s t ≢ Z
value-not_z c ok s t driven = λ e. driven-not_z c t (length c.drivers) c.horizon (driver c s) (driver_fits c ok s) driven (sym (value_is c ok s t) ∙ e)
