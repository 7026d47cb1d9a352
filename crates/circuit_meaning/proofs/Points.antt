-- Children are earlier than their parents, and what is needed is in the cone.
use Rattle.std.proofs.Common.{◌≡◌, ℕ, ◌+◌, ◌-◌, ◌<◌, ◌≤◌, Bool, true, false, nat_le, cond, List, [], ◌∷◌, length, map, filter, All, Contains, subst, Option, Some, None, refl, arith, leb-true}
use Rattle.std.specs.List.{AllByRecursion}
use Rattle.std.proofs.lemmas.List.Elements.{recursion_from_All, All-from_recursion, All-contains, All-contains_itself}
use Rattle.std.proofs.Math.ListN.{get_or-map, length-map}
use Rattle.gate_values.specs.declared.Kind.{Kind}
use Rattle.gate_values.specs.Gates.{decides}
use Rattle.circuit_meaning.specs.Circuit.{Pin, FlipFlop, Driver, Input, Gate, Flop, Circuit, driver, read_by, IsCircuit, IsDriver}
use Rattle.circuit_meaning.specs.Forward.{seen_value, value}
use Rattle.circuit_meaning.specs.Edges.{shown_edge}
use Rattle.circuit_meaning.specs.Cells.{looked_pins}
use Rattle.circuit_meaning.specs.Need.{Window, flop_child, children_from, children, IsNeeded, Root, Child, IsInCone, Itself, Reads}
use Rattle.valid_intervals.specs.declared.Point.{Point}
use Rattle.circuit_meaning.proofs.Equations.{driver_fits, all_cut, all_imply}
use Rattle.circuit_meaning.proofs.EdgeLemmas.{shown_edge-le}

-- the points of the pins that read no time before 0
module _ (t : ℕ) (P : Point → Type 0) where
  all_points : (pins : List Pin) → AllByRecursion (λ p. p.delay ≤ t → P (record { signal = p.signal; time = t - p.delay })) pins
      → AllByRecursion P (map (λ p. record { signal = p.signal; time = t - p.delay }) (filter (λ p. nat_le p.delay t) pins))
  all_points [] h = tt
  all_points (p ∷ pins) h = go (nat_le p.delay t) refl (all_points pins h.1)
    where
      rest : List Pin
      rest = filter (λ p. nat_le p.delay t) pins

      point : Pin → Point
      point p = record { signal = p.signal; time = t - p.delay }

      go : (b : Bool) → nat_le p.delay t ≡ b → AllByRecursion P (map point rest) → AllByRecursion P (map point (cond b (p ∷ rest) rest))
      go true e k = (h.0 (leb-true p.delay t e), k)
      go false e k = k

-- the children of a gate
gate_points : (c : Circuit) (t : ℕ) (kind : Kind) (pins : List Pin) (P : Point → Type 0) → AllByRecursion (λ p. p.delay ≤ t → P (record { signal = p.signal; time = t - p.delay })) pins → AllByRecursion P (children_from c t (Gate kind pins))
gate_points c t kind pins P h = all_points t P (looked_pins c t kind pins) (all_cut (λ p. p.delay ≤ t → P (record { signal = p.signal; time = t - p.delay })) (λ p. decides kind (seen_value (value c) t p)) pins h)

flop_points : (f : FlipFlop) (t : ℕ) (P : Point → Type 0) → ((e : ℕ) → shown_edge f.clock f.delay t ≡ Some e → P (record { signal = f.pin; time = e })) → (o : Option ℕ) → shown_edge f.clock f.delay t ≡ o → AllByRecursion P (flop_child f.pin o)
flop_points f t P h None e = tt
flop_points f t P h (Some x) e = (h x e, tt)

sources-earlier : (c : Circuit) (n h t : ℕ) (d : Driver) → IsDriver n h d → AllByRecursion (λ p. p.time < t) (children_from c t d)
sources-earlier c n h t (Input settings) ok = tt
sources-earlier c n h t (Gate kind pins) ok = gate_points c t kind pins (λ p. p.time < t)
    (all_imply (λ p. 1 ≤ p.delay) (λ p. p.delay ≤ t → t - p.delay < t) (λ p pos le. omega arith) pins (recursion_from_All (λ p. 1 ≤ p.delay) pins ok.delay))
sources-earlier c n h t (Flop f) ok = flop_points f t (λ p. p.time < t) (λ e k. let le : e + f.delay ≤ t = shown_edge-le f.clock f.delay t e k in let pos = ok.delay in omega arith) (shown_edge f.clock f.delay t) refl

pub children-earlier : (c : Circuit) → IsCircuit c → (s t : ℕ) → All (λ p. p.time < t) (children c s t)
unfolding children
children-earlier c ok s t = All-from_recursion (λ p. p.time < t) (children c s t) (sources-earlier c (length c.drivers) c.horizon t (driver c s) (driver_fits c ok s))

-- what holds of each f x holds of the list of them
unmapped : {A B : Type 0} (P : B → Type 0) (f : A → B) (xs : List A) → All P (map f xs) → All (λ a. P (f a)) xs
unmapped P f xs h k d l = subst P (get_or-map f xs k d) (h k (f d) (rw length-map l))

sources-read : (c : Circuit) (t : ℕ) (d : Driver) → AllByRecursion (λ p. Contains (read_by d) p.signal) (children_from c t d)
sources-read c t (Input settings) = tt
sources-read c t (Gate kind pins) =
    let P : Point → Type 0 = λ p. Contains (map (λ p. p.signal) pins) p.signal in
    let Q : Pin → Type 0 = λ p. Contains (map (λ p. p.signal) pins) p.signal in
    gate_points c t kind pins P (all_imply Q (λ p. p.delay ≤ t → Q p) (λ p h _. h) pins
    (recursion_from_All Q pins (unmapped (Contains (map (λ p. p.signal) pins)) (λ p. p.signal) pins (All-contains_itself (map (λ p. p.signal) pins)))))
sources-read c t (Flop f) = flop_points f t (λ p. Contains (f.pin ∷ []) p.signal) (λ e k. (0, omega arith, refl)) (shown_edge f.clock f.delay t) refl

pub children-read : (c : Circuit) (s t : ℕ) → All (λ p. Contains (read_by (driver c s)) p.signal) (children c s t)
unfolding children
children-read c s t = All-from_recursion (λ p. Contains (read_by (driver c s)) p.signal) (children c s t) (sources-read c t (driver c s))

pub needed-in_cone : (c : Circuit) (q : Window) (s t : ℕ) → IsNeeded c q s t → IsInCone c q.signal s
needed-in_cone c q s t (Root r e) = Itself
needed-in_cone c q u w (Child {s} {t} n k e) = Reads (needed-in_cone c q s t n) (All-contains (λ p. Contains (read_by (driver c s)) p.signal) (children c s t) (record { signal = u; time = w }) (children-read c s t) k)
