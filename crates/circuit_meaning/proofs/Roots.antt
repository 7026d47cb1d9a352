-- The roots of a query, and the queries for one point.
use Rattle.std.proofs.Common.{◌≡◌, ℕ, zero, suc, ◌+◌, ◌<◌, ◌≤◌, refl, sym, subst, arith, inl, inr}
use Rattle.std.proofs.lemmas.Bool.{cases_lt}
use Rattle.circuit_meaning.specs.Circuit.{Circuit, IsCircuit}
use Rattle.circuit_meaning.specs.Forward.{value, entry, forward}
use Rattle.circuit_meaning.specs.Cells.{span}
use Rattle.valid_intervals.specs.Spans.{IsIn}
use Rattle.circuit_meaning.specs.Need.{Window, IsRoot, First, Piece, Next, IsNeeded, Root, Child, children}
use Rattle.circuit_meaning.specs.Laws.{at_point}
use Rattle.circuit_meaning.proofs.Equations.{entry-value}
use Rattle.circuit_meaning.proofs.Points.{children-earlier}
use Rattle.std.proofs.lemmas.List.Elements.{All-contains}
use Rattle.circuit_meaning.proofs.Cover.{cell-covers}

module _ (c : Circuit) (ok : IsCircuit c) (q : Window) (within : q.stop ≤ c.horizon + 1) where
  -- from a root on, in so many steps
  reach : (n r t : ℕ) → t ≤ r + n → IsRoot c q r → r ≤ t → t < q.stop → (x : ℕ) × IsRoot c q x × IsIn (span c q.signal x) t
  reach zero r t near root low high =
      let k : IsIn (span c q.signal r) r = (cell-covers c ok r q.signal (omega arith)).inside in
      (r, root, record { low = omega arith; high = omega arith })
  reach (suc n) r t near root low high =
      let k : IsIn (span c q.signal r) r = (cell-covers c ok r q.signal (omega arith)).inside in
      elim (cases_lt t (span c q.signal r).stop) [
        | inl l ↦ (r, root, record { low = omega arith; high = l })
        | inr l ↦ reach n (span c q.signal r).stop t (omega arith) (Next root (omega arith)) l high
      ]

  pub roots-reach : (t : ℕ) → q.start ≤ t → t < q.stop → (x : ℕ) × IsRoot c q x × IsIn (span c q.signal x) t
  roots-reach t low high = reach t q.start t (omega arith) (First (omega arith)) low high

-- a query for one point has that one root
only_root : (c : Circuit) → IsCircuit c → (s t r : ℕ) → t ≤ c.horizon → IsRoot c (at_point s t) r → r ≡ t
only_root c ok s t r within (First h) = refl
only_root c ok s t r within (Piece n low high) = absurd (omega arith)
only_root c ok s t r within (Next {r = x} root h) =
    let e = only_root c ok s t x within root in
    let k : IsIn (span c s x) x = (cell-covers c ok x s (omega arith)).inside in
    absurd (omega arith)

root-within : (c : Circuit) (q : Window) (r : ℕ) → IsRoot c q r → r < q.stop
root-within c q r (First h) = h
root-within c q r (Piece n low high) = high
root-within c q r (Next {r = x} root h) = h

-- what is needed is at a time of the window or before
module _ (c : Circuit) (ok : IsCircuit c) (q : Window) where
  pub needed-before : (s t : ℕ) → IsNeeded c q s t → t < q.stop
  needed-before s t (Root r e) = root-within c q t r
  needed-before u w (Child {s} {t} n k e) =
      let a : w < t = All-contains (λ p. p.time < t) (children c s t) (record { signal = u; time = w }) (children-earlier c ok s t) k in
      let b : t < q.stop = needed-before s t n in
      omega arith

  module _ (within : q.stop ≤ c.horizon + 1) (s t : ℕ) (needed : IsNeeded c q s t) where
    pub needed-alone : (u w : ℕ) → IsNeeded c (at_point s t) u w → IsNeeded c q u w
    needed-alone u w (Root r e) =
        let b : t < q.stop = needed-before s t needed in
        subst (λ x. IsNeeded c q s x) (sym (only_root c ok s t w (omega arith) r)) needed
    needed-alone u w (Child {s = x} {t = y} n k e) = Child (needed-alone x y n) k e

pub forward-holds : (c : Circuit) (s t : ℕ) → t ≤ c.horizon → entry (forward c) s t ≡ value c s t
forward-holds c s t h = entry-value c (c.horizon + 1) s t (omega arith)
