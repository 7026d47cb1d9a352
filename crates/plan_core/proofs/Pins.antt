-- The pins of an evaluated point, and the points that are needed.
use Rattle.std.proofs.Common.{◌≡◌, ℕ, zero, suc, ◌<◌, List, [], ◌∷◌, length, get_or, All, Contains, Option, Some, None, refl, sym, subst, arith}
use Rattle.std.proofs.lemmas.List.Elements.{All-from_recursion}
use Rattle.valid_intervals.specs.declared.Point.{Point}
use Rattle.circuit_meaning.specs.Circuit.{Circuit}
use Rattle.circuit_meaning.specs.declared.Window.{Window}
use Rattle.circuit_meaning.specs.Need.{IsEvaluable, IsNeeded, Root, Child, children}
use Rattle.circuit_meaning.specs.Looks.{somes}
use Rattle.circuit_meaning.proofs.Callers.{children-somes}
use Rattle.journal_meaning.specs.declared.Entry.{Entry}
use Rattle.journal_meaning.specs.Answers.{IsCovered}
use Rattle.journal_meaning.proofs.Callers.{Each}
use Rattle.design.specs.PinWalks.{looked_at}
use Rattle.plan_core.specs.asked.Sources.{IsSourceCovered}

-- a source that is read is one of those there are
pub somes-has : (os : List (Option Point)) (n : ℕ) (x : Point) → get_or os n None ≡ Some x → Contains (somes os) x
somes-has [] n x e = absurd (cc e)
somes-has (None ∷ os) zero x e = absurd (cc e)
somes-has (Some y ∷ os) zero x e = let same : y ≡ x = cc e in subst (λ z. Contains (y ∷ somes os) z) same (0, omega arith, refl)
somes-has (None ∷ os) (suc n) x e = somes-has os n x e
somes-has (Some y ∷ os) (suc n) x e = let m = somes-has os n x e in (suc m.0, (let l = m.1 in omega arith), m.2)

pins-each : (c : Circuit) (es : List Entry) (os : List (Option Point)) → ((i : ℕ) → i < length os → IsSourceCovered c es (get_or os i None)) → Each (IsCovered c es) (somes os)
pins-each c es [] h = tt
pins-each c es (None ∷ os) h = pins-each c es os (λ i l. h (suc i) (omega arith))
pins-each c es (Some y ∷ os) h = (h 0 (omega arith), pins-each c es os (λ i l. h (suc i) (omega arith)))

-- once all are seen, the children are covered
pub pins-visited : (c : Circuit) (es : List Entry) (p : Point) → ((i : ℕ) → i < length (looked_at c p) → IsSourceCovered c es (get_or (looked_at c p) i None)) → All (IsCovered c es) (children c p.signal p.time)
pins-visited c es p h = subst (All (IsCovered c es)) (sym (children-somes c p.signal p.time)) (All-from_recursion (IsCovered c es) (somes (looked_at c p)) (pins-each c es (looked_at c p) h))

-- a needed point is evaluable
pub needed-evaluable : (c : Circuit) (w : Window) (s t : ℕ) → IsNeeded c w s t → IsEvaluable c s t
needed-evaluable c w s t (Root r e) = e
needed-evaluable c w s t (Child n k e) = e
