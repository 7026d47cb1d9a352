-- How many pins a gate of a kind has.
use Rattle.std.proofs.Common.{◌≡◌, ℕ, ◌≤◌, ◌&&◌, ◌||◌, Bool, true, false, not, eqb, leb, IsTrue}
use Rattle.std.proofs.lemmas.Bool.{and_parts, eqb-true, leb-true, false≢true}
use Rattle.gate_values.specs.declared.Kind.{Kind}
use Rattle.gate_values.specs.Gates.{allows, is_unary}

module _ (kind : Kind) (pins : ℕ) (h : IsTrue (allows kind pins)) where
  abbrev one : Bool
  one = not (is_unary kind) || eqb pins 1

  first : IsTrue (leb 1 pins) × IsTrue (leb pins 64 && one)
  first = and_parts (leb 1 pins) (leb pins 64 && one) h

  second : IsTrue (leb pins 64) × IsTrue one
  second = and_parts (leb pins 64) one first.1

  pub allows-some : 1 ≤ pins
  allows-some = leb-true 1 pins first.0

  pub allows-few : pins ≤ 64
  allows-few = leb-true pins 64 second.0

  pub allows-one : IsTrue (is_unary kind) → pins ≡ 1
  allows-one unary = eqb-true pins 1 (cases (is_unary kind) (eqb pins 1) unary second.1)
    where
      cases : (u e : Bool) → IsTrue u → IsTrue (not u || e) → IsTrue e
      cases true e u t = t
      cases false e u t = absurd (false≢true u)
