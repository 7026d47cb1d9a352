-- A gate whose pins are all unknown gives x, and no gate gives z.
use Rattle.std.proofs.Common.{◌≡◌, ◌≢◌, ◌≤◌, ◌%◌, Bool, true, false, if◌then◌else◌, ◌==◌, List, [], ◌∷◌, length, get_or, count_by, refl, arith}
use Rattle.std.specs.List.{list_any, AllByRecursion}
use Rattle.gate_values.specs.declared.Value.{Value}
use Rattle.gate_values.specs.declared.Value.TheVariants.{Zero, One, X, Z}
use Rattle.gate_values.specs.declared.Kind.{Kind}
use Rattle.gate_values.specs.declared.Kind.TheVariants.{And, Nand, Or, Nor, Xor, Xnor, Not, Buff, Dff}
use Rattle.gate_values.specs.Gates.{is_zero, is_one, is_unknown, read, negation, conjunction, disjunction, parity, only, gate_value}

-- what is unknown is neither 0 nor 1
not_zero : (v : Value) → is_unknown v ≡ true → is_zero v ≡ false
not_zero Zero h = cc
not_zero One h = refl
not_zero X h = refl
not_zero Z h = refl

not_one : (v : Value) → is_unknown v ≡ true → is_one v ≡ false
not_one Zero h = refl
not_one One h = cc
not_one X h = refl
not_one Z h = refl

none : (test : Value → Bool) → ((v : Value) → is_unknown v ≡ true → test v ≡ false) → (pins : List Value) → AllByRecursion (λ v. is_unknown v ≡ true) pins → list_any test pins ≡ false
none test fails [] h = refl
none test fails (v ∷ pins) h = rw (fails v h.0) (none test fails pins h.1)

read_unknown : (v : Value) → is_unknown v ≡ true → read v ≡ X
read_unknown Zero h = cc
read_unknown One h = cc
read_unknown X h = refl
read_unknown Z h = refl

module _ (v : Value) (pins : List Value) (h : AllByRecursion (λ v. is_unknown v ≡ true) (v ∷ pins)) where
  conjunction-unknown : conjunction (v ∷ pins) ≡ X
  conjunction-unknown = rw (not_zero v h.0, none is_zero not_zero pins h.1, h.0) refl

  disjunction-unknown : disjunction (v ∷ pins) ≡ X
  disjunction-unknown = rw (not_one v h.0, none is_one not_one pins h.1, h.0) refl

  parity-unknown : parity (v ∷ pins) ≡ X
  parity-unknown = rw (h.0) refl

  table-unknown : (kind : Kind) → gate_value kind (v ∷ pins) ≡ X
  table-unknown And = conjunction-unknown
  table-unknown Nand = rw conjunction-unknown refl
  table-unknown Or = disjunction-unknown
  table-unknown Nor = rw disjunction-unknown refl
  table-unknown Xor = parity-unknown
  table-unknown Xnor = rw parity-unknown refl
  table-unknown Not = rw (read_unknown v h.0) refl
  table-unknown Buff = read_unknown v h.0
  table-unknown Dff = read_unknown v h.0

pub gate_value-unknown : (kind : Kind) (pins : List Value) → AllByRecursion (λ v. is_unknown v ≡ true) pins → 1 ≤ length pins → gate_value kind pins ≡ X
gate_value-unknown kind [] h some = absurd (omega arith)
gate_value-unknown kind (v ∷ pins) h some = table-unknown v pins h kind

-- 0, 1 or x
not_z : (a : Bool) (b : Bool) (v w : Value) → v ≢ Z → w ≢ Z → (if a then v else (if b then X else w)) ≢ Z
not_z true b v w h k = h
not_z false true v w h k = λ e. cc
not_z false false v w h k = k

choice : (b : Bool) → (if b then One else Zero) ≢ Z
choice true = λ e. cc
choice false = λ e. cc

read-not_z : (v : Value) → read v ≢ Z
read-not_z Zero = λ e. cc
read-not_z One = λ e. cc
read-not_z X = λ e. cc
read-not_z Z = λ e. cc

negation-not_z : (v : Value) → negation v ≢ Z
negation-not_z Zero = λ e. cc
negation-not_z One = λ e. cc
negation-not_z X = λ e. cc
negation-not_z Z = λ e. cc

parity_z : (a b : Bool) → (if a then X else (if b then One else Zero)) ≢ Z
parity_z true b = λ e. cc
parity_z false b = choice b

-- no gate gives z
pub gate_value-not_z : (kind : Kind) (pins : List Value) → gate_value kind pins ≢ Z
gate_value-not_z And pins = not_z (list_any is_zero pins) (list_any is_unknown pins) Zero One (λ e. cc) (λ e. cc)
gate_value-not_z Nand pins = negation-not_z (conjunction pins)
gate_value-not_z Or pins = not_z (list_any is_one pins) (list_any is_unknown pins) One Zero (λ e. cc) (λ e. cc)
gate_value-not_z Nor pins = negation-not_z (disjunction pins)
gate_value-not_z Xor pins = parity_z (list_any is_unknown pins) (count_by is_one pins % 2 == 1)
gate_value-not_z Xnor pins = negation-not_z (parity pins)
gate_value-not_z Not pins = negation-not_z (only pins)
gate_value-not_z Buff pins = read-not_z (get_or pins 0 X)
gate_value-not_z Dff pins = read-not_z (get_or pins 0 X)
