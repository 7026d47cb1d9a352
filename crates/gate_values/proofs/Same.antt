-- The test for equality tells equal values.
use Rattle.std.proofs.Common.{◌≡◌, ◌≢◌, true, false, refl, sym, ap, ◌∙◌}
use Rattle.gate_values.specs.declared.Value.{Value}
use Rattle.gate_values.specs.declared.Value.TheVariants.{Zero, One, X, Z}
use Rattle.gate_values.specs.Gates.{same_value}

pub same_itself : (v : Value) → same_value v v ≡ true
same_itself Zero = refl
same_itself One = refl
same_itself X = refl
same_itself Z = refl

pub same_is : (v w : Value) → same_value v w ≡ true → v ≡ w
same_is Zero Zero h = refl
same_is One One h = refl
same_is X X h = refl
same_is Z Z h = refl
same_is v w h = absurd cc

pub other_is : (v w : Value) → same_value v w ≡ false → v ≢ w
other_is v w h = λ e. let k : same_value v w ≡ true = ap (λ x. same_value v x) (sym e) ∙ same_itself v in absurd (cc (h, k))

pub same-sym : (v w : Value) → same_value v w ≡ same_value w v
same-sym Zero Zero = refl
same-sym One One = refl
same-sym X X = refl
same-sym Z Z = refl
same-sym v w = refl
