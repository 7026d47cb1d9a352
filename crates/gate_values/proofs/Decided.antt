-- A value that decides settles the value of a gate.
use Rattle.std.proofs.Common.{◌≡◌, Bool, true, false, List, [], ◌∷◌, ◌++◌, refl, sym, ◌∙◌}
use Rattle.std.specs.List.{list_any}
use Rattle.std.proofs.lemmas.List.Folds.{list_any-append}
use Rattle.gate_values.specs.declared.Value.{Value}
use Rattle.gate_values.specs.declared.Kind.{Kind}
use Rattle.gate_values.specs.declared.Kind.TheVariants.{And, Nand, Or, Nor, Xor, Xnor, Not, Buff, Dff}
use Rattle.gate_values.specs.Gates.{is_zero, is_one, is_unknown, gate_value, decides}

any_true : {A : Type 0} (test : A → Bool) (xs ys : List A) → list_any test xs ≡ true → list_any test (xs ++ ys) ≡ true
any_true test xs ys h = list_any-append test xs ys ∙ rw h refl

-- a test that nothing passes
none_pass : (xs : List Value) → list_any (λ v. false) xs ≡ false
none_pass [] = refl
none_pass (x ∷ xs) = none_pass xs

-- once a value has decided, the gate has the value of the pins up to there
pub gate_value-decided : (kind : Kind) (pins rest : List Value) → list_any (decides kind) pins ≡ true → gate_value kind (pins ++ rest) ≡ gate_value kind pins
gate_value-decided And pins rest h = rw (any_true is_zero pins rest h, h) refl
gate_value-decided Nand pins rest h = rw (any_true is_zero pins rest h, h) refl
gate_value-decided Or pins rest h = rw (any_true is_one pins rest h, h) refl
gate_value-decided Nor pins rest h = rw (any_true is_one pins rest h, h) refl
gate_value-decided Xor pins rest h = rw (any_true is_unknown pins rest h, h) refl
gate_value-decided Xnor pins rest h = rw (any_true is_unknown pins rest h, h) refl
gate_value-decided Not pins rest h = let k : false ≡ true = sym (none_pass pins) ∙ h in absurd (cc)
gate_value-decided Buff pins rest h = let k : false ≡ true = sym (none_pass pins) ∙ h in absurd (cc)
gate_value-decided Dff pins rest h = let k : false ≡ true = sym (none_pass pins) ∙ h in absurd (cc)
