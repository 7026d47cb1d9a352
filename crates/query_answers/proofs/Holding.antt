-- What is claimed is what a strand holds, step by step.
use Rattle.std.proofs.Common.{◌≡◌, ◌≢◌, ℕ, List, [], ◌∷◌, refl, sym, ap, subst, ◌∙◌, arith, inl, inr, Option, Some, None}
use Rattle.std.proofs.lemmas.Option.{none-some}
use Rattle.valid_intervals.specs.declared.Point.{Point}
use Rattle.circuit_meaning.specs.Circuit.{Circuit, IsCircuit}
use Rattle.journal_meaning.specs.States.{Claim, holder, without_point}
use Rattle.journal_meaning.proofs.Callers.{cases_point, claim-here, claim-other, holder-without, without-other, no-claims}
use Rattle.plan_machine.specs.Strands.{Frame, rest, stack_heard, IsOnStack, IsChain}
use Rattle.plan_machine.proofs.Callers.{IsTop, held-heard, heard-held, held-rest, rest-held, top-once}

-- claims of one query, and a stack
pub record Holds (number : ℕ) (claims : List Claim) (st : List Frame) : Type 0 where
  pub held : (p : Point) → IsOnStack st p → holder claims p ≡ Some number
  pub holder : (p : Point) (q : ℕ) → holder claims p ≡ Some q → IsOnStack st p

module _ (number : ℕ) (claims : List Claim) (st : List Frame) (h : Holds number claims st) where
  pub holds-heard : Holds number claims (stack_heard st)
  holds-heard = record { held = λ p k. h.held p (held-heard st p k); holder = λ p q k. heard-held st p (h.holder p q k) }

  -- a claim more
  pub holds-claimed : (p : Point) (left : List Point) → Holds number (record { query = number; point = p } ∷ claims) (record { point = p; left = left } ∷ st)
  holds-claimed p left = record {
    held = λ x k. elim (cases_point x p) [
      | inl e ↦ subst (λ z. holder (record { query = number; point = p } ∷ claims) z ≡ Some number) (sym e.1) (claim-here claims p number)
      | inr e ↦ claim-other claims p x number e.1 ∙ other x e.1 k
    ];
    holder = λ x q k. elim (cases_point x p) [
      | inl e ↦ inl (sym e.1)
      | inr e ↦ inr (h.holder x q (sym (claim-other claims p x number e.1) ∙ k))
    ];
  }
    where
      other : (x : Point) → x ≢ p → IsOnStack (record { point = p; left = left } ∷ st) x → holder claims x ≡ Some number
      other x ne (inl e) = absurd (ne (sym e))
      other x ne (inr k) = h.held x k

  -- the claim of the top ends
  pub holds-rest : (c : Circuit) → IsCircuit c → (roots : List Point) (p : Point) → IsChain c roots st → IsTop st p → Holds number (without_point claims p) (rest st)
  holds-rest c ok roots p chain top = record {
    held = λ x k.
        let later = top-once c ok roots st p x chain top k in
        let ne : x ≢ p = λ e. (let t : x.time ≡ p.time = ap (λ (z : Point). z.time) e in absurd (omega arith)) in
        without-other claims p x ne ∙ h.held x (held-rest st x k);
    holder = λ x q k. elim (cases_point x p) [
      | inl e ↦ absurd (none-some q (sym (subst (λ z. holder (without_point claims p) z ≡ None) (sym e.1) (holder-without claims p)) ∙ k))
      | inr e ↦ elim (rest-held st p x top (h.holder x q (sym (without-other claims p x e.1) ∙ k))) [ inl same ↦ absurd (e.1 same) | inr l ↦ l ]
    ];
  }

  -- where nothing is held nothing is claimed
  pub holds-none : st ≡ [] → claims ≡ []
  holds-none empty = no-claims claims (λ p. free p (holder claims p) refl)
    where
      free : (p : Point) (o : Option ℕ) → holder claims p ≡ o → holder claims p ≡ None
      free p None e = e
      free p (Some q) e = absurd (subst (λ s. IsOnStack s p) empty (h.holder p q e))
