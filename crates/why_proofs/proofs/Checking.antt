-- What was read of a text, and what follows of the answer.
use Rattle.std.proofs.Common.{◌≡◌, ℕ, ◌+◌, ◌<◌, ◌≤◌, List, [], ◌∷◌, ◌++◌, length, Option, Some, None, Result, IfOk, refl, sym, ap, subst, ◌∙◌, append_assoc, length-append, arith}
use Rattle.std.specs.Prelude.{flat_map, codes}
use Rattle.std.proofs.lemmas.Result.{IfOk-weaker}
use Rattle.valid_intervals.specs.declared.SignalCell.{SignalCell}
use Rattle.circuit_meaning.specs.Circuit.{IsCircuit}
use Rattle.circuit_meaning.specs.Forward.{value}
use Rattle.design.specs.Joined.{Joined}
use Rattle.why_proofs.specs.Spelling.{cell_line, claim_line, Proof, IsLine, IsProof}
use Rattle.why_proofs.specs.Broken.{IsBroken}
use Rattle.why_proofs.specs.Verdicts.{IsTextOf, RightYes, RightNo, IsTrueYes}
use Rattle.why_proofs.specs.inner.Judged.{IsJudged}
use Rattle.texts.specs.fields.Reading.{after_word}
use Rattle.why_proofs.specs.inner.Reading.{Claim, claim_at, cell_at, cells_at}
use Rattle.why_proofs.specs.declared.checker.Checked.{Checked}
use Rattle.why_proofs.specs.declared.checker.Checked.TheVariants.{Yes, No, Bad}
use Rattle.texts.proofs.Callers.{after_takes, AreRead, items_take, items_count}
use Rattle.why_proofs.proofs.Lines.{claim_takes, spelling}
use Rattle.why_proofs.proofs.Breaks.{head, head-is, no-end, more-behind}
use Rattle.why_proofs.proofs.Sound.{claim-true}

abbrev end : List ℕ
end = codes "end\n"

abbrev pub proof-with : Claim → List SignalCell → Proof
proof-with claim cells = record { name = claim.0; time = claim.1; value = claim.2; cells = cells }

abbrev pub read-cells : List SignalCell → List ℕ → List SignalCell × List ℕ
read-cells cells rest = (cells, rest)

abbrev pub read-claim : Claim → List ℕ → Option (Claim × List ℕ)
read-claim claim rest = Some (claim, rest)

module _ (text r1 r2 : List ℕ) (claim : Claim) (cells : List SignalCell) (one : claim_at text ≡ read-claim claim r1) (two : read-cells cells r2 ≡ cells_at (length r1) r1) where
  abbrev q : Proof
  q = proof-with claim cells

  abbrev first : List ℕ
  first = claim_line claim.0 claim.1 claim.2

  lines-read : AreRead cell_at cell_line IsLine r1 (cells, r2)
  lines-read = subst (AreRead cell_at cell_line IsLine r1) (sym two) (items_take spelling (length r1) r1 (omega arith))

  pub is-proof : IsProof q
  is-proof = let taken = claim_takes text claim r1 one in record { name = taken.name; time = taken.time; cells = lines-read.items }

  parts : text ≡ (first ++ flat_map cell_line cells) ++ r2
  parts = (claim_takes text claim r1 one).spelled ∙ ap (λ (l : List ℕ). first ++ l) lines-read.spelled ∙ sym (append_assoc first (flat_map cell_line cells) r2)

  spelled : text ≡ head q is-proof ++ r2
  spelled = parts ∙ ap (λ (l : List ℕ). l ++ r2) (sym (head-is q is-proof))

  pub few : length cells ≤ length text
  few =
      let count : length cells ≤ length r1 = subst (λ (r : List SignalCell × List ℕ). length r.0 ≤ length r1) (sym two) (items_count spelling (length r1) r1) in
      omega (arith, count, ap length (claim_takes text claim r1 one).spelled, length-append first r1)

  pub broken-end : (n : ℕ) → n ≡ length cells → after_word end r2 ≡ None → IsBroken text (n + 2)
  broken-end n count none = subst (λ k. IsBroken text (k + 2)) (sym count) (no-end q is-proof text r1 r2 one (sym two) spelled lines-read.stop none)

  pub broken-behind : (n : ℕ) → n ≡ length cells → (r3 : List ℕ) → after_word end r2 ≡ Some r3 → 0 < length r3 → IsBroken text (n + 2 + 1)
  broken-behind n count r3 word some = subst (λ k. IsBroken text (k + 2 + 1)) (sym count) (more-behind q is-proof text r1 r2 one (sym two) spelled r3 word some)

  -- the text is that of this proof
  pub whole : (r3 : List ℕ) → after_word end r2 ≡ Some r3 → length r3 ≡ 0 → IsTextOf text q
  whole r3 word none =
      let ends : r2 ≡ end ++ r3 = after_takes end r2 r3 word in
      record {
        proof = is-proof;
        spelled = parts ∙ ap (λ (l : List ℕ). (first ++ flat_map cell_line cells) ++ l) (ends ∙ ap (λ (l : List ℕ). end ++ l) (empty r3 none)) ∙ append_assoc first (flat_map cell_line cells) end;
      }
    where
      empty : (l : List ℕ) → length l ≡ 0 → l ≡ []
      empty [] h = refl
      empty (b ∷ l) h = absurd (omega arith)

-- what is judged of a proof is right of its text
module _ (d : Joined) (text : List ℕ) (p : Proof) (is : IsTextOf text p) where
  right-yes : (r : Checked) → IsJudged d p r → RightYes d text r
  right-yes (Yes s t v) h = (p, is, h.0, h.1, h.2)
  right-yes (No line) h = tt
  right-yes (Bad line) h = tt

  right-no : (r : Checked) → IsJudged d p r → RightNo d text r
  right-no (Yes s t v) h = tt
  right-no (No line) h = (p, is, h)
  right-no (Bad line) h = tt

true-yes : (d : Joined) → IsCircuit d.circuit → (p : Proof) (r : Checked) → IsJudged d p r → IsTrueYes d r
true-yes d ok p (Yes s t v) h = ap (λ u. value d.circuit s u) h.1 ∙ claim-true d ok p s h.0 ∙ sym h.2
true-yes d ok p (No line) h = tt
true-yes d ok p (Bad line) h = tt

module _ {E : Type 0} (d : Joined) (result : Result Checked E) (claim : Claim) (cells given : List SignalCell) (same : given ≡ cells) (judged : IfOk result (IsJudged d (proof-with claim given))) where
  judged-here : IfOk result (IsJudged d (proof-with claim cells))
  judged-here = subst (λ xs. IfOk result (IsJudged d (proof-with claim xs))) same judged

  pub yes-answer : (text : List ℕ) → IsTextOf text (proof-with claim cells) → IfOk result (RightYes d text)
  yes-answer text is = IfOk-weaker result (IsJudged d (proof-with claim cells)) (RightYes d text) (right-yes d text (proof-with claim cells) is) judged-here

  pub no-answer : (text : List ℕ) → IsTextOf text (proof-with claim cells) → IfOk result (RightNo d text)
  no-answer text is = IfOk-weaker result (IsJudged d (proof-with claim cells)) (RightNo d text) (right-no d text (proof-with claim cells) is) judged-here

  pub true-answer : IsCircuit d.circuit → IfOk result (IsTrueYes d)
  true-answer ok = IfOk-weaker result (IsJudged d (proof-with claim cells)) (IsTrueYes d) (true-yes d ok (proof-with claim cells)) judged-here
