-- A line is justified by the accepted lines exactly where the rules give its cell; a proof, where each of its lines and its claim is.
use Rattle.std.proofs.Common.{◌≡◌, ℕ, zero, suc, ◌+◌, ◌<◌, ◌≤◌, Bool, true, false, List, [], ◌∷◌, ◌++◌, length, take, get_or, Option, Some, IfSome, slice_get, sym, ap, ap₂, subst, ◌∙◌, arith, inl, inr}
use Rattle.std.proofs.lemmas.Bool.{cases_lt}
use Rattle.valid_intervals.specs.declared.Cell.{Cell}
use Rattle.valid_intervals.specs.declared.Point.{Point}
use Rattle.valid_intervals.specs.declared.SignalCell.{SignalCell}
use Rattle.circuit_meaning.specs.Circuit.{Circuit, IsCircuit}
use Rattle.circuit_meaning.specs.Need.{IsEvaluable}
use Rattle.why_proofs.specs.Justified.{answer, IsJustified, IsJustifiedAt, AreJustified}
use Rattle.why_proofs.specs.Known.{place_of, AreTrueCells, IsIndexOf, IsRuled, Accepts}
use Rattle.why_proofs.proofs.Sound.{answer-right, rule-right, grown, take-grown}
use Rattle.why_proofs.proofs.KnownLemmas.{index-right}

module _ (c : Circuit) (ok : IsCircuit c) (index : Point → Option Cell) (true-cells : AreTrueCells c index) (lines : List SignalCell) (i : IsIndexOf lines index)
    (x : SignalCell) (p : Point) (signal : p.signal ≡ x.signal) (time : p.time ≡ x.cell.span.start) (cell : Cell) (ruled : IsRuled c (answer c lines) p cell) where
  place : p ≡ place_of x
  place = let at : ℕ → ℕ → Point = λ s t. record { signal = s; time = t } in ap₂ at signal time

  at-line : IsRuled c (answer c lines) (place_of x) cell
  at-line = subst (λ q. IsRuled c (answer c lines) q cell) place ruled

  pub justified : p.signal < length c.drivers → p.time ≤ c.horizon → IsEvaluable c p.signal p.time → x.cell ≡ cell → IsJustified c lines x
  justified s t e same = record {
    signal = subst (λ (q : Point). q.signal < length c.drivers) place s;
    time = subst (λ (q : Point). q.time ≤ c.horizon) place t;
    evaluable = subst (λ (q : Point). IsEvaluable c q.signal q.time) place e;
    answered = at-line.answered;
    rule = same ∙ at-line.right ∙ sym (rule-right c ok (answer c lines) (answer-right c ok lines (index-right c ok index true-cells lines i)) x.signal x.cell.span.start at-line.answered);
  }

  pub unjustified : (x.cell ≡ cell → ⊥) → IsJustified c lines x → ⊥
  unjustified other j =
      other (j.rule ∙ rule-right c ok (answer c lines) (answer-right c ok lines (index-right c ok index true-cells lines i)) x.signal x.cell.span.start j.answered ∙ sym at-line.right)

-- the line number n of the list
module _ (c : Circuit) (lines : List SignalCell) (n : ℕ) (x : SignalCell) (here : slice_get lines n ≡ Some x) where
  pub justified-at : IsJustified c (take n lines) x → IsJustifiedAt c lines n
  justified-at j = subst (λ o. IfSome o (IsJustified c (take n lines))) (sym here) j

  pub not-at : (IsJustified c (take n lines) x → ⊥) → IsJustifiedAt c lines n → ⊥
  not-at never h = never (subst (λ o. IfSome o (IsJustified c (take n lines))) here h)

  pub one-more : IsJustified c (take n lines) x → AreJustified c lines n → AreJustified c lines (n + 1)
  one-more j above k l = elim (cases_lt k n) [
    | inl m ↦ above k m
    | inr m ↦ let e : n ≡ k = omega arith in subst (IsJustifiedAt c lines) e (justified-at j)
  ]

  pub take-more : take (n + 1) lines ≡ take n lines ++ x ∷ []
  take-more = let one : n + 1 ≡ suc n = omega arith in ap (λ k. take k lines) one ∙ take-grown lines n ∙ ap (grown (take n lines)) here

pub all-justified : (c : Circuit) (lines : List SignalCell) (n : ℕ) → length lines ≤ n → AreJustified c lines n → AreJustified c lines (length lines)
all-justified c lines n h j k l = j k (omega arith)

-- an element that a loop comes to
pub get-slice : {A : Type 0} (xs : List A) (n : ℕ) (x : A) → n < length xs → x ≡ get_or xs n x → slice_get xs n ≡ Some x
get-slice [] n x l e = absurd (omega arith)
get-slice (y ∷ xs) zero x l e = ap Some (sym e)
get-slice (y ∷ xs) (suc n) x l e = get-slice xs n x (omega arith) e

module _ (c : Circuit) (lines : List SignalCell) (n : ℕ) (x : SignalCell) (index : Point → Option Cell) where
  pub accepted : (b : Bool) → b ≡ true → Accepts c (take n lines) x index b → IsJustified c (take n lines) x × IsIndexOf (take n lines ++ x ∷ []) index
  accepted true e h = h
  accepted false e h = absurd (cc e)

  pub refused : (b : Bool) → b ≡ false → Accepts c (take n lines) x index b → IsJustified c (take n lines) x → ⊥
  refused true e h = absurd (cc e)
  refused false e h = h
