-- The pins of a filled point, one after another.
use Rattle.std.proofs.Common.{◌≡◌, ℕ, ◌≤◌, List, get_or, Contains, Option, Some, None, IfSome, refl, sym, ap, subst, ◌∙◌}
use Rattle.std.proofs.lemmas.Option.{none-some}
use Rattle.valid_intervals.specs.declared.Cell.{Cell}
use Rattle.valid_intervals.specs.declared.Point.{Point}
use Rattle.circuit_meaning.specs.Circuit.{Circuit}
use Rattle.circuit_meaning.specs.Cells.{cell_at}
use Rattle.circuit_meaning.specs.Need.{IsEvaluable, IsRoot, Root, children}
use Rattle.circuit_meaning.proofs.Callers.{children-somes}
use Rattle.journal_meaning.specs.declared.Entry.{Entry}
use Rattle.journal_meaning.specs.declared.batch.Query.{Query}
use Rattle.journal_meaning.specs.Answers.{IsCovered}
use Rattle.journal_meaning.specs.Batches.{Batch, Site, IsNeededBy, NeedOf, window_of}
use Rattle.journal_meaning.specs.Lawful.{IsLawful}
use Rattle.journal_meaning.specs.Pieces.{IsStart}
use Rattle.plan_machine.specs.Settle.{child_start}
use Rattle.plan_machine.proofs.Callers.{wanted-time, evaluable-signal, child-start, child-needed}
use Rattle.design.specs.declared.pin_walk.PinWalk.{PinWalk}
use Rattle.design.specs.PinWalks.{IsPoint, IsPinWalk, looked_at, next_point}
use Rattle.plan_core.specs.asked.Sources.{IsSourceCovered}
use Rattle.plan_core.proofs.Callers.{somes-has, needed-evaluable}
use Rattle.query_answers.specs.asking.inner.AskedMemos.{heard_at}

-- a pin that is looked at reads a child
pub source-child : (c : Circuit) (p x : Point) (n : ℕ) → get_or (looked_at c p) n None ≡ Some x → Contains (children c p.signal p.time) x
source-child c p x n e = subst (λ l. Contains l x) (sym (children-somes c p.signal p.time)) (somes-has (looked_at c p) n x e)

-- what is heard is the source and its cell
pub heard-some : (c : Circuit) (o : Option Point) (p : Point) (x : Cell) → heard_at c o ≡ Some (p, x) → (o ≡ Some p) × (x ≡ cell_at c p)
heard-some c None p x e = absurd (none-some (p, x) e)
heard-some c (Some r) p x e =
    let both : (r, cell_at c r) ≡ (p, x) = cc in
    let same : r ≡ p = ap (λ (z : Point × Cell). z.0) both in
    (ap Some same, sym (ap (λ (z : Point × Cell). z.1) both) ∙ ap (cell_at c) same)

-- nothing is heard where there is no source
pub heard-none : (c : Circuit) (o : Option Point) → heard_at c o ≡ None → o ≡ None
heard-none c None e = refl
heard-none c (Some r) e = absurd (none-some (r, cell_at c r) (sym e))

-- the source of the next pin is a point of the circuit
pub source-point : (c : Circuit) (w : PinWalk) → IsPinWalk c w → (p : Point) → next_point c w ≡ Some p → IsPoint c p
source-point c w walk p e = subst (λ (o : Option Point). IfSome o (IsPoint c)) (walk.source ∙ e) walk.reads

-- a source stays covered
pub source-kept : (c : Circuit) (es fs : List Entry) → ((x : Point) → IsCovered c es x → IsCovered c fs x) → (o : Option Point) → IsSourceCovered c es o → IsSourceCovered c fs o
source-kept c es fs f None h = tt
source-kept c es fs f (Some x) h = f x h

module _ (b : Batch) (lawful : IsLawful b) (q : Query) (known : Contains b.queries q) (p : Point) (need : IsNeededBy b q p) where
  -- a needed point has no base answer, where no signal is held
  pub needed-has : b.site ≡ None → IsEvaluable b.circuit p.signal p.time
  needed-has site = needed-evaluable b.circuit (window_of q) p.signal p.time (subst (λ s. NeedOf b.circuit s q p) site need)

  -- it is a point of the circuit
  pub needed-point : b.site ≡ None → IsPoint b.circuit p
  needed-point site = record { signal = evaluable-signal p.time b.circuit.drivers p.signal (needed-has site); time = wanted-time b lawful q.number p (q, known, refl, need) }

  -- a strand may start with the source of its pin
  pub source-start : (x : Point) (n : ℕ) → get_or (looked_at b.circuit p) n None ≡ Some x → (charge : ℕ) → charge ≤ q.budget → IsEvaluable b.circuit x.signal x.time → IsStart b (child_start q x charge)
  source-start x n e charge low evaluable = child-start b lawful q known x (child-needed b lawful q p x need (source-child b.circuit p x n e) evaluable) evaluable charge low

-- a root of its window is a point that the query needs
pub root-needed-by : (b : Batch) (q : Query) → b.site ≡ None → (t : ℕ) → IsRoot b.circuit (window_of q) t → IsEvaluable b.circuit q.signal t → IsNeededBy b q (record { signal = q.signal; time = t })
root-needed-by b q site t root evaluable = subst (λ (s : Option Site). NeedOf b.circuit s q (record { signal = q.signal; time = t })) (sym site) (Root root evaluable)
