-- Laws of strands.
use Rattle.std.specs.Prelude.{◌≡◌, ◌<◌}
use Rattle.valid_intervals.specs.declared.Point.{Point}
use Rattle.circuit_meaning.specs.Need.{IsEvaluable}
use Rattle.journal_meaning.specs.Batches.{Batch, IsNeededBy, OfQuery}
use Rattle.journal_meaning.specs.Lawful.{IsLawful}
use Rattle.plan_machine.specs.declared.strand.Next.TheVariants.{Ask, Fill, Drop}
use Rattle.plan_machine.specs.Strands.{Strand, IsStrand, next, after_answer, after_claim, given_up, after_drop, after_fill, IsOnStack}

-- a query of the batch with the strand's number needs the point, which has no base answer
pub record IsWantedBy (b : Batch) (s : Strand) (p : Point) : Type 0 where
  pub needed : OfQuery b s.query.number (λ q. IsNeededBy b q p)
  pub evaluable : IsEvaluable b.circuit p.signal p.time

-- what a strand asks for and what it holds is needed
pub record AsksWhatIsNeeded (b : Batch) (s : Strand) : Type 0 where
  pub asked : (p : Point) → next s ≡ Ask p → IsWantedBy b s p
  pub on_stack : (p : Point) → IsOnStack s.stack p → IsWantedBy b s p

abbrev pub StrandsAskWhatIsNeeded : Type 0
StrandsAskWhatIsNeeded = (b : Batch) → IsLawful b → (s : Strand) → IsStrand b s → AsksWhatIsNeeded b s

-- it waits for a point that is earlier than all that it holds
abbrev pub WaitsAreEarlier : Type 0
WaitsAreEarlier = (b : Batch) → IsLawful b → (s : Strand) → IsStrand b s → (p x : Point) → next s ≡ Ask p → IsOnStack s.stack x → p.time < x.time

-- each step of a strand leaves a strand
pub record StepsKeep (b : Batch) (s : Strand) : Type 0 where
  pub heard : IsStrand b (after_answer s)
  pub claimed : (p : Point) → next s ≡ Ask p → s.charged < s.budget → IsStrand b (after_claim b.circuit s p)
  pub given_up : IsStrand b (given_up s)
  pub dropped : (p : Point) → next s ≡ Drop p → IsStrand b (after_drop s)
  pub finished : (p : Point) → next s ≡ Fill p → IsStrand b (after_fill s)

abbrev pub StrandsStay : Type 0
StrandsStay = (b : Batch) → (s : Strand) → IsStrand b s → StepsKeep b s
