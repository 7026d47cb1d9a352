-- What every strand of a batch keeps, at each of its steps.
use Rattle.std.proofs.Common.{◌≡◌, ℕ, ◌+◌, ◌<◌, ◌≤◌, List, [], length, refl, sym, subst, arith, Option, Some, None, MatchOption, IfSome, false}
use Rattle.std.proofs.Math.ListN.{length-map}
use Rattle.valid_intervals.specs.declared.Cell.{Cell}
use Rattle.valid_intervals.specs.declared.Point.{Point}
use Rattle.circuit_meaning.specs.Circuit.{Circuit}
use Rattle.circuit_meaning.specs.Need.{IsRoot}
use Rattle.journal_meaning.specs.declared.batch.Query.{Query}
use Rattle.journal_meaning.specs.Batches.{Batch, window_of}
use Rattle.plan_machine.specs.declared.strand.Next.TheVariants.{Ask, Fill}
use Rattle.journal_meaning.specs.Lawful.{IsLawful, IsQueryOf}
use Rattle.plan_machine.specs.Strands.{Strand, IsStrand, next, after_answer, after_claim, after_fill, rest}
use Rattle.plan_machine.proofs.Callers.{heard-keeps, claimed-keeps, finished-keeps, length-heard, length-rest, fill-top, started-right, query-within}
use Rattle.design.specs.declared.pin_walk.PinWalk.{PinWalk}
use Rattle.demand_points.specs.declared.parts.Parts.{Parts}
use Rattle.demand_points.specs.inner.Bases.{shown_frame}
use Rattle.demand_points.specs.Demands.{IsLastHeard, IsRootCell, itself}
use Rattle.demand_points.specs.inner.Demands.{demand_of, strand_of, TakesStepTo, IsDemand}
use Rattle.demand_points.proofs.PartLemmas.{steps-on}

-- the counts of a strand fit
pub record Fits (s : Strand) : Type 0 where
  pub charge : s.charged ≤ s.budget
  pub claims : length s.stack + s.filled ≤ s.charged

stack-count : (c : Circuit) (s : Parts) → length (strand_of c s).stack ≡ length s.stack
stack-count c s = length-map s.stack (shown_frame c)

pub fits-of : (b : Batch) (s : Parts) → IsDemand b s → Fits (strand_of b.circuit s)
fits-of b s is = let n = stack-count b.circuit s in let k = is.claims in record { charge = is.charge; claims = omega arith }

pub demand-steps : (b : Batch) (old new : Parts) (f : Strand → Strand) → IsDemand b old → TakesStepTo b.circuit f old new
    → (IsStrand b (strand_of b.circuit old) → IsStrand b (f (strand_of b.circuit old))) → Fits (f (strand_of b.circuit old)) → IsDemand b new
demand-steps b old new f is steps keeps fits =
    let n = stack-count b.circuit new in
    let same : Fits (strand_of b.circuit new) = subst Fits (sym steps.strand) fits in
    let claims = same.claims in
    let live : 0 < new.to → 0 < old.to = λ h. subst (λ t. 0 < t) steps.to h in
    record {
      lawful = λ h. is.lawful (live h);
      strand = λ h. subst (IsStrand b) (sym steps.strand) (keeps (is.strand (live h)));
      running = steps.running;
      charge = same.charge;
      claims = omega arith;
    }

module _ (b : Batch) (d : Circuit) (e : d ≡ b.circuit) (old middle new : Parts) (is : IsDemand b old) (settled : TakesStepTo d itself old middle) where
  pub heard-demand : TakesStepTo d after_answer middle new → IsDemand b new
  heard-demand h =
      let fits = fits-of b old is in
      let n = length-heard (strand_of b.circuit old).stack in
      let claims = fits.claims in
      demand-steps b old new after_answer is (subst (λ x. TakesStepTo x after_answer old new) e (steps-on d after_answer old middle new settled h))
      (λ s. heard-keeps b (strand_of b.circuit old) s)
      (record { charge = fits.charge; claims = omega arith })

pub claimed-demand : (b : Batch) (d : Circuit) → d ≡ b.circuit → (old new : Parts) → IsDemand b old → (p : Point) → next (strand_of b.circuit old) ≡ Ask p → old.charged < old.budget
    → TakesStepTo d (λ x. after_claim d x p) old new → IsDemand b new
claimed-demand b d e old new is p asks room h =
    let fits = fits-of b old is in
    let claims = fits.claims in
    let f : Circuit → Strand → Strand = λ x s. after_claim x s p in
    demand-steps b old new (f b.circuit) is (subst (λ x. TakesStepTo x (f x) old new) e h)
    (λ s. claimed-keeps b (strand_of b.circuit old) s p asks room)
    (record { charge = omega arith; claims = omega arith })

pub finished-demand : (b : Batch) (d : Circuit) → d ≡ b.circuit → (old new : Parts) → IsDemand b old → (p : Point) → next (strand_of b.circuit old) ≡ Fill p → TakesStepTo d after_fill old new → IsDemand b new
finished-demand b d e old new is p h steps =
    let s = strand_of b.circuit old in
    let top = fill-top s p h in
    let fits = fits-of b old is in
    let claims = fits.claims in
    let some = length-rest s.stack p top in
    let same = length-heard (rest s.stack) in
    demand-steps b old new after_fill is (subst (λ x. TakesStepTo x after_fill old new) e steps)
    (λ k. finished-keeps b s k p top)
    (record { charge = fits.charge; claims = omega arith })

-- a fill is counted
pub fill-room : (b : Batch) (s : Parts) → IsDemand b s → (p : Point) → next (strand_of b.circuit s) ≡ Fill p → s.filled < s.budget
fill-room b s is p h =
    let n = stack-count b.circuit s in
    let some = length-rest (strand_of b.circuit s).stack p (fill-top (strand_of b.circuit s) p h) in
    let charge = is.charge in
    let claims = is.claims in
    omega arith

-- a new strand
module _ (b : Batch) (l : IsLawful b) (number : ℕ) (q : Query) (from to budget charged : ℕ) (known : IsQueryOf b q) (root : from < to → IsRoot b.circuit (window_of q) from)
    (window : to ≤ q.to) (charge : charged ≤ budget) (most : budget ≤ q.budget) where
  abbrev new_parts : List PinWalk → Parts
  new_parts st = record { number = number; query = q; from = from; to = to; budget = budget; root = from; stack = st; charged = charged; filled = 0; spent = false; last = None }

  pub new-demand : (st : List PinWalk) → st ≡ [] → IsDemand b (new_parts st)
  new-demand st e =
      let within = query-within b l q known in
      let empty : IsDemand b (new_parts []) = record {
        lawful = λ _. l;
        strand = λ _. started-right b (record { query = q; start = from; stop = to; budget = budget; charged = charged }) (record { known = known; root = root; stop = window; charge = charge; budget = most });
        running = record {
          signal = λ _. within.signal;
          window = window;
          within = within.window;
          since = omega arith;
          root = root;
          walks = tt;
          busy = λ h. absurd (omega (arith, h));
          last = refl;
        };
        charge = charge;
        claims = omega arith;
      } in
      subst (λ x. IsDemand b (new_parts x)) (sym e) empty

-- the cell that was heard last, as contracts see it
last-in : (b : Batch) (s : Parts) (o : Option Cell) → MatchOption o (s.root ≡ s.from) (IsLastHeard b.circuit s.query s.from s.to s.root) → IfSome o (IsRootCell b.circuit (demand_of b.circuit s))
last-in b s None h = tt
last-in b s (Some cell) h = record { time = h.time; since = h.since; before = h.before; right = h.right }

pub last-root : (b : Batch) (s : Parts) → IsDemand b s → IfSome s.last (IsRootCell b.circuit (demand_of b.circuit s))
last-root b s is = last-in b s s.last is.running.last
