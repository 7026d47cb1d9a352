-- What a strand asks for is needed by a query of its batch.
use Rattle.std.proofs.Common.{arith, ◌≡◌, ℕ, ◌+◌, ◌<◌, ◌≤◌, refl, sym, subst, inl, inr, Contains, Option, Some, None}
use Rattle.valid_intervals.specs.declared.Point.{Point}
use Rattle.circuit_meaning.specs.declared.Window.{Window}
use Rattle.circuit_meaning.specs.Circuit.{Circuit, IsCircuit}
use Rattle.circuit_meaning.specs.Need.{IsNeeded}
use Rattle.circuit_meaning.specs.Forced.{forced_circuit}
use Rattle.circuit_meaning.specs.Laws.{at_point}
use Rattle.circuit_meaning.proofs.Callers.{held-fits, needed-alike, needed-alone, needed-before}
use Rattle.journal_meaning.specs.declared.batch.Query.{Query}
use Rattle.journal_meaning.specs.Batches.{Batch, Site, IsNeededBy, NeedOf, OfQuery, window_of}
use Rattle.journal_meaning.specs.Lawful.{IsLawful, IsQueryOf, start_of}
use Rattle.plan_machine.specs.declared.strand.Next.TheVariants.{Ask}
use Rattle.plan_machine.specs.Strands.{Strand, IsStrand, next, IsOnStack}
use Rattle.plan_machine.specs.StrandLaws.{IsWantedBy, AsksWhatIsNeeded}
use Rattle.plan_machine.proofs.Started.{query-within}
use Rattle.plan_machine.proofs.Stacks.{IsAskable, first-askable, held-askable, asks-first, earlier}

-- what a query for a needed point needs, the query needs
module _ (c : Circuit) (ok : IsCircuit c) (q : Query) (within : q.to ≤ c.horizon + 1) (x : Query) (alone : x.to ≡ x.from + 1) (p : Point) (need : IsNeeded c (window_of x) p.signal p.time) where
  here : IsNeeded c (at_point x.signal x.from) p.signal p.time
  here = let at : ℕ → Window = λ t. record { signal = x.signal; start = x.from; stop = t } in subst (λ t. IsNeeded c (at t) p.signal p.time) alone need

  of-site : (site : Option Site) → NeedOf c site q (start_of x) → NeedOf c site q p
  of-site None n = needed-alone c ok (window_of q) within x.signal x.from n p.signal p.time here
  of-site (Some site) n =
      let alike = needed-alike c site.signal site.value ok (at_point x.signal x.from) n.1 p.signal p.time here in
      (needed-alone (forced_circuit c site.signal site.value) (held-fits c site.signal site.value ok) (window_of q) within x.signal x.from n.0 p.signal p.time alike.0, alike.1)

pub within-of : (b : Batch) → IsLawful b → (q : Query) → Contains b.queries q → q.to ≤ b.circuit.horizon + 1
within-of b l q (k, h, e) = subst (λ (x : Query). x.to ≤ b.circuit.horizon + 1) e (l.windows k q h)

pub needed-of : (b : Batch) → IsLawful b → (q : Query) → IsQueryOf b q → (p : Point) → IsNeeded b.circuit (window_of q) p.signal p.time → OfQuery b q.number (λ y. IsNeededBy b y p)
needed-of b l q (inl k) p n = (q, k.1, refl, subst (λ s. NeedOf b.circuit s q p) (sym k.0) n)
needed-of b l q (inr k) p n = (k.of, k.known, sym k.number, of-site b.circuit l.circuit k.of (within-of b l k.of k.known) q k.alone p n b.site k.needed)

pub asks-needed : (b : Batch) → IsLawful b → (s : Strand) → IsStrand b s → AsksWhatIsNeeded b s
asks-needed b l s is = record {
  asked = λ p h. wanted p (first-askable b.circuit (window_of s.query) s.roots s.stack p is.roots is.chain (asks-first s p h));
  on_stack = λ p h. wanted p (held-askable b.circuit (window_of s.query) s.roots s.stack p is.roots is.chain h);
}
  where
    wanted : (p : Point) → IsAskable b.circuit (window_of s.query) p → IsWantedBy b s p
    wanted p a = record { needed = needed-of b l s.query is.known p a.needed; evaluable = a.evaluable }

pub waits-earlier : (b : Batch) → IsLawful b → (s : Strand) → IsStrand b s → (p x : Point) → next s ≡ Ask p → IsOnStack s.stack x → p.time < x.time
waits-earlier b l s is p x h k = earlier b.circuit l.circuit s.roots s.stack p x is.chain (asks-first s p h) k

-- what a strand holds lies within the horizon
pub held-within : (b : Batch) → IsLawful b → (s : Strand) → IsStrand b s → (p : Point) → IsOnStack s.stack p → p.time ≤ b.circuit.horizon
held-within b l s is p h =
    let a = held-askable b.circuit (window_of s.query) s.roots s.stack p is.roots is.chain h in
    let before : p.time < s.query.to = needed-before b.circuit l.circuit (window_of s.query) p.signal p.time a.needed in
    let window = (query-within b l s.query is.known).window in
    omega arith
