-- What strands of the memo of its own ask for, and what is free of that.
use Rattle.std.proofs.Common.{◌≡◌, ◌<◌, ◌≤◌, [], ◌∷◌, length, Some, sym, subst, arith}
use Rattle.std.proofs.Math.ListN.{length-set}
use Rattle.valid_intervals.specs.declared.Point.{Point}
use Rattle.circuit_meaning.specs.Circuit.{Circuit, IsCircuit, Input}
use Rattle.circuit_meaning.specs.Cells.{cell_at}
use Rattle.circuit_meaning.specs.Forced.{IsFree}
use Rattle.circuit_meaning.specs.Need.{HasChildren, IsEvaluable, IsNeeded}
use Rattle.circuit_meaning.proofs.Callers.{free-alike, needed-before}
use Rattle.journal_meaning.proofs.Callers.{contains-one}
use Rattle.journal_meaning.specs.declared.batch.Query.{Query}
use Rattle.journal_meaning.specs.Batches.{Batch, Site, NeedOf, IsNeededBy, window_of}
use Rattle.journal_meaning.specs.Lawful.{IsLawful}
use Rattle.plan_machine.specs.declared.strand.Next.TheVariants.{Ask}
use Rattle.plan_machine.specs.Strands.{Strand, next, IsStrand}
use Rattle.plan_machine.proofs.Callers.{asks-needed}
use Rattle.session_meaning.proofs.Callers.{evaluable-low}
use Rattle.session_meaning.specs.StuckSignals.{stuck_circuit, held_batch}
use Rattle.query_answers.proofs.Held.{window-within, held-lawful}

module _ (b : Batch) (lawful : IsLawful b) (site : Site) (q : Query) (queries : b.queries ≡ q ∷ []) where
  abbrev d : Circuit
  d = stuck_circuit b.circuit site

  abbrev own : Batch
  own = held_batch b.circuit site q

  drivers-same : length d.drivers ≡ length b.circuit.drivers
  drivers-same = length-set b.circuit.drivers site.signal (Input (record { time = 0; value = site.value } ∷ []))

  own-lawful : IsLawful own
  own-lawful = held-lawful b lawful q queries site

  own-circuit : IsCircuit d
  own-circuit = own-lawful.circuit

  -- what a strand of the memo of its own asks for
  pub record IsAskedOf (p : Point) : Type 0 where
    pub needed : IsNeeded d (window_of q) p.signal p.time
    pub evaluable : IsEvaluable d p.signal p.time
    pub signal : p.signal < length b.circuit.drivers
    pub time : p.time ≤ b.circuit.horizon

  pub asked-of : (s : Strand) (p : Point) → IsStrand own s → next s ≡ Ask p → IsAskedOf p
  asked-of s p is e =
      let w = (asks-needed own own-lawful s is).asked p e in
      let y = w.needed.0 in
      let same : q ≡ y = contains-one q y w.needed.1 in
      let need : IsNeeded d (window_of q) p.signal p.time = subst (λ (z : Query). IsNeeded d (window_of z) p.signal p.time) (sym same) w.needed.3 in
      let low = evaluable-low d p.signal p.time w.evaluable in
      let k = drivers-same in
      let before = needed-before d own-circuit (window_of q) p.signal p.time need in
      let last = window-within b lawful q queries in
      record { needed = need; evaluable = w.evaluable; signal = omega arith; time = omega arith }

  -- where it is free, it has the same cell in the circuit itself, and is evaluable there
  module _ (p : Point) (free : IsFree b.circuit site.signal p.signal) where
    pub free-cell : cell_at d p ≡ cell_at b.circuit p
    free-cell =
        let a = free-alike b.circuit site.signal site.value lawful.circuit p.signal p.time free in
        let v = a.value in
        let s = a.span in
        cc (v, s)

    pub free-evaluable : IsEvaluable d p.signal p.time → IsEvaluable b.circuit p.signal p.time
    free-evaluable h =
        let a = free-alike b.circuit site.signal site.value lawful.circuit p.signal p.time free in
        subst (HasChildren p.time) a.driver h

    -- and the session's batch needs it
    pub free-needed : b.site ≡ Some site → IsNeeded d (window_of q) p.signal p.time → IsNeededBy b q p
    free-needed is need = subst (λ s. NeedOf b.circuit s q p) (sym is) (need, free)
