-- What a strand asks for or holds is needed, and lies within the horizon.
use Rattle.std.proofs.Common.{◌≡◌, ℕ, suc, ◌-◌, ◌<◌, ◌≤◌, Bool, true, false, List, [], ◌∷◌, length, refl, ap, sym, ◌∙◌, arith, inl, inr}
use Rattle.std.proofs.lemmas.Bool.{cases_lt}
use Rattle.valid_intervals.specs.declared.Point.{Point}
use Rattle.circuit_meaning.specs.declared.Window.{Window}
use Rattle.circuit_meaning.specs.Circuit.{Circuit}
use Rattle.circuit_meaning.proofs.Callers.{needed-before}
use Rattle.journal_meaning.specs.Batches.{Batch, IsNeededBy, OfQuery, window_of}
use Rattle.journal_meaning.specs.Lawful.{IsLawful}
use Rattle.plan_machine.specs.declared.strand.Next.TheVariants.{Ask, Done}
use Rattle.plan_machine.specs.Strands.{Frame, Strand, IsStrand, IsOnStack, roots_from, next, next_in, ask_or}
use Rattle.plan_machine.proofs.Callers.{asks-first, first-askable, query-within, asks-needed, held-within, claims-within}
use Rattle.demand_points.specs.Demands.{Demand, IsKnownStrand, roots_left}

no-window : (c : Circuit) (w : Window) (root : ℕ) → w.stop ≤ root → roots_left c w root ≡ []
unfolding roots_from
no-window c w root h = let z : w.stop - root ≡ 0 = omega arith in rw z refl

module _ (b : Batch) (s : Demand) (known : IsKnownStrand b s) where
  live-in : (st : List Frame) → st ≡ s.strand.stack → (spent : Bool) (p : Point) → next_in spent s.strand.roots st ≡ Ask p → s.root < s.to
  live-in [] e true p h = absurd (cc h)
  live-in [] e false p h = elim (cases_lt s.root s.to) [
    | inl l ↦ l
    | inr l ↦
        let none : s.strand.roots ≡ [] = known.roots ∙ no-window b.circuit (record { signal = s.strand.query.signal; start = s.from; stop = s.to }) s.root l in
        let k : Done ≡ Ask p = ap (ask_or Done) (sym none) ∙ h in
        absurd (cc k)
  ]
  live-in (f ∷ fs) e spent p h =
      let n : suc (length fs) ≡ length s.strand.stack = ap length e in
      known.busy (omega (arith, n))

  abbrev pub awake : Strand
  awake = record s.strand { spent = false }

  -- what it asks for, or was refused
  pub record IsAsked (p : Point) : Type 0 where
    pub lawful : IsLawful b
    pub needed : OfQuery b s.strand.query.number (λ q. IsNeededBy b q p)
    pub within : p.time ≤ b.circuit.horizon
    pub claims : OfQuery b s.strand.query.number (λ q. length s.strand.stack ≤ q.budget)

  pub asked-by : (spent : Bool) (p : Point) → next_in spent s.strand.roots s.strand.stack ≡ Ask p → next awake ≡ Ask p → IsAsked p
  asked-by spent p h k =
      let live : 0 < s.to = let l = live-in s.strand.stack refl spent p h in omega (arith, l) in
      let lawful = known.lawful live in
      let is : IsStrand b s.strand = known.strand live in
      let still : IsStrand b awake = record { known = is.known; roots = is.roots; chain = is.chain; charge = is.charge; claims = is.claims; budget = is.budget } in
      let a = first-askable b.circuit (window_of s.strand.query) s.strand.roots s.strand.stack p is.roots is.chain (asks-first awake p k) in
      let before : p.time < s.strand.query.to = needed-before b.circuit lawful.circuit (window_of s.strand.query) p.signal p.time a.needed in
      let window = (query-within b lawful s.strand.query is.known).window in
      record {
        lawful = lawful;
        needed = ((asks-needed b lawful awake still).asked p k).needed;
        within = omega (arith, before, window);
        claims = claims-within b awake still;
      }

  unspent : (spent : Bool) (st : List Frame) (p : Point) → next_in spent s.strand.roots st ≡ Ask p → next_in false s.strand.roots st ≡ Ask p
  unspent true [] p h = absurd (cc h)
  unspent true (f ∷ fs) p h = absurd (cc h)
  unspent false st p h = h

  pub asked : (p : Point) → next s.strand ≡ Ask p → IsAsked p
  asked p h = asked-by s.strand.spent p h (unspent s.strand.spent s.strand.stack p h)

  pub refused : (p : Point) → next_in false s.strand.roots s.strand.stack ≡ Ask p → IsAsked p
  refused p h = asked-by false p h h

  held-some : (st : List Frame) (p : Point) → IsOnStack st p → 0 < length st
  held-some [] p h = absurd h
  held-some (f ∷ fs) p h = omega arith

  pub holds : (p : Point) → IsOnStack s.strand.stack p → IsAsked p
  holds p h =
      let live : 0 < s.to = let l = known.busy (held-some s.strand.stack p h) in omega (arith, l) in
      let lawful = known.lawful live in
      let is : IsStrand b s.strand = known.strand live in
      record {
        lawful = lawful;
        needed = ((asks-needed b lawful s.strand is).on_stack p h).needed;
        within = held-within b lawful s.strand is p h;
        claims = claims-within b s.strand is;
      }
