-- The steps of a strand that asks for a time.
use Rattle.std.proofs.Common.{◌≡◌, ◌≢◌, ℕ, Bool, ◌&&◌, not, nat_eq, ◌+◌, ◌<◌, true, false, cond, List, [], ◌∷◌, ◌++◌, length, Contains, AllPairs, refl, sym, ap, subst, ◌∙◌, arith, inl, inr, append_assoc, Option, Some, None, eq-eqb}
use Rattle.std.specs.List.{AllByRecursion}
use Rattle.std.proofs.lemmas.Bool.{and_from, le-leb, lt-ltb}
use Rattle.std.proofs.lemmas.List.Elements.{Contains-append_right, Contains-append_cases, All-nil}
use Rattle.gate_values.specs.declared.Value.TheVariants.{X}
use Rattle.valid_intervals.specs.declared.Cell.{Cell}
use Rattle.valid_intervals.specs.declared.Point.{Point}
use Rattle.valid_intervals.specs.declared.SignalCell.{SignalCell}
use Rattle.valid_intervals.specs.Cells.{covers, cell_for, is_stored, last_cell}
use Rattle.circuit_meaning.specs.Circuit.{Circuit, IsCircuit}
use Rattle.circuit_meaning.specs.Cells.{cell_at}
use Rattle.circuit_meaning.specs.Forced.{IsFree}
use Rattle.circuit_meaning.specs.Need.{children}
use Rattle.journal_meaning.specs.declared.batch.Query.{Query}
use Rattle.journal_meaning.specs.Batches.{Batch, Site}
use Rattle.journal_meaning.specs.Lawful.{IsLawful}
use Rattle.journal_meaning.specs.Pieces.{Start}
use Rattle.journal_meaning.specs.declared.Entry.{Entry}
use Rattle.journal_meaning.specs.declared.Entry.TheVariants.{Told, Claimed, Filled, Evicted, Dropped, Spent}
use Rattle.journal_meaning.specs.Answers.{IsSpent}
use Rattle.journal_meaning.specs.Grown.{IsSaid, IsFor}
use Rattle.journal_meaning.specs.States.{Claim, without_point}
use Rattle.journal_meaning.proofs.Callers.{own-covers, contains-one, pairs_to}
use Rattle.plan_machine.specs.declared.strand.Next.TheVariants.{Ask, Fill}
use Rattle.plan_machine.specs.Strands.{Frame, Strand, next, rest, after_answer, after_claim, given_up, after_fill, asked_children, IsStrand, left_in, IsFirst, IsChain}
use Rattle.plan_machine.proofs.Callers.{IsTop, asks-first, fill-top, fill-heard, top-held, held-within, found, evictions-each, room-journal, told-less, claimed-less, finished-less, IsNoFill, each-contains, none-refused, goes-more, goes-heard, goes-claimed, goes-popped, asked-apart, stack-differ, says-cell}
use Rattle.plan_machine.specs.Bounds.{turns_left}
use Rattle.plan_machine.specs.Shards.{Shard, shard_with_entry, shard_without_cell, with_room}
use Rattle.plan_machine.specs.Journals.{evictions_for}
use Rattle.plan_machine.specs.Alone.{AreFed, IsUnspent, IsUnderWay, IsGivingUp, points_on}
use Rattle.plan_machine.specs.Standings.{IsStanding}
use Rattle.demand_points.specs.Demands.{Demand, TakesStep}
use Rattle.memo_shards.specs.KeptShards.{KeptShard}
use Rattle.memo_shards.specs.Asks.{Tells, ClaimsIt, Refuses}
use Rattle.memo_shards.specs.Ends.{with_shard, FillsIt}
use Rattle.plan_core.specs.asked.Memos.{entries_of}
use Rattle.plan_core.specs.asked.Standings.{live}
use Rattle.plan_core.proofs.Callers.{each-from}
use Rattle.session_meaning.specs.StuckSignals.{held_batch, NoneIsFree}
use Rattle.query_answers.specs.stuck.Asks.{Session, Own}
use Rattle.query_answers.specs.declared.stuck.both.StuckQuery.{StuckQuery}
use Rattle.query_answers.specs.stuck.inner.Both.{site_in, circuit_of, start_at, nothing, Mirrors, Asks, GivesUp, AreKept}
use Rattle.query_answers.specs.stuck.inner.Steps.{AsksFurther, IsNotFree}
use Rattle.query_answers.proofs.Holding.{Holds, holds-heard, holds-claimed, holds-rest}
use Rattle.query_answers.proofs.Held.{held-lawful}
use Rattle.query_answers.proofs.Mirrors.{mirrors-more, mirrors-kept, mirrors-heard}

-- an eviction ends no claim
room-claims : (capacity : ℕ) (x : SignalCell) (h : Shard) → (with_room capacity x h).state.claims ≡ h.state.claims
room-claims capacity x h = by (not (is_stored x h.state.cells) && nat_eq (length h.state.cells) capacity)
  where
    evicts : (o : Option SignalCell) → (shard_without_cell o h).state.claims ≡ h.state.claims
    evicts None = refl
    evicts (Some y) = refl

    by : (t : Bool) → (cond t (shard_without_cell (last_cell h.state.cells) h) h).state.claims ≡ h.state.claims
    by true = evicts (last_cell h.state.cells)
    by false = refl

-- nothing free is claimed by entries that claim nothing free
pub reached-more : (c : Circuit) (site : Site) (es more : List Entry) → NoneIsFree c site es → NoneIsFree c site more → NoneIsFree c site (es ++ more)
reached-more c site es more h k = λ q p known. elim (Contains-append_cases es more (Claimed q p) known) [ inl l ↦ h q p l | inr r ↦ k q p r ]

-- entries that claim nothing
abbrev pub IsNoClaim : Entry → Type 0
IsNoClaim (Told q p x) = Unit {0}
IsNoClaim (Claimed q p) = ⊥
IsNoClaim (Filled q p x) = Unit {0}
IsNoClaim (Evicted signal start) = Unit {0}
IsNoClaim (Dropped q p) = Unit {0}
IsNoClaim (Spent q p held) = Unit {0}

pub none-claimed : (c : Circuit) (site : Site) (es : List Entry) → AllByRecursion IsNoClaim es → NoneIsFree c site es
none-claimed c site es h = λ q p known. absurd (each-contains IsNoClaim es (Claimed q p) h known)

-- of a circuit without signals everything is fed
pub nothing-fed : (es : List Entry) → AreFed nothing es
unfolding asked_children children
nothing-fed es = λ q p x h. All-nil (IsSaid es)

module _ (b : Batch) (opening : ℕ → List SignalCell) (question : StuckQuery) (time : ℕ) where
  abbrev q : Query
  q = question.query

  abbrev c : Circuit
  c = b.circuit

  abbrev d : Circuit
  d = circuit_of b question

  abbrev site : Site
  site = site_in question

  abbrev own : Batch
  own = held_batch c site q

  abbrev a : Start
  a = start_at question time

  -- what a step comes to, by the parts of the shard and the strand
  asks-by : (ms : List KeptShard) (first : List Shard) → IsStanding b opening q [] first (live ms) → (new : KeptShard) (t : Demand) (mirror journal : List Entry) (claims : List Claim) (u : Strand)
      → new.shard.journal ≡ journal → new.shard.state.claims ≡ claims → t.strand ≡ u → new.number ≡ 0 → t.from ≡ time → t.to ≡ time + 1
      → Mirrors c site (entries_of ms) journal mirror → IsUnderWay d a mirror u → Holds q.number claims u.stack → NoneIsFree c site journal → Asks b opening question time ms new t
  asks-by ms first stands new t mirror journal claims u j k l number from to mirrors way holds reached = record {
    first = first;
    stands = stands;
    mirror = mirror;
    mirrors = subst (λ es. Mirrors c site (entries_of ms) es mirror) (sym j) mirrors;
    way = subst (IsUnderWay d a mirror) (sym l) way;
    holds =
        let h : Holds q.number new.shard.state.claims t.strand.stack = subst (λ (z : Strand). Holds q.number new.shard.state.claims z.stack) (sym l) (subst (λ z. Holds q.number z u.stack) (sym k) holds) in
        record { held = h.held; holder = h.holder };
    number = number;
    reached = subst (NoneIsFree c site) (sym j) reached;
    from = from;
    to = to;
  }

  module _ (lawful : IsLawful b) (queries : b.queries ≡ q ∷ []) (ms : List KeptShard) (m : KeptShard) (s : Demand) (asks : Asks b opening question time ms m s) (is : IsStrand own s.strand) where
    ok : IsCircuit d
    ok = (held-lawful b lawful q queries site).circuit

    number : s.strand.query.number ≡ q.number
    number = ap (λ (z : Query). z.number) asks.way.query

    holding : Holds q.number m.shard.state.claims s.strand.stack
    holding = record { held = asks.holds.held; holder = asks.holds.holder }

    -- its entries are the query's, and none of them gives up
    ours : AllByRecursion (IsFor q.number) m.shard.journal
    ours = each-from (IsFor q.number) m.shard.journal (λ x h. each-contains (IsFor q.number) asks.mirror x asks.way.own (asks.mirrors.has x h))

    going : AllByRecursion IsUnspent m.shard.journal
    going = each-from IsUnspent m.shard.journal (λ x h. each-contains IsUnspent asks.mirror x asks.way.going (asks.mirrors.has x h))

    -- it is told a stored cell
    pub tells-on : (new : KeptShard) (t : Demand) (p : Point) → next s.strand ≡ Ask p → Tells m new p s t → AsksFurther b opening own question time ms new s t
    tells-on new t p e f =
        let x = f.cell in
        let entry = Told s.strand.query.number p x.cell in
        let more = entry ∷ [] in
        let said : IsSaid (asks.mirror ++ more) p =
        (entry, Contains-append_right asks.mirror more entry (0, omega arith, refl), says-cell p x (found (covers p) m.shard.state.cells x f.stored).0) in
        record {
          asks = asks-by ms asks.first asks.stands new t (asks.mirror ++ more) (m.shard.journal ++ more) m.shard.state.claims (after_answer s.strand)
              (ap (λ (z : KeptShard). z.shard.journal) f.shard) (ap (λ (z : KeptShard). z.shard.state.claims) f.shard) f.strand.strand (ap (λ (z : KeptShard). z.number) f.shard ∙ asks.number)
              (f.strand.from ∙ asks.from) (f.strand.to ∙ asks.to)
              (mirrors-more c site (entries_of ms) m.shard.journal asks.mirror asks.mirrors more)
              (goes-heard d a (asks.mirror ++ more) s.strand (goes-more d a asks.mirror s.strand asks.way more (number, tt) (tt, tt) (tt, tt)) p (asks-first s.strand p e) said)
              (holds-heard q.number m.shard.state.claims s.strand.stack holding)
              (reached-more c site m.shard.journal more asks.reached (none-claimed c site more (tt, tt)));
          less = subst (λ (z : Strand). turns_left own 1 z < turns_left own 1 s.strand) (sym f.strand.strand) (let k = told-less own 1 s.strand p e in omega arith);
        }

    -- it claims the point, which is not free
    pub claims-on : (new : KeptShard) (t : Demand) (p : Point) → next s.strand ≡ Ask p → IsNotFree b question p → ClaimsIt own m new p s t → AsksFurther b opening own question time ms new s t
    claims-on new t p e away f =
        let entry = Claimed s.strand.query.number p in
        let more = entry ∷ [] in
        let claim : Claim = record { query = s.strand.query.number; point = p } in
        record {
          asks = asks-by ms asks.first asks.stands new t (asks.mirror ++ more) (m.shard.journal ++ more) (claim ∷ m.shard.state.claims) (after_claim d s.strand p)
              (ap (λ (z : KeptShard). z.shard.journal) f.shard) (ap (λ (z : KeptShard). z.shard.state.claims) f.shard) f.strand.strand (ap (λ (z : KeptShard). z.number) f.shard ∙ asks.number)
              (f.strand.from ∙ asks.from) (f.strand.to ∙ asks.to)
              (mirrors-more c site (entries_of ms) m.shard.journal asks.mirror asks.mirrors more)
              (goes-claimed d a (asks.mirror ++ more) s.strand (goes-more d a asks.mirror s.strand asks.way more (number, tt) (tt, tt) (tt, tt)) p)
              (subst (λ n. Holds q.number (record { query = n; point = p } ∷ m.shard.state.claims) (record { point = p; left = asked_children d p } ∷ s.strand.stack)) (sym number)
              (holds-claimed q.number m.shard.state.claims s.strand.stack holding p (asked_children d p)))
              (reached-more c site m.shard.journal more asks.reached (λ r y h free.
              let same : entry ≡ Claimed r y = contains-one entry (Claimed r y) h in
              let point : y ≡ p = cc same in
              away (subst (λ (z : Point). IsFree c question.site z.signal) point free)));
          less = subst (λ (z : Strand). turns_left own 1 z < turns_left own 1 s.strand) (sym f.strand.strand) (let k = claimed-less own 1 s.strand p f.within in omega arith);
        }

    -- it is refused, and that is recorded
    pub spends-on : (new : KeptShard) (t : Demand) (p : Point) → next s.strand ≡ Ask p → Refuses m m p s t
        → new ≡ with_shard m (shard_with_entry (Spent t.strand.query.number p (length t.strand.stack)) m.shard) → GivesUp b question time ms new t (Own p)
    spends-on new t p e f shard =
        let u = given_up s.strand in
        let query : t.strand.query ≡ q = ap (λ (z : Strand). z.query) f.strand.strand ∙ asks.way.query in
        let entry = Spent t.strand.query.number p (length t.strand.stack) in
        let journal : new.shard.journal ≡ m.shard.journal ++ entry ∷ [] = ap (λ (z : KeptShard). z.shard.journal) shard in
        let claims : new.shard.state.claims ≡ m.shard.state.claims = ap (λ (z : KeptShard). z.shard.state.claims) shard in
        let h : Holds q.number new.shard.state.claims t.strand.stack = subst (λ (z : Strand). Holds q.number new.shard.state.claims z.stack) (sym f.strand.strand) (subst (λ z. Holds q.number z s.strand.stack) (sym claims) holding) in
        record {
          holds = record { held = h.held; holder = h.holder };
          query = query;
          number = ap (λ (z : KeptShard). z.number) shard ∙ asks.number;
          reached = subst (NoneIsFree c site) (sym journal) (reached-more c site m.shard.journal (entry ∷ []) asks.reached (none-claimed c site (entry ∷ []) (tt, tt)));
          spent = ap (λ (z : Strand). z.spent) f.strand.strand;
          to = f.strand.to ∙ asks.to;
          cause = subst (λ es. IsGivingUp nothing a p es t.strand) (sym journal) (giving query);
        }
      where
        giving : t.strand.query ≡ q → IsGivingUp nothing a p (m.shard.journal ++ Spent t.strand.query.number p (length t.strand.stack) ∷ []) t.strand
        giving query =
            let number_is : t.strand.query.number ≡ q.number = ap (λ (z : Query). z.number) query in
            record {
              query = query;
              budget = ap (λ (z : Strand). z.budget) f.strand.strand ∙ asks.way.budget;
              spent = ap (λ (z : Strand). z.spent) f.strand.strand;
              before = m.shard.journal;
              gone = [];
              added_is = let k : length t.strand.stack ≡ 0 + length t.strand.stack = omega arith in
                  ap (λ n. m.shard.journal ++ Spent n p (length t.strand.stack) ∷ []) number_is ∙ ap (λ n. m.shard.journal ++ Spent q.number p n ∷ []) k;
              different = subst (λ (z : Strand). AllPairs (λ x y. x ≢ y) (p ∷ [] ++ points_on z.stack)) (sym f.strand.strand)
                  (pairs_to (p ∷ points_on s.strand.stack) (asked-apart d ok s.strand.roots s.strand.stack p is.chain (asks-first s.strand p e), stack-differ d ok s.strand.roots s.strand.stack is.chain));
              account =
                  let k = asks.way.charge in
                  let l = asks.way.budget in
                  let n = asks.mirrors.fills q.number in
                  let full = f.spent in
                  let st : length t.strand.stack ≡ length s.strand.stack = ap (λ (z : Strand). length z.stack) f.strand.strand in
                  omega arith;
              fed = nothing-fed m.shard.journal;
              own = ours;
              going = going;
            }

    -- it fills its top
    pub fills-on : (new : KeptShard) (t : Demand) (woken : List Demand) (p : Point) → next s.strand ≡ Fill p → FillsIt own m new p s t woken → AsksFurther b opening own question time ms new s t
    fills-on new t woken p e f =
        let x = cell_at d p in
        let n = s.strand.query.number in
        let evictions = evictions_for own.capacity (cell_for p x) m.shard in
        let entry = Filled n p x in
        let more = evictions ++ entry ∷ [] in
        let top = fill-top s.strand p e in
        let under : Strand = record s.strand { stack = rest s.strand.stack; filled = s.strand.filled + 1 } in
        let ours = evictions-each (IsFor q.number) (λ _ _. tt) own.capacity (cell_for p x) m.shard in
        let going = evictions-each IsUnspent (λ _ _. tt) own.capacity (cell_for p x) m.shard in
        let none = evictions-each IsNoFill (λ _ _. tt) own.capacity (cell_for p x) m.shard in
        let popped : IsUnderWay d a (asks.mirror ++ more) under =
        subst (λ k. IsUnderWay d a (asks.mirror ++ (evictions ++ Filled k p x ∷ [])) under) (sym number)
        (goes-popped d a asks.mirror s.strand asks.way p x evictions top (fill-heard s.strand p e) ours going none) in
        let within = held-within own (held-lawful b lawful q queries site) s.strand is p (top-held s.strand.stack p top) in
        let known : Contains more entry = Contains-append_right evictions (entry ∷ []) entry (0, omega arith, refl) in
        let said : IsSaid (asks.mirror ++ more) p = (entry, Contains-append_right asks.mirror more entry known, own-covers d ok p within) in
        record {
          asks = asks-by ms asks.first asks.stands new t (asks.mirror ++ more) (m.shard.journal ++ more) (without_point m.shard.state.claims p) (after_fill s.strand)
              (ap (λ (z : Shard). z.journal) f.shard ∙ ap (λ l. l ++ entry ∷ []) (room-journal own.capacity (cell_for p x) m.shard) ∙ append_assoc m.shard.journal evictions (entry ∷ []))
              (ap (λ (z : Shard). z.state.claims) f.shard ∙ ap (λ z. without_point z p) (room-claims own.capacity (cell_for p x) m.shard))
              f.strand.strand (f.number ∙ asks.number) (f.strand.from ∙ asks.from) (f.strand.to ∙ asks.to)
              (mirrors-more c site (entries_of ms) m.shard.journal asks.mirror asks.mirrors more)
              (goes-heard d a (asks.mirror ++ more) under popped p (chain-first s.strand.stack is.chain top) said)
              (holds-heard q.number (without_point m.shard.state.claims p) (rest s.strand.stack) (holds-rest q.number m.shard.state.claims s.strand.stack holding d ok s.strand.roots p is.chain top))
              (reached-more c site m.shard.journal more asks.reached (reached-more c site evictions (entry ∷ [])
              (none-claimed c site evictions (evictions-each IsNoClaim (λ _ _. tt) own.capacity (cell_for p x) m.shard)) (none-claimed c site (entry ∷ []) (tt, tt))));
          less = subst (λ (z : Strand). turns_left own 1 z < turns_left own 1 s.strand) (sym f.strand.strand) (let k = finished-less own 1 s.strand p top in omega arith);
        }
      where
        chain-first : (st : List Frame) → IsChain d s.strand.roots st → IsTop st p → IsFirst (left_in s.strand.roots (rest st)) p
        chain-first [] chain top = absurd top
        chain-first (g ∷ gs) chain top = subst (IsFirst (left_in s.strand.roots gs)) top chain.0

    -- it hears a cell from the session's memo
    pub hears-on : (new_ms : List KeptShard) (first : List Shard) → IsStanding b opening q [] first (live new_ms) → AreKept (entries_of ms) (entries_of new_ms) → (t : Demand) (p : Point) → next s.strand ≡ Ask p
        → IsFree c question.site p.signal → IsSaid (entries_of new_ms) p → TakesStep after_answer s t → AsksFurther b opening own question time new_ms m s t
    hears-on new_ms first stands kept t p e free said f =
        let x : Cell = record { span = record { start = p.time; stop = p.time + 1 }; value = X } in
        let entry = Told q.number p x in
        let more = entry ∷ [] in
        let here : IsSaid (asks.mirror ++ more) p =
        (entry, Contains-append_right asks.mirror more entry (0, omega arith, refl), covers-itself p) in
        record {
          asks = asks-by new_ms first stands m t (asks.mirror ++ more) m.shard.journal m.shard.state.claims (after_answer s.strand)
              refl refl f.strand asks.number (f.from ∙ asks.from) (f.to ∙ asks.to)
              (mirrors-heard c site (entries_of new_ms) m.shard.journal asks.mirror (mirrors-kept c site (entries_of ms) m.shard.journal asks.mirror asks.mirrors (entries_of new_ms) kept) q.number p x free said refl refl)
              (goes-heard d a (asks.mirror ++ more) s.strand (goes-more d a asks.mirror s.strand asks.way more (refl, tt) (tt, tt) (tt, tt)) p (asks-first s.strand p e) here)
              (holds-heard q.number m.shard.state.claims s.strand.stack holding)
              asks.reached;
          less = subst (λ (z : Strand). turns_left own 1 z < turns_left own 1 s.strand) (sym f.strand) (let k = told-less own 1 s.strand p e in omega arith);
        }
      where
        covers-itself : (p : Point) → covers p (cell_for p (record { span = record { start = p.time; stop = p.time + 1 }; value = X })) ≡ true
        covers-itself p = and_from _ _ (and_from _ _ (eq-eqb p.signal p.signal refl) (le-leb p.time p.time (omega arith))) (lt-ltb p.time (p.time + 1) (omega arith))

    -- it is refused by the session's memo
    pub refuses-on : (new_ms : List KeptShard) (t : Demand) → IsSpent (entries_of new_ms) q → TakesStep given_up s t → GivesUp b question time new_ms m t Session
    refuses-on new_ms t cause f =
        let h : Holds q.number m.shard.state.claims t.strand.stack = subst (λ (z : Strand). Holds q.number m.shard.state.claims z.stack) (sym f.strand) holding in
        record {
          holds = record { held = h.held; holder = h.holder };
          query = ap (λ (z : Strand). z.query) f.strand ∙ asks.way.query;
          number = asks.number;
          reached = asks.reached;
          spent = ap (λ (z : Strand). z.spent) f.strand;
          to = f.to ∙ asks.to;
          cause = (
            cause,
            record {
              ours = ours;
              few = (let k = asks.way.charge in let l = asks.way.budget in let n = asks.mirrors.fills q.number in let w = is.charge in omega arith);
              outcome = none-refused q.number m.shard.journal going;
            },
          );
        }
