-- What stands between two times of a question, and where it ends.
use Rattle.std.proofs.Common.{◌≡◌, ◌≢◌, ◌⊎◌, ℕ, Bool, ◌+◌, ◌-◌, ◌≤◌, nat_lt, true, false, List, [], ◌∷◌, ◌++◌, length, All, Contains, refl, sym, ap, subst, ◌∙◌, arith, inl, inr, Option, Some, None, true≢false, MatchOption}
use Rattle.std.specs.List.{AllByRecursion}
use Rattle.std.proofs.lemmas.Bool.{lt-ltb}
use Rattle.std.proofs.lemmas.List.Elements.{All-weaker, All-contains_itself, recursion_from_All}
use Rattle.valid_intervals.specs.declared.Cell.{Cell}
use Rattle.valid_intervals.specs.declared.Point.{Point}
use Rattle.valid_intervals.specs.declared.SignalCell.{SignalCell}
use Rattle.circuit_meaning.specs.Circuit.{Circuit, IsCircuit, driver}
use Rattle.circuit_meaning.specs.Need.{IsEvaluable, children}
use Rattle.journal_meaning.specs.declared.batch.Query.{Query}
use Rattle.journal_meaning.specs.Batches.{Batch, Site}
use Rattle.journal_meaning.specs.Pieces.{Start}
use Rattle.journal_meaning.specs.declared.Entry.{Entry}
use Rattle.journal_meaning.specs.declared.Entry.TheVariants.{Filled, Dropped, Spent}
use Rattle.journal_meaning.specs.Answers.{IsCovered, IsSpent, is_fill_of, fill_count, last_of}
use Rattle.journal_meaning.specs.Grown.{IsFor, is_spent_of, refusals}
use Rattle.journal_meaning.specs.States.{Claim, without_point}
use Rattle.journal_meaning.proofs.Callers.{grows-none, count-append, each-append, each-left, each-right, pairs_from, pairs_to}
use Rattle.plan_machine.specs.declared.strand.Next.TheVariants.{Fill, Drop, Done}
use Rattle.plan_machine.specs.Strands.{Frame, Strand, next, next_in, ask_or, started_strand, roots_from, is_evaluable, after_drop, IsStrand, IsChain, rest}
use Rattle.plan_machine.proofs.Callers.{drop-top, has-ended, begins-query, contains-none, each-contains, none-refused, children-covered, roots-covered, evaluable-is, goes-dropped, refused-last, gone-last, refused-filled, refused-once, refused-own, differ-left}
use Rattle.plan_machine.specs.Alone.{IsUnderWay, IsUnspent, IsGivingUp, IsRefusedAlone, IsDue, points_on, drops, roots_of}
use Rattle.plan_machine.specs.Shards.{Shard}
use Rattle.plan_machine.specs.Settle.{charge_of, root_start}
use Rattle.plan_machine.specs.Standings.{IsOpen}
use Rattle.plan_core.specs.Parts.{shards_in}
use Rattle.demand_points.specs.Demands.{Demand, IsLastHeard, IsKnownStrand, roots_left}
use Rattle.memo_shards.specs.KeptShards.{KeptShard}
use Rattle.memo_shards.specs.Ends.{DropsIt}
use Rattle.plan_core.specs.asked.Asked.{AsksOn}
use Rattle.plan_core.specs.asked.Memos.{AreFreeShards, at_time, entries_of}
use Rattle.plan_core.proofs.Callers.{each-from}
use Rattle.session_meaning.specs.StuckSignals.{NoneIsFree, IsCoveredBy}
use Rattle.query_answers.specs.stuck.Asks.{RefusedBy, Neither, Session, Own, is_refused, is_session, IsOutcomeOf, HearsRoot}
use Rattle.query_answers.specs.declared.stuck.both.StuckQuery.{StuckQuery}
use Rattle.query_answers.specs.stuck.inner.Both.{site_in, circuit_of, start_at, nothing, AreAllFed, Rests, LeavesOwn, IsRefused, Asks, IsGivingUpBy, GivesUp, Extends}
use Rattle.query_answers.proofs.Holding.{Holds, holds-rest, holds-none}
use Rattle.query_answers.proofs.Mirrors.{mirrors-covered, mirrors-all}
use Rattle.query_answers.proofs.StuckAsking.{reached-more, none-claimed}

-- of a query that is open since nothing was recorded, the children of what it filled are covered
open-covered : (c : Circuit) (q : Query) (es : List Entry) → IsOpen c q [] es → (p : Point) (x : Cell) → Contains es (Filled q.number p x) → All (IsCovered c es) (children c p.signal p.time)
open-covered c q es o p x h = elim (o.grows.only (Filled q.number p x) h) [ inl l ↦ absurd (contains-none (Filled q.number p x) [] refl l) | inr r ↦ o.fed p x r ]

-- an evaluable time is a root that is left
some-root : (d : Circuit) (q : Query) (time : ℕ) → IsEvaluable d q.signal time → roots_left d (record { signal = q.signal; start = time; stop = time + 1 }) time ≡ [] → ⊥
unfolding roots_from
some-root d q time e is =
    let one : time + 1 - time ≡ 1 = omega arith in
    let low : nat_lt time (time + 1) ≡ true = lt-ltb time (time + 1) (omega arith) in
    let ev : is_evaluable d (at_time q time) ≡ true = evaluable-is time (driver d q.signal) e in
    let there : roots_left d (record { signal = q.signal; start = time; stop = time + 1 }) time ≡ at_time q time ∷ [] = rw (one, low, ev) refl in
    cc (there, is)

module _ (b : Batch) (opening : ℕ → List SignalCell) (question : StuckQuery) where
  abbrev q : Query
  q = question.query

  abbrev c : Circuit
  c = b.circuit

  abbrev d : Circuit
  d = circuit_of b question

  abbrev site : Site
  site = site_in question

  -- what was evaluated so far has its children covered
  pub rests-fed : (ms : List KeptShard) (m : KeptShard) (charge : ℕ) → Rests b opening question ms m charge → AreAllFed c site q (entries_of ms) m.shard.journal
  rests-fed ms m charge r = record {
    children = λ p x h. mirrors-all c site (entries_of ms) m.shard.journal r.mirror r.mirrors (children d p.signal p.time) (children-covered d r.mirror p (r.fed q.number p x (r.mirrors.has (Filled q.number p x) h)));
    free = open-covered c q (entries_of ms) r.stands.state;
  }

  -- none of its entries gives up
  rests-going : (ms : List KeptShard) (m : KeptShard) (charge : ℕ) → Rests b opening question ms m charge → AllByRecursion IsUnspent m.shard.journal
  rests-going ms m charge r = each-from IsUnspent m.shard.journal (λ x h. each-contains IsUnspent r.mirror x r.going (r.mirrors.has x h))

  -- as the question begins
  pub rests-begin : (ms : List KeptShard) (m : KeptShard) → AreFreeShards b opening ms → entries_of ms ≡ [] → m.number ≡ 0 → m.shard.journal ≡ [] → m.shard.state.claims ≡ [] → Rests b opening question ms m 0
  rests-begin ms m kept none number empty idle = record {
    first = shards_in ms;
    stands = begins-query b opening q [] (shards_in ms) kept.fresh (subst (IsOpen c q []) (sym none) (record {
      added = [];
      grows = grows-none [];
      fed = λ p x h. absurd (contains-none (Filled q.number p x) [] refl h);
      refusals = refl;
    }));
    mirror = [];
    mirrors = record {
      fills = λ n. ap (λ l. fill_count l n) (sym empty);
      has = λ e h. absurd (contains-none e m.shard.journal empty h);
      only = λ e h. absurd (contains-none e [] refl h);
    };
    fed = λ n p x h. absurd (contains-none (Filled n p x) [] refl h);
    own = tt;
    going = tt;
    number = number;
    idle = idle;
    charged = ap (λ l. fill_count l q.number) empty;
    few = omega arith;
    reached = λ n p h. absurd (contains-none _ m.shard.journal empty h);
  }

  module _ (time : ℕ) where
    abbrev a : Start
    a = start_at question time

    -- a strand begins
    pub asks-begin : (ms : List KeptShard) (m : KeptShard) (charge : ℕ) → Rests b opening question ms m charge → (s : Demand) → s.from ≡ time → s.to ≡ time + 1
        → s.strand ≡ started_strand d (record { query = q; start = time; stop = time + 1; budget = q.budget; charged = charge }) → Asks b opening question time ms m s
    asks-begin ms m charge r s from to strand = record {
      first = r.first;
      stands = r.stands;
      mirror = r.mirror;
      mirrors = r.mirrors;
      way = subst (IsUnderWay d a r.mirror) (sym strand) (record {
        query = refl;
        budget = refl;
        unspent = refl;
        charge = let k = r.charged in let l = r.mirrors.fills q.number in omega arith;
        frames = tt;
        roots = All-weaker (Contains (started_strand d a).roots) (IsDue r.mirror (started_strand d a).roots) (λ x h. inl h) (started_strand d a).roots (All-contains_itself (started_strand d a).roots);
        fed = r.fed;
        own = r.own;
        going = r.going;
      });
      holds = record {
        held = λ p h. absurd (subst (λ (z : Strand). Rattle.plan_machine.specs.Strands.IsOnStack z.stack p) strand h);
        holder = λ p n h. absurd (none n (sym (ap (λ z. Rattle.journal_meaning.specs.States.holder z p) r.idle) ∙ h));
      };
      number = r.number;
      reached = r.reached;
      from = from;
      to = to;
    }
      where
        none : (n : ℕ) → None ≡ Some n → ⊥
        none n e = cc

    -- a time is one root
    one-root : roots_of d a ≡ at_time q time ∷ []
    unfolding roots_from
    one-root =
        let n : a.stop - a.start ≡ 1 = omega arith in
        let low : nat_lt a.start a.stop ≡ true = lt-ltb a.start a.stop (omega arith) in
        rw (n, low) refl

    module _ (ms : List KeptShard) (m : KeptShard) (s : Demand) (asks : Asks b opening question time ms m s) (within : s.strand.charged ≤ s.strand.budget) where
      holding : Holds q.number m.shard.state.claims s.strand.stack
      holding = record { held = asks.holds.held; holder = asks.holds.holder }

      -- it has heard its root: nothing is claimed, and the time is covered
      module _ (done : next s.strand ≡ Done) where
        pub ends-rest : Rests b opening question ms m s.strand.charged
        ends-rest =
            let ended = has-ended s.strand done in
            let empty : length s.strand.stack ≡ 0 = ap length ended.empty in
            record {
              first = asks.first;
              stands = asks.stands;
              mirror = asks.mirror;
              mirrors = asks.mirrors;
              fed = asks.way.fed;
              own = asks.way.own;
              going = asks.way.going;
              number = asks.number;
              idle = holds-none q.number m.shard.state.claims s.strand.stack holding ended.empty;
              charged = let k = asks.way.charge in let l = asks.mirrors.fills q.number in omega arith;
              few = let k = asks.way.budget in omega arith;
              reached = asks.reached;
            }

        no-roots : s.strand.roots ≡ []
        no-roots = elim (has-ended s.strand done).cause [ inl spent ↦ absurd (true≢false (sym spent ∙ asks.way.unspent)) | inr none ↦ none ]

        pub ends-covered : IsCoveredBy c site (entries_of ms) m.shard.journal (at_time q time)
        ends-covered = mirrors-covered c site (entries_of ms) m.shard.journal asks.mirror asks.mirrors (at_time q time)
            (recursion_from_All (IsCovered d asks.mirror) (at_time q time ∷ []) (subst (All (IsCovered d asks.mirror)) one-root (roots-covered d a asks.mirror s.strand asks.way no-roots))).0

        -- and the cell that it heard last is that of the time
        pub ends-heard : (e : IsEvaluable d q.signal time) → (h : Batch) → h.circuit ≡ d → IsKnownStrand h s → s.last ≡ None → ⊥
        ends-heard e h same knows none = by s.last none knows.last
          where
            left : s.root ≡ s.from → ⊥
            left start =
                let roots : roots_left h.circuit (record { signal = s.strand.query.signal; start = s.from; stop = s.to }) s.root ≡ [] = sym knows.roots ∙ no-roots in
                let at : roots_left d (record { signal = q.signal; start = time; stop = time + 1 }) time ≡ [] =
                sym (here start) ∙ roots in
                some-root d q time e at
              where
                here : s.root ≡ s.from → roots_left h.circuit (record { signal = s.strand.query.signal; start = s.from; stop = s.to }) s.root ≡ roots_left d (record { signal = q.signal; start = time; stop = time + 1 }) time
                here start =
                    ap (λ (z : Circuit). roots_left z (record { signal = s.strand.query.signal; start = s.from; stop = s.to }) s.root) same
                    ∙ ap (λ (z : Query). roots_left d (record { signal = z.signal; start = s.from; stop = s.to }) s.root) asks.way.query
                    ∙ ap (λ n. roots_left d (record { signal = q.signal; start = n; stop = s.to }) s.root) asks.from
                    ∙ ap (λ n. roots_left d (record { signal = q.signal; start = time; stop = n }) s.root) asks.to
                    ∙ ap (λ n. roots_left d (record { signal = q.signal; start = time; stop = time + 1 }) n) (start ∙ asks.from)

            by : (o : Option Cell) → o ≡ None → MatchOption o (s.root ≡ s.from) (IsLastHeard h.circuit s.strand.query s.from s.to s.root) → ⊥
            by None k m = left m
            by (Some x) k m = absurd cc

    -- what the strand leaves where it heard its root
    pub leaves-heard : (ms : List KeptShard) (m : KeptShard) (charge : ℕ) → Rests b opening question ms m charge → IsCoveredBy c site (entries_of ms) m.shard.journal (at_time q time) → LeavesOwn c question time (entries_of ms) m.shard.journal Neither
    leaves-heard ms m charge r covered = record {
      ours = each-from (IsFor q.number) m.shard.journal (λ x h. each-contains (IsFor q.number) r.mirror x r.own (r.mirrors.has x h));
      few = (let k = r.charged in let l = r.few in omega arith);
      outcome = (covered, none-refused q.number m.shard.journal (rests-going ms m charge r));
    }

    -- a root was asked of both memos, from where they rested on
    module _ (ms : List KeptShard) (m : KeptShard) (charge : ℕ) (r : Rests b opening question ms m charge) (new_ms : List KeptShard) (new : KeptShard) where
      abbrev was : List Entry
      was = m.shard.journal

      abbrev own : List Entry
      own = new.shard.journal

      abbrev start : Start
      start = root_start q time (charge_of was q)

      pub hears : (who : RefusedBy) → AsksOn b opening q (shards_in ms) false (shards_in new_ms) (is_session who) → Extends was own → LeavesOwn c question time (entries_of new_ms) own who → (refused : Bool) → refused ≡ is_refused who
          → HearsRoot b opening site start (shards_in ms) was (shards_in new_ms) own refused
      hears who session extends leaves refused flag = record {
        refused_by = who;
        flag = flag;
        session = session;
        added = more;
        journal = extends.1;
        numbers = each-right (IsFor q.number) was more (subst (AllByRecursion (IsFor q.number)) extends.1 leaves.ours);
        charge = (let k = leaves.few in omega (arith, k, fills));
        outcome = outcome who leaves.outcome;
      }
        where
          more : List Entry
          more = extends.0

          fills : fill_count own q.number ≡ fill_count was q.number + fill_count more q.number
          fills = ap (λ l. fill_count l q.number) extends.1 ∙ count-append (is_fill_of q.number) was more

          counts : refusals own q.number ≡ refusals more q.number
          counts =
              let k : refusals own q.number ≡ refusals was q.number + refusals more q.number = ap (λ l. refusals l q.number) extends.1 ∙ count-append (is_spent_of q.number) was more in
              let l = none-refused q.number was (rests-going ms m charge r) in
              omega arith

          outcome : (who : RefusedBy) → IsOutcomeOf c site a (entries_of new_ms) own own who → IsOutcomeOf c site start (entries_of new_ms) more own who
          outcome Neither k = (k.0, sym counts ∙ k.1)
          outcome Session k = sym counts ∙ k
          outcome (Own p) k = record {
            given_up = k.given_up;
            last = k.last;
            different = k.different;
            dropped = k.dropped;
            budget = (let n = k.budget in let l = leaves.few in omega (arith, n, l, fills));
            refusals = sym counts ∙ k.refusals;
          }

    -- a spent strand drops its top
    module _ (ms : List KeptShard) (m : KeptShard) (s : Demand) (who : RefusedBy) (gives : GivesUp b question time ms m s who) where
      held : Holds q.number m.shard.state.claims s.strand.stack
      held = record { held = gives.holds.held; holder = gives.holds.holder }

      number : s.strand.query.number ≡ q.number
      number = ap (λ (z : Query). z.number) gives.query

      pub drops-on : IsCircuit d → IsChain d s.strand.roots s.strand.stack → (new : KeptShard) (t : Demand) (woken : List Demand) (p : Point) → next s.strand ≡ Drop p → DropsIt m new p s t woken → GivesUp b question time ms new t who
      drops-on ok chain new t woken p e f =
          let top = drop-top s.strand p e in
          let claims : new.shard.state.claims ≡ without_point m.shard.state.claims p = ap (λ (z : Shard). z.state.claims) f.shard in
          let h : Holds q.number new.shard.state.claims t.strand.stack =
          subst (λ (z : Strand). Holds q.number new.shard.state.claims z.stack) (sym f.strand.strand)
          (subst (λ z. Holds q.number z (rest s.strand.stack)) (sym claims) (holds-rest q.number m.shard.state.claims s.strand.stack held d ok s.strand.roots p chain top)) in
          record {
            holds = record { held = h.held; holder = h.holder };
            query = ap (λ (z : Strand). z.query) f.strand.strand ∙ gives.query;
            number = f.number ∙ gives.number;
            reached = subst (NoneIsFree c site) (sym journal) (reached-more c site m.shard.journal (entry ∷ []) gives.reached (none-claimed c site (entry ∷ []) (tt, tt)));
            spent = ap (λ (z : Strand). z.spent) f.strand.strand ∙ gives.spent;
            to = f.strand.to ∙ gives.to;
            cause =
                subst (λ es. IsGivingUpBy c question time (entries_of ms) es t.strand who) (sym journal)
                (subst (λ (z : Strand). IsGivingUpBy c question time (entries_of ms) (m.shard.journal ++ entry ∷ []) z who) (sym f.strand.strand) (cause who gives.cause));
          }
        where
          entry : Entry
          entry = Dropped q.number p

          journal : new.shard.journal ≡ m.shard.journal ++ entry ∷ []
          journal = ap (λ (z : Shard). z.journal) f.shard ∙ ap (λ n. m.shard.journal ++ Dropped n p ∷ []) number

          cause : (who : RefusedBy) → IsGivingUpBy c question time (entries_of ms) m.shard.journal s.strand who → IsGivingUpBy c question time (entries_of ms) (m.shard.journal ++ entry ∷ []) (after_drop s.strand) who
          cause Neither k = k
          cause Session k = (
            k.0,
            record {
              ours = each-append (IsFor q.number) m.shard.journal (entry ∷ []) k.1.ours (refl, tt);
              few = (let n = count-append (is_fill_of q.number) m.shard.journal (entry ∷ []) in let l = k.1.few in omega arith);
              outcome = (let n = count-append (is_spent_of q.number) m.shard.journal (entry ∷ []) in let l = k.1.outcome in omega arith);
            },
          )
          cause (Own x) g = goes-dropped nothing a x m.shard.journal s.strand p (drop-top s.strand p e) g

      -- one of the memos refused it
      pub gives-flag : true ≡ is_refused who
      gives-flag = by who gives.cause
        where
          by : (who : RefusedBy) → IsGivingUpBy c question time (entries_of ms) m.shard.journal s.strand who → true ≡ is_refused who
          by Neither k = absurd k
          by Session k = refl
          by (Own p) k = refl

      -- until it holds nothing
      module _ (empty : s.strand.stack ≡ []) where
        refused : (p : Point) → IsGivingUp nothing a p m.shard.journal s.strand → LeavesOwn c question time (entries_of ms) m.shard.journal (Own p)
        refused p g =
            let n = q.number in
            let stack : length s.strand.stack ≡ 0 = ap length empty in
            let count : length g.gone + length s.strand.stack ≡ length g.gone = omega arith in
            let same : m.shard.journal ≡ g.before ++ Spent n p (length g.gone) ∷ drops n g.gone = g.added_is ∙ ap (λ k. g.before ++ Spent n p k ∷ drops n g.gone) count in
            let apart = pairs_from (p ∷ g.gone ++ points_on s.strand.stack) g.different in
            let fills : fill_count m.shard.journal n ≡ fill_count g.before n = ap (λ z. fill_count z n) same ∙ refused-filled n g.before p (length g.gone) g.gone in
            let account = g.account in
            record {
              ours = subst (AllByRecursion (IsFor n)) (sym same) (refused-own n g.before p (length g.gone) g.gone g.own);
              few = omega arith;
              outcome = record {
                given_up = g.gone;
                last = ap (λ l. last_of l n p) same ∙ refused-last n g.before p (length g.gone) g.gone (each-left (λ y. p ≢ y) g.gone (points_on s.strand.stack) apart.0);
                different = pairs_to g.gone (differ-left g.gone (points_on s.strand.stack) apart.1);
                dropped = All-weaker (Contains g.gone) (λ x. last_of m.shard.journal n x ≡ Some (Dropped n x))
                    (λ x h. ap (λ l. last_of l n x) same ∙ gone-last n g.before p (length g.gone) g.gone x h) g.gone (All-contains_itself g.gone);
                budget = omega arith;
                refusals = ap (λ l. refusals l n) same ∙ refused-once n g.before p (length g.gone) g.gone g.going;
              };
            }

        pub drops-leave : LeavesOwn c question time (entries_of ms) m.shard.journal who
        drops-leave = by who gives.cause
          where
            by : (who : RefusedBy) → IsGivingUpBy c question time (entries_of ms) m.shard.journal s.strand who → LeavesOwn c question time (entries_of ms) m.shard.journal who
            by Neither k = absurd k
            by Session k = k.1
            by (Own p) k = refused p k

        pub drops-end : IsRefused b question ms m
        drops-end = record {
          number = gives.number;
          idle = holds-none q.number m.shard.state.claims s.strand.stack held empty;
          reached = gives.reached;
          cause = by who gives.cause;
        }
          where
            spent : (p : Point) → IsRefusedAlone a p m.shard.journal m.shard.journal → IsSpent m.shard.journal q
            spent p k = record {
              point = p;
              claims = length k.given_up;
              last = k.last;
              given_up = k.given_up;
              different = k.different;
              dropped = k.dropped;
              enough = omega arith;
              budget = (let n = k.budget in omega arith);
            }

            by : (who : RefusedBy) → IsGivingUpBy c question time (entries_of ms) m.shard.journal s.strand who → IsSpent (entries_of ms) q ⊎ IsSpent m.shard.journal q
            by Neither k = absurd k
            by Session k = inl k.0
            by (Own p) k = inr (spent p (refused p k).outcome)

-- a spent strand does not fill
pub fills-unspent : (s : Strand) (p : Point) → next s ≡ Fill p → s.spent ≡ false
fills-unspent s p h = by s.spent s.roots s.stack h
  where
    by : (spent : Bool) (roots : List Point) (st : List Frame) → next_in spent roots st ≡ Fill p → spent ≡ false
    by true roots [] k = absurd cc
    by true roots (f ∷ fs) k = absurd cc
    by false roots st k = refl
