-- What settlement keeps as strands run alone.
use Rattle.std.proofs.Common.{◌≡◌, ◌≢◌, ℕ, zero, suc, ◌+◌, ◌-◌, ◌<◌, ◌≤◌, ◌%◌, nat_lt, Bool, true, false, List, [], ◌∷◌, ◌++◌, length, get_or, All, AllPairs, Contains, refl, sym, ap, subst, ◌∙◌, arith, inl, inr, true≢false, is_some, Option, Some, None}
use Rattle.std.proofs.lemmas.Bool.{lt-ltb}
use Rattle.std.proofs.lemmas.List.Elements.{All-weaker, All-contains, recursion_from_All, Contains-append_cases}
use Rattle.valid_intervals.specs.declared.Cell.{Cell}
use Rattle.valid_intervals.specs.declared.Point.{Point}
use Rattle.valid_intervals.specs.declared.SignalCell.{SignalCell}
use Rattle.circuit_meaning.specs.Circuit.{Circuit, Driver, Input}
use Rattle.circuit_meaning.specs.Need.{HasChildren, IsEvaluable, IsRoot, First, Next, children}
use Rattle.circuit_meaning.specs.Cells.{span}
use Rattle.circuit_meaning.proofs.Callers.{cell-covers, need-closed, held-need-closed}
use Rattle.journal_meaning.specs.declared.Entry.{Entry}
use Rattle.journal_meaning.specs.declared.Entry.TheVariants.{Filled, Dropped, Spent}
use Rattle.journal_meaning.specs.declared.batch.Query.{Query}
use Rattle.journal_meaning.specs.States.{fresh, holder}
use Rattle.journal_meaning.specs.Replay.{replay}
use Rattle.journal_meaning.specs.Batches.{Batch, Site, IsNeededBy, NeedOf, window_of}
use Rattle.journal_meaning.specs.Answers.{IsCovered, last_of, fill_count, IsClosed, IsSpent}
use Rattle.journal_meaning.specs.Grown.{IsFor, refusals, GrowsBy}
use Rattle.journal_meaning.specs.Listed.{IsForOther, IsRightEntry, AreTimesCovered}
use Rattle.journal_meaning.proofs.Callers.{claims_ours, none_ours, Each, each-append, each-imply, added-none, added-more, for-other, grows-more, covered-kept, filled-more, refusals-more, others-refusals, children-kept, spent-kept, right-entries, times-more, closed-by}
use Rattle.journal_meaning.specs.Lawful.{IsLawful}
use Rattle.journal_meaning.specs.Pieces.{Start, IsStart}
use Rattle.plan_machine.specs.Strands.{roots_from}
use Rattle.plan_machine.proofs.Wanted.{within-of}
use Rattle.plan_machine.specs.Shards.{Shard, IsShard}
use Rattle.plan_machine.specs.Plans.{Plan, no_shard, new_plan}
use Rattle.plan_machine.specs.Sound.{IsFresh}
use Rattle.plan_machine.specs.Laws.{BeginsAlone}
use Rattle.plan_machine.specs.Alone.{roots_of, IsServedAlone, IsRefusedAlone, RanAlone}
use Rattle.plan_machine.specs.Settle.{Standing, AreAllSettled, journals_of, charge_of, entries_in, child_start, root_start, IsSettled}
use Rattle.plan_machine.specs.Standings.{StandsAs, IsStanding, Advances, Reaches, IsCoveredTo, IsAskedFor, SettlesQuery, IsSettling, AskedAlone, IsVisited, IsOpen, AreVisited}
use Rattle.plan_machine.proofs.Steps.{wanted-time}
use Rattle.plan_machine.proofs.New.{new-sound}
use Rattle.plan_machine.proofs.Underway.{contains-cases, contains-none, each-contains}

-- a query of a lawful batch is the only one with its number
single : (qs : List Query) → AllPairs (λ q r. q.number ≢ r.number) qs → (q r : Query) → Contains qs q → Contains qs r → r.number ≡ q.number → r ≡ q
single [] h q r a c e = absurd (contains-none q [] refl a)
single (x ∷ qs) h q r a c e =
    let first : All (λ y. x.number ≢ y.number) qs = λ k d l. h 0 (suc k) d (omega arith) (omega arith) in
    let rest = single qs (λ i j d l m. h (suc i) (suc j) d (omega arith) (omega arith)) q r in
    elim (contains-cases x qs q a) [
      | inl s ↦ elim (contains-cases x qs r c) [
        | inl t ↦ sym t ∙ s
        | inr t ↦ absurd (All-contains (λ y. x.number ≢ y.number) qs r first t (ap (λ (z : Query). z.number) s ∙ sym e))
      ]
      | inr s ↦ elim (contains-cases x qs r c) [
        | inl t ↦ absurd (All-contains (λ y. x.number ≢ y.number) qs q first s (ap (λ (z : Query). z.number) t ∙ e))
        | inr t ↦ rest s t e
      ]
    ]

pub own-query : (b : Batch) → IsLawful b → (q r : Query) → Contains b.queries q → Contains b.queries r → r.number ≡ q.number → r ≡ q
own-query b l = single b.queries l.numbers

-- an evaluable point is of a signal of the circuit
pub evaluable-signal : (t : ℕ) (ds : List Driver) (s : ℕ) → HasChildren t (get_or ds s (Input [])) → s < length ds
evaluable-signal t [] s h = absurd h
evaluable-signal t (d ∷ ds) zero h = omega arith
evaluable-signal t (d ∷ ds) (suc s) h = let k = evaluable-signal t ds s h in omega arith

-- a start for one time has that one root
module _ (c : Circuit) where
  pub one-root : (a : Start) → a.stop ≡ a.start + 1 → roots_of c a ≡ record { signal = a.query.signal; time = a.start } ∷ []
  unfolding roots_from
  one-root a e =
      let n : a.stop - a.start ≡ 1 = omega arith in
      let low : nat_lt a.start a.stop ≡ true = lt-ltb a.start a.stop (omega arith) in
      rw (n, low) refl

module _ (b : Batch) (lawful : IsLawful b) where
  -- the starts of settlement are lawful
  pub child-start : (q : Query) → Contains b.queries q → (x : Point) → IsNeededBy b q x → IsEvaluable b.circuit x.signal x.time → (charged : ℕ) → charged ≤ q.budget → IsStart b (child_start q x charged)
  child-start q known x need evaluable charged low =
      let time : x.time ≤ b.circuit.horizon = wanted-time b lawful q.number x (q, known, refl, need) in
      record {
        known = inr (record {
          of = q;
          known = known;
          number = refl;
          budget = refl;
          alone = refl;
          signal = evaluable-signal x.time b.circuit.drivers x.signal evaluable;
          within = omega arith;
          needed = need;
        });
        root = λ l. First l;
        stop = omega arith;
        charge = low;
        budget = omega arith;
      }

  pub root-start : b.site ≡ None → (q : Query) → Contains b.queries q → (t : ℕ) → IsRoot b.circuit (window_of q) t → t < q.to → (charged : ℕ) → charged ≤ q.budget → IsStart b (root_start q t charged)
  root-start site q known t root low charged few = record {
    known = inl (site, known);
    root = λ l. root;
    stop = omega arith;
    charge = few;
    budget = omega arith;
  }

  -- what a query of the batch needs has its evaluable children needed
  pub child-needed : (q : Query) (p x : Point) → IsNeededBy b q p → Contains (children b.circuit p.signal p.time) x → IsEvaluable b.circuit x.signal x.time → IsNeededBy b q x
  child-needed q p x need child evaluable = by b.site need
    where
      by : (site : Option Site) → NeedOf b.circuit site q p → NeedOf b.circuit site q x
      by None n = need-closed b.circuit (window_of q) p.signal p.time n x child evaluable
      by (Some site) n = held-need-closed b.circuit site.signal site.value lawful.circuit (window_of q) p.signal p.time n x child evaluable

  module _ (opening : ℕ → List SignalCell) where
    -- a strand alone over shards without claims
    pub begins : (old : List Shard) → IsFresh b opening old → (a : Start) → IsStart b a → BeginsAlone b opening 0 a (new_plan b (a ∷ []) old)
    begins old fresh a start = record {
      sound = new-sound b lawful opening (a ∷ []) old (start, tt) fresh;
      free = λ p.
          let c = fresh.count in
          let k = lawful.some_shard in
          ap (λ ks. holder ks p) (fresh.free (p.signal % length old) (omega arith));
      at = refl;
    }

    pub asked : (old : List Shard) (a : Start) (plan : Plan) (spent : Option Point) → RanAlone b opening 0 a (new_plan b (a ∷ []) old) plan spent → AskedAlone b opening a old plan.shards spent
    asked old a plan spent r = record {
      fresh = record {
        count = r.sound.count;
        right = r.sound.shards;
        free = λ n low.
            let is : IsShard b n (opening n) (get_or plan.shards n no_shard) = r.sound.shards n low in
            let es = (get_or plan.shards n no_shard).journal in
            let state = is.state in
            let ours = claims_ours b n es (fresh (opening n)) tt is.legal in
            let none : (replay (fresh (opening n)) es).claims ≡ [] = none_ours b n (replay (fresh (opening n)) es).claims ours (λ p at.
            let k = r.free p in
            let c : length plan.shards ≡ b.shards = r.sound.count in
            let h : p.signal % length plan.shards ≡ n = ap (λ m. p.signal % m) c ∙ at in
            let here : holder (get_or plan.shards n no_shard).state.claims p ≡ None = subst (λ m. holder (get_or plan.shards m no_shard).state.claims p ≡ None) h k in
            subst (λ s. holder s.claims p ≡ None) state here) in
            ap (λ s. s.claims) state ∙ none;
      };
      added = r.added;
      journals = r.journals;
      own = r.own;
      children = r.children;
      outcome = r.outcome;
    }

-- what is settled stays so while other queries are
module _ (c : Circuit) (q : Query) (start now more new : List Entry) (g : GrowsBy now more new) (others : Each (IsForOther q.number) more) where
  none-more : refusals new q.number ≡ refusals now q.number
  none-more = let k = refusals-more now more new g q.number in let l = others-refusals q.number more others in omega arith

  no-fills : (p : Point) (x : Cell) → Contains more (Filled q.number p x) → ⊥
  no-fills p x h = each-contains (IsForOther q.number) more (Filled q.number p x) others h refl

  pub visited-kept : (p : Point) → IsVisited c now p → IsVisited c new p
  visited-kept p h = All-weaker (IsCovered c now) (IsCovered c new) (covered-kept now more new g c) (children c p.signal p.time) h

  pub open-kept : IsOpen c q start now → IsOpen c q start new
  open-kept o = record {
    added = o.added ++ more;
    grows = grows-more start o.added now more new o.grows g;
    fed = λ p x known. elim (Contains-append_cases o.added more (Filled q.number p x) known) [
      | inl l ↦ visited-kept p (o.fed p x l)
      | inr l ↦ absurd (no-fills p x l)
    ];
    refusals = none-more ∙ o.refusals;
  }

  pub closed-kept : IsClosed c now q → IsClosed c new q
  closed-kept k = record {
    roots = λ t root. covered-kept now more new g c (record { signal = q.signal; time = t }) (k.roots t root);
    children = children-kept now more new g c q.number k.children (λ p x h. absurd (no-fills p x h));
  }

  pub settled-kept : (refused : Bool) → IsSettled c q start now refused → IsSettled c q start new refused
  settled-kept false k = (closed-kept k.0, none-more ∙ k.1)
  settled-kept true k = (spent-kept now more new g q others k.0, none-more ∙ k.1)

-- a strand ran alone for the query
module _ (b : Batch) (opening : ℕ → List SignalCell) (q : Query) (start : List Entry) (old new : List Shard) (a : Start) (spent : Option Point) (k : AskedAlone b opening a old new spent) (number : a.query.number ≡ q.number) (o : IsOpen b.circuit q start (entries_in old)) where
  abbrev c : Circuit
  c = b.circuit

  abbrev grown : GrowsBy (entries_in old) k.added (entries_in new)
  grown = k.journals.together

  pub asked-covered : (p : Point) → IsCovered c (entries_in old) p → IsCovered c (entries_in new) p
  asked-covered p h = covered-kept (entries_in old) k.added (entries_in new) grown c p h

  pub asked-visited : (p : Point) → IsVisited c (entries_in old) p → IsVisited c (entries_in new) p
  asked-visited p h = All-weaker (IsCovered c (entries_in old)) (IsCovered c (entries_in new)) asked-covered (children c p.signal p.time) h

  asked-fed : (p : Point) (x : Cell) → Contains (o.added ++ k.added) (Filled q.number p x) → IsVisited c (entries_in new) p
  asked-fed p x known = elim (Contains-append_cases o.added k.added (Filled q.number p x) known) [
    | inl l ↦ asked-visited p (o.fed p x l)
    | inr l ↦ k.children q.number p x l
  ]

  -- it was not refused: the query goes on, and the one root is covered
  pub asked-open : IsServedAlone c a k.added (entries_in new) → IsOpen c q start (entries_in new)
  asked-open s = record {
    added = o.added ++ k.added;
    grows = grows-more start o.added (entries_in old) k.added (entries_in new) o.grows grown;
    fed = asked-fed;
    refusals =
        let m = refusals-more (entries_in old) k.added (entries_in new) grown q.number in
        let n : refusals k.added q.number ≡ 0 = ap (refusals k.added) (sym number) ∙ s.refusals in
        let l = o.refusals in
        omega arith;
  }

  pub asked-root : IsServedAlone c a k.added (entries_in new) → a.stop ≡ a.start + 1 → IsCovered c (entries_in new) (record { signal = a.query.signal; time = a.start })
  asked-root s e = (recursion_from_All (IsCovered c (entries_in new)) (record { signal = a.query.signal; time = a.start } ∷ []) (subst (All (IsCovered c (entries_in new))) (one-root c a e) s.roots)).0

  -- it was refused: its budget was spent, and that has its cause
  module _ (p : Point) (r : IsRefusedAlone a p k.added (entries_in new)) where
    pub refused-once : refusals (entries_in new) q.number ≡ refusals start q.number + 1
    refused-once =
        let m = refusals-more (entries_in old) k.added (entries_in new) grown q.number in
        let n : refusals k.added q.number ≡ 1 = ap (refusals k.added) (sym number) ∙ r.refusals in
        let l = o.refusals in
        omega arith

    pub asked-spent : a.budget ≡ q.budget → a.charged ≤ fill_count (entries_in old) q.number → IsSpent (entries_in new) q
    asked-spent budget low = record {
      point = p;
      claims = length r.given_up;
      last = subst (λ n. last_of (entries_in new) n p ≡ Some (Spent n p (length r.given_up))) number r.last;
      given_up = r.given_up;
      different = r.different;
      dropped = subst (λ n. All (λ x. last_of (entries_in new) n x ≡ Some (Dropped n x)) r.given_up) number r.dropped;
      enough = omega arith;
      budget =
          let m = r.budget in
          let n : fill_count k.added a.query.number ≡ fill_count k.added q.number = ap (fill_count k.added) number in
          let l = filled-more (entries_in old) k.added (entries_in new) grown q.number in
          omega arith;
    }

    pub asked-refused : a.budget ≡ q.budget → a.charged ≤ fill_count (entries_in old) q.number → IsSettled b.circuit q start (entries_in new) true
    asked-refused budget low = (asked-spent budget low, refused-once)

-- a query that was not refused is closed, once what it had evaluated is visited and its window is covered
pub settles-closed : (b : Batch) → IsLawful b → (q : Query) → q.to ≤ b.circuit.horizon + 1 → (start now : List Entry) → IsOpen b.circuit q start now → AreVisited b.circuit q start now → (u : ℕ) → AreTimesCovered b.circuit now q.signal q.from u → q.to ≤ u
    → IsSettled b.circuit q start now false
settles-closed b l q within start now o visited u covered high = (
  closed-by b.circuit l.circuit q now u within covered high (λ p x known. elim (o.grows.only (Filled q.number p x) known) [
    | inl k ↦ visited p x k
    | inr k ↦ o.fed p x k
  ]),
  o.refusals,
)

module _ (b : Batch) (lawful : IsLawful b) (opening : ℕ → List SignalCell) where
  -- what the entries of shards say is right
  pub right-of : (shards : List Shard) → IsFresh b opening shards → (e : Entry) → Contains (entries_in shards) e → IsRightEntry b.circuit e
  right-of shards is e h = each-contains (IsRightEntry b.circuit) (entries_in shards) e (all shards 0 (λ i low. subst (λ n. IsShard b n (opening n) (get_or shards i no_shard)) (omega arith) (is.right i (let c = is.count in omega arith)))) h
    where
      all : (shards : List Shard) (j : ℕ) → ((i : ℕ) → i < length shards → IsShard b (j + i) (opening (j + i)) (get_or shards i no_shard)) → Each (IsRightEntry b.circuit) (entries_in shards)
      all [] j f = tt
      all (x ∷ xs) j f =
          let here : IsShard b (j + 0) (opening (j + 0)) x = f 0 (omega arith) in
          each-append (IsRightEntry b.circuit) x.journal (entries_in xs) (right-entries b (j + 0) (fresh (opening (j + 0))) x.journal here.legal)
          (all xs (j + 1) (λ i low. subst (λ n. IsShard b n (opening n) (get_or xs i no_shard)) (omega arith) (f (suc i) (omega arith))))

-- while a query is settled
module _ (b : Batch) (opening : ℕ → List SignalCell) (q : Query) (start : List Entry) where
  pub stays : (first : List Shard) (s : Standing) → IsStanding b opening q start first s → Advances b opening q start first s s
  stays first s h = record { stands = h; kept = λ p k. k; live = λ e. e }

  pub then : (first : List Shard) (s t u : Standing) → Advances b opening q start first s t → Advances b opening q start first t u → Advances b opening q start first s u
  then first s t u a d = record { stands = d.stands; kept = λ p k. d.kept p (a.kept p k); live = λ e. a.live (d.live e) }

  -- its turn comes
  pub begins-query : (shards : List Shard) → IsFresh b opening shards → IsOpen b.circuit q start (entries_in shards) → IsStanding b opening q start shards (record { shards = shards; refused = false })
  begins-query shards fresh open_now = record { fresh = fresh; added = []; journals = added-none (journals_of shards); own = tt; state = open_now }

-- what settlement asks for
pub child-asked : (q : Query) (es : List Entry) (x : Point) → IsAskedFor q es x (child_start q x (charge_of es q))
child-asked q es x = record { point = refl; number = refl; budget = refl; charged = omega arith; stop = refl }

pub root-asked : (q : Query) (es : List Entry) (t : ℕ) → IsAskedFor q es (record { signal = q.signal; time = t }) (root_start q t (charge_of es q))
root-asked q es t = record { point = refl; number = refl; budget = refl; charged = omega arith; stop = refl }

module _ (b : Batch) (lawful : IsLawful b) (opening : ℕ → List SignalCell) (q : Query) (start : List Entry) where
  -- one strand asked, and the point that it was started for is covered or the query is refused
  pub asked-reaches : (first : List Shard) (s : Standing) → IsStanding b opening q start first s → s.refused ≡ false → (x : Point) (a : Start) → IsAskedFor q (entries_in s.shards) x a → (new : List Shard) (o : Option Point) → AskedAlone b opening a s.shards new o
      → Reaches b opening q start first s x (record { shards = new; refused = is_some o })
  asked-reaches first s h live x a for new o k = by o k (subst (StandsAs b.circuit q start (entries_in s.shards)) live h.state)
    where
      by : (o : Option Point) → AskedAlone b opening a s.shards new o → IsOpen b.circuit q start (entries_in s.shards) → Reaches b opening q start first s x (record { shards = new; refused = is_some o })
      by None k now = (
        record {
          stands = record {
            fresh = k.fresh;
            added = h.added ++ k.added;
            journals = added-more (journals_of first) h.added (journals_of s.shards) k.added (journals_of new) h.journals k.journals;
            own = each-append (IsFor q.number) h.added k.added h.own (subst (λ n. Each (IsFor n) k.added) for.number k.own);
            state = asked-open b opening q start s.shards new a None k for.number now k.outcome;
          };
          kept = λ p c. asked-covered b opening q start s.shards new a None k for.number now p c;
          live = λ _. live;
        },
        λ _. subst (IsCovered b.circuit (entries_in new)) for.point (asked-root b opening q start s.shards new a None k for.number now k.outcome for.stop),
      )
      by (Some p) k now = (
        record {
          stands = record {
            fresh = k.fresh;
            added = h.added ++ k.added;
            journals = added-more (journals_of first) h.added (journals_of s.shards) k.added (journals_of new) h.journals k.journals;
            own = each-append (IsFor q.number) h.added k.added h.own (subst (λ n. Each (IsFor n) k.added) for.number k.own);
            state = (
              asked-spent b opening q start s.shards new a (Some p) k for.number now p k.outcome for.budget for.charged,
              refused-once b opening q start s.shards new a (Some p) k for.number now p k.outcome,
            );
          };
          kept = λ x c. asked-covered b opening q start s.shards new a (Some p) k for.number now x c;
          live = λ _. live;
        },
        λ e. absurd (true≢false e),
      )

-- a query of the batch
module _ (b : Batch) (lawful : IsLawful b) (opening : ℕ → List SignalCell) (q : Query) (known : Contains b.queries q) (start : List Entry) where
  -- its window is covered as far as the cell of a root goes, and the end of the cell is the next root
  pub record IsWindowStep (t : ℕ) (mid : Standing) : Type 0 where
    pub later : t < (span b.circuit q.signal t).stop
    pub root : (span b.circuit q.signal t).stop < q.to → IsRoot b.circuit (window_of q) (span b.circuit q.signal t).stop
    pub covered : IsCoveredTo b.circuit q mid (span b.circuit q.signal t).stop

  pub window-step : (first : List Shard) (s mid : Standing) (t : ℕ) → t < q.to → IsRoot b.circuit (window_of q) t → IsCoveredTo b.circuit q s t → Reaches b opening q start first s (record { signal = q.signal; time = t }) mid → IsWindowStep t mid
  window-step first s mid t low root times one =
      let c = b.circuit in
      let l = within-of b lawful q known in
      let inside = (cell-covers c lawful.circuit t q.signal (omega arith)).inside.high in
      record {
        later = inside;
        root = λ l. Next root l;
        covered = λ z. times-more c lawful.circuit (entries_in mid.shards) (right-of b lawful opening mid.shards one.0.stands.fresh) q.signal q.from t (span c q.signal t).stop
            (λ u since before. one.0.kept (record { signal = q.signal; time = u }) (times (one.0.live z) u since before)) (one.1 z) (omega arith) refl;
      }

  -- what it had evaluated is visited and its window is covered, or it was refused: it is settled
  pub ends-query : (first : List Shard) (end : Standing) → IsStanding b opening q start first end → (end.refused ≡ false → AreVisited b.circuit q start (entries_in end.shards)) → (u : ℕ) → IsCoveredTo b.circuit q end u → q.to ≤ u → SettlesQuery b opening q start first end
  ends-query first end h visited u times high = record {
    fresh = h.fresh;
    added = h.added;
    journals = h.journals;
    own = h.own;
    settled = by end.refused refl (entries_in end.shards) h.state visited times;
  }
    where
      by : (r : Bool) → {e : Bool} → e ≡ r → (now : List Entry) → StandsAs b.circuit q start now e → (e ≡ false → AreVisited b.circuit q start now) → (e ≡ false → AreTimesCovered b.circuit now q.signal q.from u) → IsSettled b.circuit q start now e
      by true {e} same now state visited times = subst (IsSettled b.circuit q start now) (sym same) (subst (StandsAs b.circuit q start now) same state)
      by false {e} same now state visited times =
          subst (IsSettled b.circuit q start now) (sym same) (settles-closed b lawful q (within-of b lawful q known) start now (subst (StandsAs b.circuit q start now) same state) (visited same) u (times same) high)

-- from one query to the next
module _ (b : Batch) (opening : ℕ → List SignalCell) (start : List Entry) (q : Query) (added : List Entry) (own : Each (IsFor q.number) added) where
  others : (r : ℕ) → q.number ≢ r → Each (IsForOther r) added
  others r ne = each-imply (IsFor q.number) (IsForOther r) (for-other r q.number ne) added own

  pub opens-kept : (now new : List Entry) → GrowsBy now added new → (left : List Query) → Each (λ r. q.number ≢ r.number) left → Each (λ r. IsOpen b.circuit r start now) left → Each (λ r. IsOpen b.circuit r start new) left
  opens-kept now new g [] ne h = tt
  opens-kept now new g (r ∷ left) ne h = (open-kept b.circuit r start now added new g (others r.number ne.0) h.0, opens-kept now new g left ne.1 h.1)

  pub all-kept : (now new : List Entry) → GrowsBy now added new → (done : List Query) (refused : List Bool) → Each (λ r. q.number ≢ r.number) done → AreAllSettled b.circuit start now done refused → AreAllSettled b.circuit start new done refused
  all-kept now new g [] [] ne h = tt
  all-kept now new g [] (f ∷ fs) ne h = absurd h
  all-kept now new g (r ∷ done) [] ne h = absurd h
  all-kept now new g (r ∷ done) (f ∷ fs) ne h = (settled-kept b.circuit r start now added new g (others r.number ne.0) f h.0, all-kept now new g done fs ne.1 h.1)

pub all-push : (c : Circuit) (start now : List Entry) (done : List Query) (refused : List Bool) (q : Query) (r : Bool) → AreAllSettled c start now done refused → IsSettled c q start now r → AreAllSettled c start now (done ++ q ∷ []) (refused ++ r ∷ [])
all-push c start now [] [] q r h k = (k, tt)
all-push c start now [] (f ∷ fs) q r h k = absurd h
all-push c start now (x ∷ done) [] q r h k = absurd h
all-push c start now (x ∷ done) (f ∷ fs) q r h k = (h.0, all-push c start now done fs q r h.1 k)

pub settling-step : (b : Batch) (opening : ℕ → List SignalCell) (start : List Entry) (first now : List Shard) (done : List Query) (refused : List Bool) (q : Query) (left : List Query) → IsSettling b opening start first now done refused (q ∷ left)
    → Each (λ r. q.number ≢ r.number) done → Each (λ r. q.number ≢ r.number) left → (t : Standing) → SettlesQuery b opening q start now t → IsSettling b opening start first t.shards (done ++ q ∷ []) (refused ++ t.refused ∷ []) left
settling-step b opening start first now done refused q left h before behind t k = record {
  fresh = k.fresh;
  added = h.added ++ k.added;
  journals = added-more (journals_of first) h.added (journals_of now) k.added (journals_of t.shards) h.journals k.journals;
  settled = all-push b.circuit start (entries_in t.shards) done refused q t.refused (all-kept b opening start q k.added k.own (entries_in now) (entries_in t.shards) k.journals.together done refused before h.settled) k.settled;
  opens = opens-kept b opening start q k.added k.own (entries_in now) (entries_in t.shards) k.journals.together left behind h.opens.1;
}
