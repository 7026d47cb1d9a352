-- A shard agrees with its journal after each entry.
use Rattle.std.proofs.Common.{◌≡◌, Result, Ok, Err, OnOk, OnErr, IfErr, ℕ, ◌%◌, ◌<◌, cond, List, [], ◌∷◌, ◌++◌, refl, ap, ap₂, sym, ◌∙◌, subst, Option, Some, None, option_map, IsSome}
use Rattle.std.specs.List.{AllByRecursion}
use Rattle.texts.specs.declared.OutOfMemory.{OutOfMemory}
use Rattle.std.specs.BTreeMap.{is_at}
use Rattle.valid_intervals.specs.declared.Cell.{Cell}
use Rattle.valid_intervals.specs.declared.Point.{Point}
use Rattle.valid_intervals.specs.declared.SignalCell.{SignalCell}
use Rattle.valid_intervals.specs.Cells.{point_cmp, same_point, covers, cell_for, to_front, stored_at}
use Rattle.cell_store.specs.Recency.{Contents, contents, with_cells}
use Rattle.journal_meaning.specs.declared.Entry.{Entry}
use Rattle.journal_meaning.specs.declared.Entry.TheVariants as entry
use Rattle.journal_meaning.specs.States.{State, fresh, holder}
use Rattle.journal_meaning.specs.Batches.{Batch}
use Rattle.journal_meaning.specs.Allowed.{IsAt, IsRight}
use Rattle.circuit_meaning.specs.Cells.{cell_at}
use Rattle.journal_meaning.proofs.Callers.{each-stands, each-append, holder-claimed, Ours, claim_ours, right-answers}
use Rattle.journal_meaning.specs.Lawful.{IsLawful}
use Rattle.plan_machine.specs.Strands.{next}
use Rattle.plan_machine.specs.declared.strand.Next.TheVariants.{Ask}
use Rattle.plan_machine.specs.Shards.{Shard, IsShard, shard_with_entry}
use Rattle.plan_machine.proofs.Callers.{found, told-keeps, claimed-shard}
use Rattle.claim_waiters.specs.Claims.{WaitedClaim, Claims, IsInOrder, claim_at, holder_in, with_claim, with_waiter, waiters_at}
use Rattle.valid_intervals.proofs.Callers.{same_point-itself}
use Rattle.claim_waiters.proofs.Callers as tables
use Rattle.demand_points.specs.Demands as demands
use Rattle.demand_points.specs.Demands.{Demand}
use Rattle.memo_shards.specs.KeptShards.{KeptShard, shard_at, IsWaiting, IsKnownShard}
use Rattle.memo_shards.specs.inner.KeptShards.{waits_in, waits_for}
use Rattle.memo_shards.specs.inner.View.{AsksThere, Agrees}
use Rattle.memo_shards.specs.Asks.{OfPark}
use Rattle.memo_shards.specs.Grants.{TellsCell, GivesClaim}
use Rattle.memo_shards.proofs.Asking.{asked}
use Rattle.memo_shards.proofs.Waits.{ordered-waited, waits-at, waits-claimed, each-claimed, each-waits}

-- a result, by its case
pub by_case : {X E : Type 0} (r : Result X E) (A B P : Type 0) → OnOk r A → OnErr r B → (A → P) → (B → P) → P
by_case (Ok x) A B P a b f g = f a
by_case (Err e) A B P a b f g = g b

-- a new claim stands in the table
pub stands-claimed : (claims : Claims Demand) (p : Point) (q : ℕ) → claim_at claims p ≡ None → IsSome (claim_at (with_claim claims q p) p)
stands-claimed claims p q n = subst IsSome (sym (tables.at-inserted claims p (record { q = q; waiters = [] }) p n ∙ ap (λ t. cond t (Some (record { q = q; waiters = [] })) (claim_at claims p)) (same_point-itself p))) refl

pub query-none : (o : Option (WaitedClaim Demand)) → option_map (λ (c : WaitedClaim Demand). c.q) o ≡ None → o ≡ None
query-none None h = refl
query-none (Some c) h = absurd (cc h)

module _ (b : Batch) (opening : List SignalCell) (n : ℕ) where
  -- a shard is that of its journal
  pub shard-is : (k : Shard) → IsShard b n opening k → shard_at opening k.journal ≡ k
  shard-is k is = ap (λ (s : State). record { state = s; journal = k.journal }) (sym is.state)

  pub agrees-at : IsLawful b → n < b.shards → (k : Shard) → IsShard b n opening k → (store : Contents) (claims : Claims Demand)
      → store ≡ contents b.capacity k.state.cells → ((p : Point) → holder_in claims p ≡ holder k.state.claims p) → AllByRecursion AsksThere claims
      → Agrees b opening n store claims k.journal
  agrees-at l a k is store claims st hs asks = record {
    lawful = l;
    among = a;
    shard = subst (IsShard b n opening) (sym (shard-is k is)) is;
    stored = subst (λ (x : Shard). store ≡ contents b.capacity x.state.cells) (sym (shard-is k is)) st;
    holders = subst (λ (x : Shard). (p : Point) → holder_in claims p ≡ holder x.state.claims p) (sym (shard-is k is)) hs;
    asks = asks;
  }

  module _ (store : Contents) (claims : Claims Demand) (es : List Entry) (is : Agrees b opening n store claims es) where
    abbrev pub now : Shard
    now = shard_at opening es

    -- the query of a claim is needed
    pub ours : (p : Point) (q : ℕ) → holder now.state.claims p ≡ Some q → Ours b n q p
    ours p q h = claim_ours b n es (fresh opening) tt is.shard.legal p q h

    pub unclaimed : (p : Point) → holder now.state.claims p ≡ None → claim_at claims p ≡ None
    unclaimed p h = query-none (claim_at claims p) (is.holders p ∙ h)

    -- all that wait
    some-holder : (p : Point) → IsSome (claim_at claims p) → IsSome (holder now.state.claims p)
    some-holder p s = subst IsSome (is.holders p) (mapped (claim_at claims p) s)
      where
        mapped : (o : Option (WaitedClaim Demand)) → IsSome o → IsSome (option_map (λ (c : WaitedClaim Demand). c.q) o)
        mapped None s = s
        mapped (Some c) s = refl

    pub some-claim : (p : Point) → IsSome (holder now.state.claims p) → IsSome (claim_at claims p)
    some-claim p s = mapped (claim_at claims p) (subst IsSome (sym (is.holders p)) s)
      where
        mapped : (o : Option (WaitedClaim Demand)) → IsSome (option_map (λ (c : WaitedClaim Demand). c.q) o) → IsSome o
        mapped None s = s
        mapped (Some c) s = refl

    pub none-claimed : (p : Point) → claim_at claims p ≡ None → holder now.state.claims p ≡ None
    none-claimed p h = sym (is.holders p) ∙ ap (option_map (λ (c : WaitedClaim Demand). c.q)) h

    pub some-held : (p : Point) (q : ℕ) → holder now.state.claims p ≡ Some q → IsSome (claim_at claims p)
    some-held p q h = some-claim p (subst IsSome (sym h) refl)

    here-if : (p : Point) (o : Option ℕ) → holder now.state.claims p ≡ o → IsSome o → IsAt b n p
    here-if p None h s = absurd (cc s)
    here-if p (Some q) h s = (ours p q h).0

    abbrev pub shown_with : List Entry → Claims Demand → KeptShard
    shown_with fs cs = record { number = n; shard = shard_at opening fs; waiting = waits_in cs }

    abbrev pub shown : KeptShard
    shown = shown_with es claims

    waiting-in : (cs : Claims Demand) → AllByRecursion AsksThere cs → AllByRecursion (λ e. IsSome (holder now.state.claims e.0)) cs → AllByRecursion (λ e. AllByRecursion (λ w. IsWaiting b shown (waits_for e.0 w)) e.1.waiters) cs
    waiting-in [] a s = tt
    waiting-in (e ∷ cs) a s = (each e.1.waiters a.0, waiting-in cs a.1 s.1)
      where
        each : (ws : List Demand) → AllByRecursion (λ (w : Demand). next w.strand ≡ Ask e.0) ws → AllByRecursion (λ w. IsWaiting b shown (waits_for e.0 w)) ws
        each [] h = tt
        each (w ∷ ws) h = (record { asks = h.0; here = here-if e.0 (holder now.state.claims e.0) refl s.0; claimed = s.0 }, each ws h.1)

    pub known-shard : (openings : ℕ → List SignalCell) → openings n ≡ opening → IsKnownShard b openings shown
    known-shard openings e = record {
      lawful = is.lawful;
      number = is.among;
      shard = subst (λ o. IsShard b n o now) (sym e) is.shard;
      waiting = each-waits (IsWaiting b shown) claims (waiting-in claims is.asks (each-claimed (λ p. IsSome (holder now.state.claims p)) claims some-holder));
    }

    -- a told cell
    pub record IsTold (p : Point) (q : ℕ) (cell : Cell) : Type 0 where
      pub found : SignalCell
      pub at : stored_at now.state.cells p ≡ Some found
      pub same : found.cell ≡ cell
      pub answer : cell ≡ cell_at b.circuit p
      pub shard : IsShard b n opening (shard_with_entry (entry.Told q p cell) now)

    pub told : (w : Demand) → demands.IsKnownStrand b w → (p : Point) → next w.strand ≡ Ask p → p.signal % b.shards ≡ n → (cell : Cell) → option_map (λ (x : SignalCell). x.cell) (stored_at store.cells p) ≡ Some cell → IsTold p w.strand.query.number cell
    told w known p asks here cell h = of (stored_at store.cells p) refl h
      where
        of : (o : Option SignalCell) → stored_at store.cells p ≡ o → option_map (λ (x : SignalCell). x.cell) o ≡ Some cell → IsTold p w.strand.query.number cell
        of None e k = absurd (cc k)
        of (Some x) e k =
            let same : x.cell ≡ cell = cc k in
            let at : stored_at now.state.cells p ≡ Some x = subst (λ (z : Contents). stored_at z.cells p ≡ Some x) is.stored e in
            let a = asked b w known p asks in
            let f = found (covers p) now.state.cells x at in
            let right = right-answers b.circuit a.lawful.circuit p x (each-stands (IsRight b.circuit) x now.state.cells is.shard.right f.1) f.0 in
            record {
              found = x;
              at = at;
              same = same;
              answer = sym same ∙ ap (λ (z : SignalCell). z.cell) right;
              shard = subst (λ c. IsShard b n opening (shard_with_entry (entry.Told w.strand.query.number p c) now)) same
                  (told-keeps b n opening now is.shard w.strand.query.number p (here, a.within) a.lawful.circuit x a.needed at);
            }

    pub told-agrees : (p : Point) (q : ℕ) (cell : Cell) → IsTold p q cell → (left : Contents) → left ≡ with_cells store (to_front (cell_for p cell) store.cells) → Agrees b opening n left claims (es ++ entry.Told q p cell ∷ [])
    told-agrees p q cell t left e =
        agrees-at is.lawful is.among (shard_with_entry (entry.Told q p cell) now) t.shard left claims
        (e ∙ ap (λ (z : Contents). with_cells z (to_front (cell_for p cell) z.cells)) is.stored) is.holders is.asks

    pub told-shown : (w : Demand) (p : Point) (cell : Cell) → IsTold p w.strand.query.number cell → (fs : List Entry) → fs ≡ es ++ entry.Told w.strand.query.number p cell ∷ [] → TellsCell shown (shown_with fs claims) p w cell
    told-shown w p cell t fs e = record {
      found = t.found;
      stored = t.at;
      told = t.same;
      shard = ap (λ l. shown_with l claims) e ∙ ap (λ (k : Shard). record shown { shard = k }) (shard-is (shard_with_entry (entry.Told w.strand.query.number p cell) now) t.shard);
    }

    -- a claim
    module _ (w : Demand) (known : demands.IsKnownStrand b w) (p : Point) (asks : next w.strand ≡ Ask p) (here : p.signal % b.shards ≡ n) (missed : stored_at now.state.cells p ≡ None) (free : holder now.state.claims p ≡ None) where
      pub claimed-is : IsShard b n opening (shard_with_entry (entry.Claimed w.strand.query.number p) now)
      claimed-is = let a = asked b w known p asks in claimed-shard b n opening now is.shard w.strand.query.number p (here, a.within) a.needed missed free

      pub claimed-agrees : Agrees b opening n store (with_claim claims w.strand.query.number p) (es ++ entry.Claimed w.strand.query.number p ∷ [])
      claimed-agrees =
          let q = w.strand.query.number in
          let none = unclaimed p free in
          agrees-at is.lawful is.among (shard_with_entry (entry.Claimed q p) now) claimed-is store (with_claim claims q p) is.stored
          (λ x. tables.holder-claimed claims q p x none ∙ ap (cond (same_point p x) (Some q)) (is.holders x) ∙ sym (holder-claimed now.state.claims q p x))
          (tables.each-inserted AsksThere claims p (record { q = q; waiters = [] }) tt none is.asks)

      pub claimed-shown : w.strand.charged < w.strand.budget → (fs : List Entry) → fs ≡ es ++ entry.Claimed w.strand.query.number p ∷ [] → GivesClaim shown (shown_with fs (with_claim claims w.strand.query.number p)) p w
      claimed-shown within fs e = record {
        unfound = record { missed = missed; unclaimed = free };
        within = within;
        shard = ap (λ l. shown_with l (with_claim claims w.strand.query.number p)) e
            ∙ ap₂ (λ (k : Shard) l. record { number = n; shard = k; waiting = l }) (shard-is (shard_with_entry (entry.Claimed w.strand.query.number p) now) claimed-is) (waits-claimed claims p w.strand.query.number (unclaimed p free));
      }

    -- one more waits
    pub waited-agrees : (w : Demand) (p : Point) → next w.strand ≡ Ask p → Agrees b opening n store (with_waiter claims p w) es
    waited-agrees w p asks =
        agrees-at is.lawful is.among now is.shard store (with_waiter claims p w) is.stored
        (λ x. tables.holder-waited claims p w x ∙ is.holders x)
        (tables.each-waited AsksThere claims p w (λ c h. each-append (λ (v : Demand). next v.strand ≡ Ask p) c.waiters (w ∷ []) h (asks, tt)) is.asks)

    pub parked : (w : Demand) (p : Point) → next w.strand ≡ Ask p → stored_at now.state.cells p ≡ None → IsSome (holder now.state.claims p) → IsInOrder claims
        → (r : Result Unit (Demand × OutOfMemory)) (cs : Claims Demand) → OnOk r (cs ≡ with_waiter claims p w) → OnErr r (cs ≡ claims) → IfErr r (λ e. e.0 ≡ w) → OfPark shown (shown_with es cs) p w r
    parked w p asks missed held order (Ok u) cs ok err back = record {
      missed = missed;
      claimed = held;
      number = refl;
      shard = refl;
      waiting = λ x. waits-at cs (subst IsInOrder (sym ok) (ordered-waited (is_at (point_cmp p)) claims w order)) x ∙ ap (λ l. waiters_at l x) ok ∙ tables.waiters-waited claims p w x (some-claim p held)
          ∙ sym (ap₂ (λ a b. cond (same_point p x) (a ++ w ∷ []) b) (waits-at claims order p) (waits-at claims order x));
    }
    parked w p asks missed held order (Err e) cs ok err back = (back, ap (λ l. shown_with es l) err)
