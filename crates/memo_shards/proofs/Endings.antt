-- A shard agrees with its journal after the entries that end claims.
use Rattle.std.proofs.Common.{◌≡◌, ◌⊎◌, ℕ, zero, suc, ◌-◌, ◌%◌, ◌≤◌, Bool, true, false, cond, not, ◌&&◌, nat_eq, List, [], ◌∷◌, ◌++◌, length, slice_get, refl, ap, sym, ◌∙◌, subst, Option, Some, None, option_map, arith, inl, inr, true≢false}
use Rattle.std.specs.List.{AllByRecursion}
use Rattle.std.specs.BTreeMap.{is_at}
use Rattle.std.proofs.lemmas.List.Elements.{All-from_recursion}
use Rattle.valid_intervals.specs.declared.Cell.{Cell}
use Rattle.valid_intervals.specs.declared.Point.{Point}
use Rattle.valid_intervals.specs.declared.SignalCell.{SignalCell}
use Rattle.valid_intervals.specs.Cells.{same_point, same_stored, cell_for, to_front, all_but_last, is_stored, stored_at, last_cell, point_cmp}
use Rattle.cell_store.specs.Recency.{Contents, contents, FitsStore, IsApart, key_of, last_key, pushes_out, after_put}
use Rattle.journal_meaning.specs.declared.Entry.{Entry}
use Rattle.journal_meaning.specs.declared.Entry.TheVariants as entry
use Rattle.journal_meaning.specs.States as states
use Rattle.journal_meaning.specs.States.{holder}
use Rattle.journal_meaning.specs.Batches.{Batch, OfQuery}
use Rattle.journal_meaning.specs.Allowed.{IsRight}
use Rattle.circuit_meaning.specs.Cells.{cell_at}
use Rattle.journal_meaning.proofs.Callers.{holder-ended, right-answers}
use Rattle.valid_intervals.proofs.Callers.{same_stored-itself}
use Rattle.circuit_meaning.specs.Circuit.{Circuit, IsCircuit}
use Rattle.plan_machine.specs.Strands.{next, next_in}
use Rattle.plan_machine.specs.declared.strand.Next.TheVariants.{Ask}
use Rattle.plan_machine.specs.Shards.{Shard, IsShard, shard_with_entry, shard_without_cell, with_room, filled_shard}
use Rattle.plan_machine.proofs.Callers.{spent-shard, dropped-shard, filled-keeps, filled-claims}
use Rattle.claim_waiters.specs.Claims.{WaitedClaim, Claims, IsInOrder, claim_at, holder_in, waiting_in, waiters_of, waiters_at, without_claim}
use Rattle.claim_waiters.proofs.Callers as tables
use Rattle.demand_points.specs.Demands as demands
use Rattle.demand_points.specs.Demands.{Demand, IsAskedCell}
use Rattle.memo_shards.specs.KeptShards.{shard_at}
use Rattle.memo_shards.specs.inner.KeptShards.{waits_in}
use Rattle.memo_shards.specs.inner.View.{AsksThere, Agrees}
use Rattle.memo_shards.specs.Ends.{LeavesNone, with_shard}
use Rattle.memo_shards.specs.Grants.{LetsOut, TakesCell, TakesBack}
use Rattle.memo_shards.specs.inner.Ends.{after_eviction}
use Rattle.memo_shards.proofs.Asking.{refused}
use Rattle.memo_shards.proofs.Waits.{ordered-without, waits-at}
use Rattle.memo_shards.proofs.Entries.{ours, agrees-at, shard-is, shown, shown_with}

-- right cells fit a store of right cells
module _ (c : Circuit) (ok : IsCircuit c) (x : SignalCell) (right : IsRight c x) where
  fits-one : (y : SignalCell) → IsRight c y → (b : Bool) → same_stored x y ≡ b → (same_stored x y ≡ true) ⊎ IsApart x y
  fits-one y r true e = inl e
  fits-one y r false e = inr (λ p h k.
      let same : y ≡ x = right-answers c ok p y r k ∙ sym (right-answers c ok p x right h) in
      true≢false (sym (subst (λ z. same_stored x z ≡ true) (sym same) (same_stored-itself x)) ∙ e))

  fits-each : (cells : List SignalCell) → AllByRecursion (IsRight c) cells → AllByRecursion (λ y. (same_stored x y ≡ true) ⊎ IsApart x y) cells
  fits-each [] h = tt
  fits-each (y ∷ cells) h = (fits-one y h.0 (same_stored x y) refl, fits-each cells h.1)

  pub right-fits : (cells : List SignalCell) → AllByRecursion (IsRight c) cells → FitsStore x cells
  right-fits cells h = All-from_recursion (λ y. (same_stored x y ≡ true) ⊎ IsApart x y) cells (fits-each cells h)

-- the last of a list
get-within : (xs : List SignalCell) (i : ℕ) → slice_get xs i ≡ None → length xs ≤ i
get-within [] i h = omega arith
get-within (x ∷ xs) zero h = absurd (cc h)
get-within (x ∷ xs) (suc i) h = let k = get-within xs i h in omega (arith, k)

last-none : (cells : List SignalCell) → last_cell cells ≡ None → all_but_last cells ≡ cells
last-none [] h = refl
last-none (x ∷ cells) h = let k : length (x ∷ cells) ≤ length (x ∷ cells) - 1 = get-within (x ∷ cells) (length (x ∷ cells) - 1) h in absurd (omega (arith, k))

evicted-cells : (h : Shard) (o : Option SignalCell) → last_cell h.state.cells ≡ o → all_but_last h.state.cells ≡ (shard_without_cell o h).state.cells
evicted-cells h None e = last-none h.state.cells e
evicted-cells h (Some x) e = refl

evicted-items : (h : Shard) (o : Option SignalCell) → after_eviction (option_map key_of o) h.journal ≡ (shard_without_cell o h).journal
evicted-items h None = refl
evicted-items h (Some x) = refl

-- what a put does to a store is what the entries do to a state
module _ (capacity : ℕ) (x : SignalCell) (h : Shard) where
  abbrev full : Bool
  full = not (is_stored x h.state.cells) && nat_eq (length h.state.cells) capacity

  pub put-cells : after_put (contents capacity h.state.cells) x ≡ contents capacity (to_front x (with_room capacity x h).state.cells)
  put-cells = ap (λ l. contents capacity (to_front x l))
      (elim full as (λ t. cond t (all_but_last h.state.cells) h.state.cells ≡ (cond t (shard_without_cell (last_cell h.state.cells) h) h).state.cells) [
        | true ↦ evicted-cells h (last_cell h.state.cells) refl
        | false ↦ refl
      ])

  pub put-items : after_eviction (cond (pushes_out x (contents capacity h.state.cells)) (last_key h.state.cells) None) h.journal ≡ (with_room capacity x h).journal
  put-items = elim full as (λ t. after_eviction (cond t (last_key h.state.cells) None) h.journal ≡ (cond t (shard_without_cell (last_cell h.state.cells) h) h).journal) [
    | true ↦ evicted-items h (last_cell h.state.cells)
    | false ↦ refl
  ]

-- what a claim's end hands out
pub waiters-are : (o : Option (WaitedClaim Demand)) (ws : List Demand) → option_map (λ (c : WaitedClaim Demand). c.waiters) o ≡ Some ws → waiting_in o ≡ ws
waiters-are None ws k = absurd (cc k)
waiters-are (Some c) ws k = cc k

pub waiters-ask : (claims : Claims Demand) → AllByRecursion AsksThere claims → (p : Point) (o : Option (WaitedClaim Demand)) → claim_at claims p ≡ o → (ws : List Demand) → option_map (λ (c : WaitedClaim Demand). c.waiters) o ≡ Some ws
    → AllByRecursion (λ (w : Demand). next w.strand ≡ Ask p) ws
waiters-ask claims all p None e ws k = absurd (cc k)
waiters-ask claims all p (Some c) e ws k = let same : c.waiters ≡ ws = cc k in subst (AllByRecursion (λ (w : Demand). next w.strand ≡ Ask p)) same (tables.each-at AsksThere claims p c all e)

pub answers-all : (c : Circuit) (p : Point) (cell : Cell) → cell ≡ cell_at c p → (ws : List Demand) → AllByRecursion (λ (w : Demand). next w.strand ≡ Ask p) ws → AllByRecursion (λ (w : Demand). IsAskedCell c w.strand cell) ws
answers-all c p cell e [] h = tt
answers-all c p cell e (w ∷ ws) h = ((p, h.0, e), answers-all c p cell e ws h.1)

some-length : (claims : Claims Demand) (p : Point) (c : WaitedClaim Demand) → claim_at claims p ≡ Some c → 1 ≤ length claims
some-length [] p c h = absurd (cc h)
some-length (e ∷ es) p c h = omega arith

module _ (b : Batch) (opening : List SignalCell) (n : ℕ) (store : Contents) (claims : Claims Demand) (es : List Entry) (is : Agrees b opening n store claims es) where
  abbrev h : Shard
  h = shard_at opening es

  -- a strand is spent
  module _ (w : Demand) (known : demands.IsKnownStrand b w) (p : Point) (refuse : next_in false w.strand.roots w.strand.stack ≡ Ask p) (here : p.signal % b.shards ≡ n) (missed : stored_at h.state.cells p ≡ None) (free : holder h.state.claims p ≡ None) where
    abbrev held : ℕ
    held = length w.strand.stack

    spent-is : IsShard b n opening (shard_with_entry (entry.Spent w.strand.query.number p held) h)
    spent-is = let a = refused b w known p refuse in spent-shard b n opening h is.shard w.strand.query.number p (here, a.within) held a.needed a.claims missed free

    pub spent-agrees : Agrees b opening n store claims (es ++ entry.Spent w.strand.query.number p held ∷ [])
    spent-agrees = agrees-at b opening n is.lawful is.among (shard_with_entry (entry.Spent w.strand.query.number p held) h) spent-is store claims is.stored is.holders is.asks

    pub spent-shown : shown_with b opening n store claims es is (es ++ entry.Spent w.strand.query.number p held ∷ []) claims ≡ with_shard (shown b opening n store claims es is) (shard_with_entry (entry.Spent w.strand.query.number p held) h)
    spent-shown = ap (λ (k : Shard). record { number = n; shard = k; waiting = waits_in claims }) (shard-is b opening n (shard_with_entry (entry.Spent w.strand.query.number p held) h) spent-is)

  module _ (q : ℕ) (p : Point) (claim : holder h.state.claims p ≡ Some q) where
    known-query : OfQuery b q (λ y. Unit {0})
    known-query = let k = (ours b opening n store claims es is p q claim).1 in (k.0, k.1, k.2, tt)

    -- a claim is given up
    dropped-is : IsShard b n opening (shard_with_entry (entry.Dropped q p) h)
    dropped-is = dropped-shard b n opening h is.shard q p (ours b opening n store claims es is p q claim).0 known-query claim

    module _ (order : IsInOrder claims) where
      without-holders : (x : Point) → holder_in (without_claim claims p) x ≡ holder (states.without_point h.state.claims p) x
      without-holders x = tables.holder-without claims p x order ∙ ap (cond (same_point p x) None) (is.holders x) ∙ sym (holder-ended h.state.claims p x)

      pub dropped-agrees : Agrees b opening n store (without_claim claims p) (es ++ entry.Dropped q p ∷ [])
      dropped-agrees = agrees-at b opening n is.lawful is.among (shard_with_entry (entry.Dropped q p) h) dropped-is store (without_claim claims p) is.stored without-holders
          (tables.each-removed AsksThere (is_at (point_cmp p)) claims is.asks)

      pub leaves-none : (left : Claims Demand) → left ≡ without_claim claims p → (k : Shard) (l : Shard) → LeavesNone (record { number = n; shard = k; waiting = waits_in claims }) (record { number = n; shard = l; waiting = waits_in left }) p
      leaves-none left e k l x =
          waits-at left (subst IsInOrder (sym e) (ordered-without (is_at (point_cmp p)) claims order)) x ∙ ap (λ z. waiters_at z x) e ∙ tables.waiters-without claims p x order ∙ sym (ap (cond (same_point p x) []) (waits-at claims order x))

      lets-out : (waited : List Demand) → waiters_of claims p ≡ Some waited → (left : Claims Demand) → left ≡ without_claim claims p → (k l : Shard)
          → LetsOut (record { number = n; shard = k; waiting = waits_in claims }) (record { number = n; shard = l; waiting = waits_in left }) p waited
      lets-out waited e left rest k l = record {
        same = sym (waits-at claims order p ∙ waiters-are (claim_at claims p) waited e);
        number = refl;
        waiting = leaves-none left rest k l;
      }

      pub dropped-shown : (w : Demand) → w.strand.query.number ≡ q → (waited : List Demand) → waiters_of claims p ≡ Some waited → (left : Claims Demand) → left ≡ without_claim claims p
          → (fs : List Entry) → fs ≡ es ++ entry.Dropped q p ∷ [] → TakesBack (shown b opening n store claims es is) (shown_with b opening n store claims es is fs left) p w waited
      dropped-shown w number waited e left rest fs items = record {
        out = lets-out waited e left rest h (shard_at opening fs);
        shard = ap (shard_at opening) items ∙ shard-is b opening n (shard_with_entry (entry.Dropped q p) h) dropped-is ∙ ap (λ m. shard_with_entry (entry.Dropped m p) h) (sym number);
      }

      -- a point is filled
      abbrev x : SignalCell
      x = cell_for p (cell_at b.circuit p)

      abbrev k : Shard
      k = filled_shard b.capacity q p (cell_at b.circuit p) h

      filled-is : IsShard b n opening k
      filled-is = filled-keeps b n opening is.lawful.some_cell h is.shard q p (ours b opening n store claims es is p q claim).0 claim known-query

      pub filled-agrees : (left : Contents) → left ≡ after_put store x → Agrees b opening n left (without_claim claims p) k.journal
      filled-agrees left e = agrees-at b opening n is.lawful is.among k filled-is left (without_claim claims p)
          (e ∙ ap (λ (z : Contents). after_put z x) is.stored ∙ put-cells b.capacity x h)
          (λ y. without-holders y ∙ sym (ap (λ z. holder z y) (filled-claims b n opening is.lawful.some_cell h is.shard q p (ours b opening n store claims es is p q claim).0 claim)))
          (tables.each-removed AsksThere (is_at (point_cmp p)) claims is.asks)

      pub filled-items : (fs : List Entry) → fs ≡ after_eviction (cond (pushes_out x store) (last_key store.cells) None) es ++ entry.Filled q p (cell_at b.circuit p) ∷ [] → fs ≡ k.journal
      filled-items fs e = e ∙ ap (λ (z : Contents). after_eviction (cond (pushes_out x z) (last_key z.cells) None) es ++ entry.Filled q p (cell_at b.circuit p) ∷ []) is.stored
          ∙ ap (λ l. l ++ entry.Filled q p (cell_at b.circuit p) ∷ []) (put-items b.capacity x h)

      pub filled-shown : (w : Demand) → w.strand.query.number ≡ q → (cell : Cell) → cell ≡ cell_at b.circuit p → (waited : List Demand) → waiters_of claims p ≡ Some waited → (left : Claims Demand) → left ≡ without_claim claims p
          → (fs : List Entry) → fs ≡ k.journal → TakesCell b (shown b opening n store claims es is) (shown_with b opening n store claims es is fs left) p w cell waited
      filled-shown w number cell right waited e left rest fs items = record {
        right = right;
        out = lets-out waited e left rest h (shard_at opening fs);
        shard = ap (shard_at opening) items ∙ shard-is b opening n k filled-is ∙ ap (λ m. filled_shard b.capacity m p (cell_at b.circuit p) h) (sym number);
      }

    -- the cell of a claimed point fits the store
    pub filled-fits : (cell : Cell) → cell ≡ cell_at b.circuit p → FitsStore (cell_for p cell) store.cells
    filled-fits cell e =
        let right : IsRight b.circuit (cell_for p cell) = record { time = p.time; within = (ours b opening n store claims es is p q claim).0.1; cell = e } in
        subst (λ (z : Contents). FitsStore (cell_for p cell) z.cells) (sym is.stored) (right-fits b.circuit is.lawful.circuit (cell_for p cell) right h.state.cells is.shard.right)
