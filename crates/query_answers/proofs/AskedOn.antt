-- What stays while a query is asked for, one point after another.
use Rattle.std.proofs.Common.{◌≡◌, ℕ, Bool, false, List, All, Contains, None, Option, Some, IfSome, refl, sym, ap, subst, ◌∙◌, inl, inr, arith}
use Rattle.std.proofs.lemmas.List.Elements.{All-nil, All-weaker, All-contains_itself}
use Rattle.valid_intervals.specs.declared.Point.{Point}
use Rattle.valid_intervals.specs.declared.SignalCell.{SignalCell}
use Rattle.circuit_meaning.specs.Circuit.{Circuit}
use Rattle.circuit_meaning.specs.Need.{IsEvaluable, IsRoot}
use Rattle.journal_meaning.specs.declared.Entry.{Entry}
use Rattle.journal_meaning.specs.declared.batch.Query.{Query}
use Rattle.journal_meaning.specs.Answers.{IsCovered}
use Rattle.journal_meaning.specs.Batches.{Batch, IsNeededBy, window_of}
use Rattle.journal_meaning.specs.Lawful.{IsLawful}
use Rattle.journal_meaning.specs.Listed.{IsRightEntry}
use Rattle.journal_meaning.specs.Pieces.{Start, IsStart}
use Rattle.plan_machine.specs.Shards.{Shard}
use Rattle.plan_machine.specs.Settle.{Standing, entries_in, charge_of, child_start, sub_query}
use Rattle.plan_machine.specs.Standings.{IsStanding, IsAskedFor, Advances, Reaches}
use Rattle.plan_machine.proofs.Callers.{stays, then, child-asked, child-start, asked-reaches, right-of}
use Rattle.memo_shards.specs.KeptShards.{KeptShard}
use Rattle.plan_core.specs.Parts.{shards_in}
use Rattle.plan_core.specs.asked.Asked.{HasAsked, AsksOn, Nothing, Needed}
use Rattle.plan_core.specs.asked.Memos.{AreFreeShards, entries_of, asked_at}
use Rattle.plan_core.specs.asked.Standings.{live, standing}
use Rattle.plan_core.proofs.Callers.{asks-then}
use Rattle.query_answers.specs.asking.inner.AskedMemos.{AskedMemo, GoesOnAsking, start_for, shards_left}
use Rattle.query_answers.proofs.Pins.{root-needed-by}

-- what is covered stays covered where entries stay
pub covered-kept : (c : Circuit) (es fs : List Entry) → ((e : Entry) → Contains es e → Contains fs e) → (p : Point) → IsCovered c es p → IsCovered c fs p
covered-kept c es fs f p (inl never) = inl never
covered-kept c es fs f p (inr h) = inr (h.0, f h.0 h.1, h.2)

module _ (b : Batch) (opening : ℕ → List SignalCell) where
  entries-stay : (q : Query) (old : List Shard) (was : Bool) (new : List Shard) (r : Bool) → AsksOn b opening q old was new r → (e : Entry) → Contains (entries_in old) e → Contains (entries_in new) e
  entries-stay q old was new r Nothing e m = m
  entries-stay q old was new r (Needed k x need h) e m = h.journals.together.old_stay e (entries-stay q old was _ false k e m)

  -- nothing is asked for
  pub asking-stays : (a : AskedMemo) → GoesOnAsking b opening a a false
  asking-stays a = record { query = refl; asks = Nothing }

  -- one point is asked for
  pub asking-point : (old new : AskedMemo) (r : Bool) (p : Point) → new.query ≡ old.query → (IsEvaluable b.circuit p.signal p.time → IsNeededBy b old.query p) → HasAsked b opening (start_for old p) (shards_in old.memo) (shards_in new.memo) r → GoesOnAsking b opening old new r
  asking-point old new r p same need h = record { query = same; asks = Needed Nothing p need h }

  -- what is asked for by another name of the query
  pub asked-by : (old : AskedMemo) (new : List Shard) (r : Bool) (p : Point) (q : Query) → old.query ≡ q → HasAsked b opening (start_for old p) (shards_in old.memo) new r → HasAsked b opening (child_start q p (charge_of (entries_of old.memo) q)) (shards_in old.memo) new r
  asked-by old new r p q same h = subst (λ (k : Query). HasAsked b opening (child_start k p (charge_of (entries_of old.memo) k)) (shards_in old.memo) new r) same h

  pub starts-by : (old : AskedMemo) (p : Point) (q : Query) → old.query ≡ q → IsStart b (child_start q p (charge_of (entries_of old.memo) q)) → IsStart b (start_for old p)
  starts-by old p q same h = subst (λ (k : Query). IsStart b (child_start k p (charge_of (entries_of old.memo) k))) (sym same) h

  -- what was asked for, as it was seen before
  pub asked-as : (memo : Option (List KeptShard)) (q : Query) (charge : ℕ) (old : AskedMemo) → record { memo = shards_left memo; query = q } ≡ old → charge ≡ charge_of (entries_of (shards_left memo)) q → (ms : List KeptShard) → memo ≡ Some ms → (new : List Shard) (r : Bool) (p : Point)
      → HasAsked b opening (asked_at (sub_query q p) p.time charge) (shards_in ms) new r → HasAsked b opening (start_for old p) (shards_in old.memo) new r
  asked-as memo q charge old seen counts ms is new r p h =
      subst (λ (a : AskedMemo). HasAsked b opening (start_for a p) (shards_in a.memo) new r) seen
      (subst (λ n. HasAsked b opening (child_start q p n) (shards_in (shards_left memo)) new r) counts
      (subst (λ (l : List KeptShard). HasAsked b opening (child_start q p charge) (shards_in l) new r) (ap shards_left (sym is)) h))

  -- and then more
  pub asking-then : (old mid new : AskedMemo) (r : Bool) → GoesOnAsking b opening old mid false → GoesOnAsking b opening mid new r → GoesOnAsking b opening old new r
  asking-then old mid new r f g = record {
    query = g.query ∙ f.query;
    asks = asks-then b opening old.query (shards_in old.memo) false (shards_in mid.memo) (shards_in new.memo) r f.asks (subst (λ q. AsksOn b opening q (shards_in mid.memo) false (shards_in new.memo) r) f.query g.asks);
  }

  -- what is asked for once it was turned to a query
  pub turned-asking : (old : AskedMemo) (ms : List KeptShard) (q : Query) → old ≡ record { memo = ms; query = q } → (new : AskedMemo) (r s : Bool) → r ≡ s → GoesOnAsking b opening old new r → GoesOnAsking b opening (record { memo = ms; query = q }) new s
  turned-asking old ms q turned new r s same g = subst (λ (a : AskedMemo). GoesOnAsking b opening a new s) turned (subst (GoesOnAsking b opening old new) same g)

  -- no entry is lost
  pub asking-grows : (old new : AskedMemo) (r : Bool) → GoesOnAsking b opening old new r → (e : Entry) → Contains (entries_of old.memo) e → Contains (entries_of new.memo) e
  asking-grows old new r g = entries-stay old.query (shards_in old.memo) false (shards_in new.memo) r g.asks

  -- what was covered stays covered
  pub asking-covers : (old new : AskedMemo) (r : Bool) → GoesOnAsking b opening old new r → (p : Point) → IsCovered b.circuit (entries_of old.memo) p → IsCovered b.circuit (entries_of new.memo) p
  asking-covers old new r g = covered-kept b.circuit (entries_of old.memo) (entries_of new.memo) (asking-grows old new r g)

  -- each entry is right
  pub entries-right : IsLawful b → (memo : Option (List KeptShard)) → IfSome memo (AreFreeShards b opening) → All (IsRightEntry b.circuit) (entries_of (shards_left memo))
  entries-right lawful None free = All-nil (IsRightEntry b.circuit)
  entries-right lawful (Some ms) free = All-weaker (Contains (entries_of ms)) (IsRightEntry b.circuit) (right-of b lawful opening (shards_in ms) free.fresh) (entries_of ms) (All-contains_itself (entries_of ms))

module _ (b : Batch) (lawful : IsLawful b) (opening : ℕ → List SignalCell) (q : Query) (start : List Entry) (first : List Shard) where
  abbrev at : List Shard → Bool → Standing
  at shards r = record { shards = shards; refused = r }

  -- one point was asked for
  pub has-reached : (old new : List Shard) (r : Bool) (x : Point) (a : Start) → IsStanding b opening q start first (at old false) → IsAskedFor q (entries_in old) x a → HasAsked b opening a old new r → Reaches b opening q start first (at old false) x (at new r)
  has-reached old new r x a s for h =
      subst (λ f. Reaches b opening q start first (at old false) x (at new f)) (sym h.flag)
      (asked-reaches b lawful opening q start first (at old false) s refl x a for new h.refused_at
      (record { fresh = h.fresh; added = h.added; journals = h.journals; own = h.own; children = h.children; outcome = h.outcome }))

  -- settlement advances by all that is asked for
  pub asks-advance : (old : List Shard) (was : Bool) (new : List Shard) (r : Bool) → was ≡ false → AsksOn b opening q old was new r → IsStanding b opening q start first (at old false) → Advances b opening q start first (at old false) (at new r)
  asks-advance old was new r e Nothing s = subst (λ f. Advances b opening q start first (at old false) (at old f)) (sym e) (stays b opening q start first (at old false) s)
  asks-advance old was new r e (Needed {now} k x need h) s =
      let a = asks-advance old was now false e k s in
      then b opening q start first (at old false) (at now false) (at new r) a (has-reached now new r x _ a.stands (child-asked q (entries_in now) x) h).0

-- a root of its window is asked for
module _ (b : Batch) (lawful : IsLawful b) (opening : ℕ → List SignalCell) (site : b.site ≡ None) (q : Query) (known : Contains b.queries q) (old : AskedMemo) (same : old.query ≡ q) (t : ℕ) (root : IsRoot b.circuit (window_of q) t) where
  abbrev x : Point
  x = record { signal = q.signal; time = t }

  needed : IsEvaluable b.circuit q.signal t → IsNeededBy b old.query x
  needed e = subst (λ (k : Query). IsNeededBy b k x) (sym same) (root-needed-by b q site t root e)

  pub root-starts : IsEvaluable b.circuit q.signal t → IsStart b (start_for old x)
  root-starts e = child-start b lawful old.query (subst (Contains b.queries) (sym same) known) x (needed e) e (charge_of (entries_of old.memo) old.query) (omega arith)

  module _ (new : AskedMemo) (r : Bool) (h : HasAsked b opening (start_for old x) (shards_in old.memo) (shards_in new.memo) r) where
    pub root-goes-on : new.query ≡ old.query → GoesOnAsking b opening old new r
    root-goes-on stays = asking-point b opening old new r x stays needed h

    pub root-reached : (start : List Entry) (first : List Shard) → IsStanding b opening q start first (live old.memo) → Reaches b opening q start first (live old.memo) x (standing new.memo r)
    root-reached start first s =
        has-reached b lawful opening q start first (shards_in old.memo) (shards_in new.memo) r x (start_for old x) s
        (subst (λ (k : Query). IsAskedFor q (entries_of old.memo) x (child_start k x (charge_of (entries_of old.memo) k))) (sym same) (child-asked q (entries_of old.memo) x)) h
