-- Freeing the claims that are left.
use Rattle.std.proofs.Common.{◌≡◌, ◌≢◌, ℕ, suc, ◌+◌, ◌<◌, Bool, true, false, List, [], ◌∷◌, ◌++◌, length, get_or, map, All, refl, sym, ap, subst, ◌∙◌, arith, inl, inr, Option, Some, None, append_assoc}
use Rattle.std.proofs.Math.ListN.{length-map}
use Rattle.std.proofs.lemmas.List.{append-nil}
use Rattle.std.proofs.lemmas.List.Elements.{recursion_from_All}
use Rattle.valid_intervals.specs.declared.Point.{Point}
use Rattle.valid_intervals.specs.declared.SignalCell.{SignalCell}
use Rattle.journal_meaning.specs.declared.Entry.{Entry}
use Rattle.journal_meaning.specs.declared.Entry.TheVariants.{Told, Claimed, Filled, Evicted, Dropped, Spent}
use Rattle.journal_meaning.specs.declared.batch.Query.{Query}
use Rattle.journal_meaning.specs.States.{Claim, holder, without_point}
use Rattle.journal_meaning.specs.States as states
use Rattle.journal_meaning.specs.Replay.{replay, IsAtEnd, IsLegalBatch}
use Rattle.journal_meaning.specs.Batches.{Batch}
use Rattle.journal_meaning.specs.Listed.{IsHome, AreHome}
use Rattle.journal_meaning.specs.Grown.{is_spent_of, refusals, GrowsBy, AreAdded}
use Rattle.journal_meaning.proofs.Callers.{holder-each, holder-without, without-other, cases_point, Ours, claims_ours, none_ours, Each, each-imply, added-each, added-more, count-none, refusals-more, legal-home}
use Rattle.journal_meaning.specs.Lawful.{IsLawful}
use Rattle.circuit_meaning.specs.Circuit.{Circuit}
use Rattle.plan_machine.specs.Shards.{Shard, IsShard, shard_with_entry}
use Rattle.plan_machine.specs.Plans.{no_shard}
use Rattle.plan_machine.specs.Sound.{IsFresh}
use Rattle.plan_machine.specs.Settle.{journals_of, entries_in, IsSettled, AreAllSettled, AreSettled, IsOrder, drop_of, shard_without, AreFreed, AreShards, AreAnswered, IsAnswered}
use Rattle.plan_machine.specs.Standings.{IsDrop}
use Rattle.plan_machine.specs.Settling.{settle}
use Rattle.plan_machine.proofs.Shards.{dropped-shard}
use Rattle.plan_machine.proofs.Journals.{journal-at}
use Rattle.plan_machine.proofs.Underway.{contains-cases, contains-none}
use Rattle.plan_machine.proofs.Settling.{settles}

module _ (b : Batch) (n : ℕ) (opening : List SignalCell) where
  -- each claim of a shard is of a point of it, for a query of the batch
  claims-ours : (h : Shard) → IsShard b n opening h → Each (λ c. Ours b n c.query c.point) h.state.claims
  claims-ours h is = subst (λ s. Each (λ c. Ours b n c.query c.point) s.claims) (sym is.state) (claims_ours b n h.journal (states.fresh opening) tt is.legal)

  -- what is left to be dropped
  order-rest : (h : Shard) (c : Claim) (order : List Claim) → IsOrder h.state.claims (c ∷ order) → IsOrder (shard_with_entry (drop_of c) h).state.claims order
  order-rest h c order o =
      let first : All (λ d. c.point ≢ d.point) order = λ k d l. o.different 0 (suc k) d (omega arith) (omega arith) in
      let apart : Each (λ d. c.point ≢ d.point) order = recursion_from_All (λ (d : Claim). c.point ≢ d.point) order first in
      record {
        claimed = still order apart o.claimed.1;
        different = λ i j d l m. o.different (suc i) (suc j) d (omega arith) (omega arith);
        all = λ p q h. elim (cases_point p c.point) [
          | inl e ↦ let none : holder (without_point claims c.point) p ≡ None = ap (holder (without_point claims c.point)) e.1 ∙ holder-without claims c.point in absurd (cc (none, h))
          | inr e ↦
              let k = o.all p q (sym (without-other claims c.point p e.1) ∙ h) in
              elim (contains-cases c order k.0 k.1) [
                | inl same ↦ absurd (e.1 (sym k.2 ∙ ap (λ (z : Claim). z.point) (sym same)))
                | inr l ↦ (k.0, l, k.2)
              ]
        ];
      }
    where
      claims : List Claim
      claims = h.state.claims

      still : (ds : List Claim) → Each (λ d. c.point ≢ d.point) ds → Each (λ d. holder h.state.claims d.point ≡ Some d.query) ds → Each (λ d. holder (without_point h.state.claims c.point) d.point ≡ Some d.query) ds
      still [] a k = tt
      still (d ∷ ds) a k = (without-other h.state.claims c.point d.point (λ e. a.0 (sym e)) ∙ k.0, still ds a.1 k.1)

  record IsFree (order : List Claim) (h new : Shard) : Type 0 where
    shard : IsShard b n opening new
    claims : new.state.claims ≡ []
    journal : new.journal ≡ h.journal ++ map drop_of order
    home : Each (IsHome b.shards n) (map drop_of order)

  frees : (order : List Claim) (h : Shard) → IsShard b n opening h → IsOrder h.state.claims order → IsFree order h (shard_without order h)
  frees [] h is o = record {
    shard = is;
    claims = none_ours b n h.state.claims (claims-ours h is) (λ p at. by p (holder h.state.claims p) refl);
    journal = sym (append-nil h.journal);
    home = tt;
  }
    where
      by : (p : Point) (k : Option ℕ) → holder h.state.claims p ≡ k → holder h.state.claims p ≡ None
      by p None e = e
      by p (Some q) e = let k = o.all p q e in absurd (contains-none k.0 [] refl k.1)
  frees (c ∷ order) h is o =
      let ours = holder-each (Ours b n) h.state.claims c.point c.query (claims-ours h is) o.claimed.0 in
      let next = shard_with_entry (drop_of c) h in
      let here : IsShard b n opening next = dropped-shard b n opening h is c.query c.point ours.0 (ours.1.0, ours.1.1, ours.1.2, tt) o.claimed.0 in
      let more = frees order next here (order-rest h c order o) in
      record {
        shard = more.shard;
        claims = more.claims;
        journal = more.journal ∙ append_assoc h.journal (drop_of c ∷ []) (map drop_of order);
        home = (ours.0.0, more.home);
      }

drops-are : (order : List Claim) → Each IsDrop (map drop_of order)
drops-are [] = tt
drops-are (c ∷ order) = (tt, drops-are order)

drop-refuses : (q : ℕ) (e : Entry) → IsDrop e → is_spent_of q e ≡ false
drop-refuses q (Told r p x) h = absurd h
drop-refuses q (Claimed r p) h = absurd h
drop-refuses q (Filled r p x) h = absurd h
drop-refuses q (Evicted signal start) h = absurd h
drop-refuses q (Dropped r p) h = refl
drop-refuses q (Spent r p held) h = absurd h

module _ (b : Batch) (lawful : IsLawful b) (opening : ℕ → List SignalCell) where
  -- after the claims are freed none is left, and only drops were recorded
  pub record Frees (old new : List Shard) : Type 0 where
    pub fresh : IsFresh b opening new
    pub added : List Entry
    pub journals : AreAdded (journals_of old) added (journals_of new)
    pub drops : Each IsDrop added

  shards-home : (shards : List Shard) → AreShards b opening shards → AreHome (journals_of shards)
  shards-home shards are = record {
    home = λ k low.
        let l : length (journals_of shards) ≡ length shards = length-map shards (λ (h : Shard). h.journal) in
        let c = are.count in
        let is = are.right k (omega arith) in
        let all : Each (IsHome b.shards k) (get_or shards k no_shard).journal = legal-home b k (states.fresh (opening k)) (get_or shards k no_shard).journal is.legal in
        subst (λ n. Each (IsHome n k) (get_or (journals_of shards) k [])) (sym (l ∙ c)) (subst (Each (IsHome b.shards k)) (sym (journal-at shards k)) all);
  }

  pub all-freed : (old new : List Shard) → AreShards b opening old → AreFreed old new → Frees old new
  all-freed old new are f =
      let c = are.count in
      let count : length new ≡ b.shards = f.count ∙ c in
      let lo : length (journals_of old) ≡ length old = length-map old (λ (h : Shard). h.journal) in
      let ln : length (journals_of new) ≡ length new = length-map new (λ (h : Shard). h.journal) in
      let free = λ (k : ℕ) (low : k < length old).
      let o = f.order k low in
      let r = frees b k (opening k) o.0 (get_or old k no_shard) (are.right k (omega arith)) o.1 in
      let z : IsFree b k (opening k) o.0 (get_or old k no_shard) (get_or new k no_shard) = subst (IsFree b k (opening k) o.0 (get_or old k no_shard)) (sym o.2) r in z in
      let a = added-each IsDrop (journals_of old) (journals_of new) (shards-home old are) (ln ∙ f.count ∙ sym lo) (λ k low.
      let l : k < length old = omega arith in
      let o = f.order k l in
      let r = free k l in (
        map drop_of o.0,
        journal-at new k ∙ r.journal ∙ ap (λ z. z ++ map drop_of o.0) (sym (journal-at old k)),
        subst (λ m. Each (IsHome m k) (map drop_of o.0)) (sym (lo ∙ c)) r.home,
        drops-are o.0,
      )) in
      record {
        fresh = record {
          count = count;
          right = λ k low. (free k (omega arith)).shard;
          free = λ k low. (free k (omega arith)).claims;
        };
        added = a.0;
        journals = a.1;
        drops = a.2;
      }

  -- drops refuse nothing
  settled-before : (c : Circuit) (handed added start now : List Entry) → GrowsBy handed added start → Each IsDrop added → (q : Query) (r : Bool) → IsSettled c q start now r → IsSettled c q handed now r
  settled-before c handed added start now g drops q r s = by r s
    where
      same : refusals start q.number ≡ refusals handed q.number
      same =
          let k = refusals-more handed added start g q.number in
          let l : refusals added q.number ≡ 0 = count-none (is_spent_of q.number) added (each-imply IsDrop (λ e. is_spent_of q.number e ≡ false) (drop-refuses q.number) added drops) in
          omega arith

      by : (r : Bool) → IsSettled c q start now r → IsSettled c q handed now r
      by false s = (s.0, s.1 ∙ same)
      by true s = (s.0, s.1 ∙ ap (λ n. n + 1) same)

  pub all-before : (c : Circuit) (handed added start now : List Entry) → GrowsBy handed added start → Each IsDrop added → (qs : List Query) (rs : List Bool) → AreAllSettled c start now qs rs → AreAllSettled c handed now qs rs
  all-before c handed added start now g drops [] [] h = tt
  all-before c handed added start now g drops [] (r ∷ rs) h = absurd h
  all-before c handed added start now g drops (q ∷ qs) [] h = absurd h
  all-before c handed added start now g drops (q ∷ qs) (r ∷ rs) h = (settled-before c handed added start now g drops q r h.0, all-before c handed added start now g drops qs rs h.1)

  -- settlement of the shards that are handed in
  pub settles-handed : b.site ≡ None → (handed start : List Shard) → AreShards b opening handed → AreFreed handed start → AreSettled b opening handed (settle b start).shards (settle b start).refused
  settles-handed site handed start are f =
      let r = all-freed handed start are f in
      let s = settles b lawful opening site start r.fresh in
      let new = (settle b start).shards in
      record {
        fresh = s.fresh;
        added = r.added ++ s.added;
        journals = added-more (journals_of handed) r.added (journals_of start) s.added (journals_of new) r.journals s.journals;
        queries = all-before b.circuit (entries_in handed) r.added (entries_in start) (entries_in new) r.journals.together r.drops b.queries (settle b start).refused s.queries;
      }

-- settled shards are legal to their end, and answer the queries
answered : (c : Circuit) (old now : List Entry) (qs : List Query) (rs : List Bool) → AreAllSettled c old now qs rs → AreAnswered c now qs rs
answered c old now [] [] h = tt
answered c old now [] (r ∷ rs) h = absurd h
answered c old now (q ∷ qs) [] h = absurd h
answered c old now (q ∷ qs) (false ∷ rs) h = ((refl, h.0.0), answered c old now qs rs h.1)
answered c old now (q ∷ qs) (true ∷ rs) h = (h.0.0, answered c old now qs rs h.1)

pub settled-answered : (b : Batch) (opening : ℕ → List SignalCell) (old new : List Shard) (refused : List Bool) → AreSettled b opening old new refused → IsAnswered b opening new refused
settled-answered b opening old new refused s = record {
  legal = record {
    count = length-map new (λ (h : Shard). h.journal) ∙ s.fresh.count;
    legal = λ k low.
        let is = s.fresh.right k low in
        let es = (get_or new k no_shard).journal in
        let state : (get_or new k no_shard).state ≡ replay (states.fresh (opening k)) es = is.state in
        let one : IsLegalBatch b k (opening k) es = record {
          legal = is.legal;
          ended = subst IsAtEnd state (record { claims = s.fresh.free k low; made = is.made });
        } in
        subst (IsLegalBatch b k (opening k)) (sym (journal-at new k)) one;
  };
  answers = answered b.circuit (entries_in old) (entries_in new) b.queries refused s.queries;
}
