-- One strand alone over the shards in hand.
use Rattle.std.proofs.Common.{◌≡◌, ℕ, zero, suc, ◌+◌, ◌<◌, ◌≤◌, min, false, List, [], ◌∷◌, ◌++◌, length, get_or, All, Bool, Option, Some, None, Result, Ok, Err, IfOk, IfNone, IfSome, refl, sym, ap, subst, ◌∙◌, arith, inl, inr, length-append}
use Rattle.std.proofs.lemmas.List.Elements.{Contains-append_right, recursion_from_All}
use Rattle.std.proofs.lemmas.Option.{slice_get_within, slice_get-get_or, get_or_from_slice_get}
use Rattle.std.proofs.Math.ListN.{length-map}
use Rattle.valid_intervals.specs.declared.Cell.{Cell}
use Rattle.valid_intervals.specs.declared.Point.{Point}
use Rattle.valid_intervals.specs.declared.SignalCell.{SignalCell}
use Rattle.circuit_meaning.specs.Need.{IsEvaluable}
use Rattle.journal_meaning.specs.declared.Entry.{Entry}
use Rattle.journal_meaning.specs.declared.batch.Query.{Query}
use Rattle.journal_meaning.specs.Batches.{Batch}
use Rattle.journal_meaning.specs.Answers.{IsCovered, fill_count, is_fill_of}
use Rattle.journal_meaning.specs.Listed.{IsRightEntry}
use Rattle.journal_meaning.specs.Grown.{AreAdded}
use Rattle.journal_meaning.specs.Index.{cells_said, IsFound, IsCellIndex}
use Rattle.journal_meaning.proofs.Callers.{found-said, said-found, Each}
use Rattle.journal_meaning.specs.Lawful.{IsLawful}
use Rattle.plan_machine.specs.Strands.{Strand, IsStrand, started_strand}
use Rattle.journal_meaning.specs.Pieces.{Start, IsStart}
use Rattle.plan_machine.proofs.Callers.{started-right, right-of}
use Rattle.plan_machine.specs.Shards.{Shard}
use Rattle.plan_machine.specs.Plans.{no_shard}
use Rattle.plan_machine.specs.Sound.{IsFresh}
use Rattle.plan_machine.specs.Settle.{journals_of}
use Rattle.demand_points.specs.Demands.{Demand}
use Rattle.memo_shards.specs.KeptShards.{KeptShard}
use Rattle.plan_core.specs.Parts.{AreInOrder, AreFreshStrands, AreFree, IsFreshStrand, shards_in}
use Rattle.plan_core.specs.asked.Shards.{AreNumbered}
use Rattle.plan_core.specs.asked.Memos.{IsChargedMemo, entries_of, is_missing}
use Rattle.plan_core.specs.asked.inner.Tails.{lengths_of, tails}
use Rattle.plan_core.proofs.AskedIndex.{SameEntries, index-same}
use Rattle.plan_core.proofs.Entries.{shard-at, lengths-at, regroup, HaveGrown, filled-append}
use Rattle.plan_core.proofs.AskedLists.{each-from}

-- the plan's word for shards in order, and the one here
in-order : (ms : List KeptShard) → AreNumbered ms → AreInOrder ms
in-order ms numbers i m e = subst (λ (x : KeptShard). x.number ≡ i) (get_or_from_slice_get ms i m m e) (numbers i m (slice_get_within ms i m e))

-- and back
pub numbered : (ms : List KeptShard) → AreInOrder ms → AreNumbered ms
numbered ms order n d low = order n (get_or ms n d) (slice_get-get_or ms n d low)

-- shards without claims are free
pub free-shards : (b : Batch) (opening : ℕ → List SignalCell) (ms : List KeptShard) → AreNumbered ms → IsFresh b opening (shards_in ms) → AreFree b ms
free-shards b opening ms numbers fresh = record {
  count = sym (length-map ms (λ (m : KeptShard). m.shard)) ∙ fresh.count;
  order = in-order ms numbers;
  free = recursion_from_All (λ (m : KeptShard). m.shard.state.claims ≡ []) ms free;
}
  where
    free : All (λ (m : KeptShard). m.shard.state.claims ≡ []) ms
    free k d low =
        let count = fresh.count in
        let l : length (shards_in ms) ≡ length ms = length-map ms (λ (m : KeptShard). m.shard) in
        subst (λ (h : Shard). h.state.claims ≡ []) (shard-at ms k d no_shard low) (fresh.free k (omega arith))

-- one strand that starts is new
pub new-strand : (b : Batch) (a : Start) → IsStart b a → (s : Demand) → s.number ≡ 0 → s.strand ≡ started_strand b.circuit a → AreFreshStrands b (s ∷ [])
new-strand b a start s number is zero r e =
    let same : s ≡ r = cc e in
    subst (IsFreshStrand b 0) same (record {
      number = number;
      strand = subst (IsStrand b) (sym is) (started-right b a start);
      empty = ap (λ (t : Strand). t.stack) is;
      awake = ap (λ (t : Strand). t.waits) is;
    })
new-strand b a start s number is (suc i) r e = absurd (cc e)

-- each entry of shards without claims is right
pub entries-right : (b : Batch) → IsLawful b → (opening : ℕ → List SignalCell) (ms : List KeptShard) → IsFresh b opening (shards_in ms) → Each (IsRightEntry b.circuit) (entries_of ms)
entries-right b lawful opening ms fresh = each-from (IsRightEntry b.circuit) (entries_of ms) (right-of b lawful opening (shards_in ms) fresh)

-- What stands after each journal once entries were added.
module _ (b : Batch) (lawful : IsLawful b) (opening : ℕ → List SignalCell) (old new : List KeptShard) (added : List Entry) (j : AreAdded (journals_of (shards_in old)) added (journals_of (shards_in new))) where
  lengths-same : length new ≡ length old
  lengths-same =
      let c = j.shards in
      let a = length-map (shards_in new) (λ (h : Shard). h.journal) in
      let d = length-map (shards_in old) (λ (h : Shard). h.journal) in
      let e = length-map new (λ (m : KeptShard). m.shard) in
      let f = length-map old (λ (m : KeptShard). m.shard) in
      omega arith

  grown : HaveGrown old new
  grown = λ k. let l = j.lists k in (l.more, l.longer)

  journal-of : (ms : List KeptShard) (k : ℕ) (e : KeptShard) → k < length ms → get_or (journals_of (shards_in ms)) k [] ≡ (get_or ms k e).shard.journal
  journal-of [] k e low = absurd (omega arith)
  journal-of (m ∷ ms) zero e low = refl
  journal-of (m ∷ ms) (suc k) e low = journal-of ms k e (omega arith)

  -- each journal is at least as long as it was
  pub read-longer : (k d : ℕ) (e : KeptShard) → k < length (lengths_of old) → get_or (lengths_of old) k d ≤ length (get_or new k e).shard.journal
  read-longer k d e low =
      let c = lengths-same in
      let l = length-map old (λ (m : KeptShard). length m.shard.journal) in
      let at = lengths-at old k d e (omega arith) in
      let h = grown k in
      let is : (get_or new k e).shard.journal ≡ (get_or old k e).shard.journal ++ h.0 = sym (journal-of new k e (omega arith)) ∙ h.1 ∙ ap (λ z. z ++ h.0) (journal-of old k e (omega arith)) in
      let n = ap length is ∙ length-append (get_or old k e).shard.journal h.0 in
      omega arith

  -- there are as many lengths as journals
  pub read-count : length (lengths_of old) ≡ length new
  read-count = length-map old (λ (m : KeptShard). length m.shard.journal) ∙ sym lengths-same

  same : SameEntries (entries_of old ++ tails (lengths_of old) new) (entries_of new)
  same = regroup old new lengths-same grown

  -- what was added is right
  pub tails-right : IsFresh b opening (shards_in new) → Each (IsRightEntry b.circuit) (tails (lengths_of old) new)
  tails-right fresh = each-from (IsRightEntry b.circuit) (tails (lengths_of old) new) (λ e h. right-of b lawful opening (shards_in new) fresh e (same.to e (Contains-append_right (entries_of old) (tails (lengths_of old) new) e h)))

  -- the index with what was added
  pub index-on : (index after : Point → Option Cell) → IsFresh b opening (shards_in new) → IsCellIndex b.circuit (cells_said (entries_of old)) index
      → ((es : List Entry) → IsCellIndex b.circuit (cells_said es) index → Each (IsRightEntry b.circuit) (tails (lengths_of old) new) → IsCellIndex b.circuit (cells_said (es ++ tails (lengths_of old) new)) after)
      → IsCellIndex b.circuit (cells_said (entries_of new)) after
  index-on index after fresh i read = index-same b.circuit after (entries_of old ++ tails (lengths_of old) new) (entries_of new) same (read (entries_of old) i (tails-right fresh))

  -- what the query is charged then
  pub charged-on : (q : Query) (charge more : ℕ) → IsChargedMemo b opening old q charge → AreNumbered new → IsFresh b opening (shards_in new) → more ≡ min (charge + fill_count (tails (lengths_of old) new) q.number) q.budget → IsChargedMemo b opening new q more
  charged-on q charge more a numbers fresh counts = record {
    kept = record { numbers = numbers; fresh = fresh };
    counts =
        let n = a.counts in
        let s = same.counts (is_fill_of q.number) in
        let t = filled-append (entries_of old) (tails (lengths_of old) new) q.number in
        let u : fill_count (entries_of new) q.number ≡ fill_count (entries_of old) q.number + fill_count (tails (lengths_of old) new) q.number = sym s ∙ t in
        omega arith;
  }

-- what is found is covered
pub covered-found : (b : Batch) (es : List Entry) (x : Point) → IsFound (cells_said es) x → IsCovered b.circuit es x
covered-found b es x h = inr (found-said x es h)

-- what is covered and has no base answer is found
pub found-covered : (b : Batch) (es : List Entry) (x : Point) → IsEvaluable b.circuit x.signal x.time → IsCovered b.circuit es x → IsFound (cells_said es) x
found-covered b es x e (inl h) = absurd (h e)
found-covered b es x e (inr h) = said-found x es h

-- a look-up finds what is there
not-missing : (o : Option Cell) (P : Type 0) → IfNone o (P → ⊥) → P → is_missing o ≡ false
not-missing None P h p = absurd (h p)
not-missing (Some x) P h p = refl

-- nor is it missing from what a look-up gives that may run out of memory
pub missing-none : {E : Type 0} (r : Result (Option Cell) E) (F : Type 0) → IfOk r (λ o. IfNone o (F → ⊥)) → F → (P : Bool → Type 0) → P false → IfOk r (λ o. P (is_missing o))
missing-none (Ok o) F h f P p = subst P (sym (not-missing o F h f)) p
missing-none (Err e) F h f P p = tt

-- what holds where nothing was found
pub none-of : (o : Option Cell) (P : Type 0) → IfNone o P → o ≡ None → P
none-of None P h e = h
none-of (Some x) P h e = absurd (cc e)

-- what holds of what was found
pub some-of : {A : Type 0} (P : A → Type 0) (o : Option A) (x : A) → IfSome o P → o ≡ Some x → P x
some-of P None x h e = absurd (cc e)
some-of P (Some y) x h e = let same : y ≡ x = cc e in subst P same h
