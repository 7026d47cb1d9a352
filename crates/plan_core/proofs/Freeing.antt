-- The claims of the shards in hand are freed.
use Rattle.std.proofs.Common.{◌≡◌, ◌≢◌, ℕ, ◌<◌, true, true≢false, List, [], ◌∷◌, length, get_or, map, All, AllPairs, Contains, Some, refl, sym, ap, subst, ◌∙◌, arith}
use Rattle.std.proofs.Math.ListN.{length-map}
use Rattle.std.proofs.lemmas.Bool.Decides.{nat_tests}
use Rattle.std.proofs.lemmas.List.Kept.{AllPairs-cons}
use Rattle.std.proofs.lemmas.List.Elements.{All-from_recursion}
use Rattle.std.specs.Ordering.{is_eq}
use Rattle.std.specs.declared.cmp.Ordering.TheVariants.{Less}
use Rattle.std.specs.List.{AllByRecursion}
use Rattle.std.specs.List.Sorted.{IsStrictlySortedBy}
use Rattle.valid_intervals.specs.declared.Point.{Point}
use Rattle.valid_intervals.specs.declared.SignalCell.{SignalCell}
use Rattle.journal_meaning.specs.declared.Entry.TheVariants.{Dropped}
use Rattle.journal_meaning.specs.States.{Claim, holder}
use Rattle.journal_meaning.specs.Batches.{Batch}
use Rattle.journal_meaning.proofs.Callers.{Each, each-imply, holder-each, claim-here, claim-other}
use Rattle.journal_meaning.specs.Lawful.{IsLawful}
use Rattle.plan_machine.specs.Shards.{Shard, IsShard, shard_with_entry}
use Rattle.plan_machine.specs.Plans.{no_shard}
use Rattle.plan_machine.specs.Sound.{IsFresh}
use Rattle.plan_machine.specs.Settle.{AreShards, AreFreed, IsOrder, drop_of, shard_without}
use Rattle.plan_machine.proofs.Callers.{all-freed}
use Rattle.valid_intervals.specs.Cells.{point_cmp}
use Rattle.memo_shards.specs.KeptShards.{KeptShard, IsKnownShard}
use Rattle.memo_shards.specs.Ends.{FreesAll, recorded_all}
use Rattle.plan_core.specs.Parts.{shards_in}
use Rattle.plan_core.specs.asked.Shards.{AreNumbered}
use Rattle.plan_core.proofs.Entries.{shard-at}
use Rattle.plan_core.proofs.AskedLists.{each-from}

-- the shards in hand are those of the batch
pub known-shards : (b : Batch) (opening : ℕ → List SignalCell) (ms : List KeptShard) → length ms ≡ b.shards → AreNumbered ms → All (IsKnownShard b opening) ms → AreShards b opening (shards_in ms)
known-shards b opening ms count numbers known = record {
  count = length-map ms (λ (m : KeptShard). m.shard) ∙ count;
  right = λ n low. by n (omega arith) ms count numbers known;
}
  where
    by : (n : ℕ) → n < b.shards → (ms : List KeptShard) → length ms ≡ b.shards → AreNumbered ms → All (IsKnownShard b opening) ms → IsShard b n (opening n) (get_or (shards_in ms) n no_shard)
    by n low [] count numbers known = absurd (omega arith)
    by n low (m ∷ ms) count numbers known =
        let k = known n m (omega arith) in
        let number : (get_or (m ∷ ms) n m).number ≡ n = numbers n m (omega arith) in
        subst (IsShard b n (opening n)) (sym (shard-at (m ∷ ms) n m no_shard (omega arith))) (subst (λ j. IsShard b j (opening j) (get_or (m ∷ ms) n m).shard) number k.shard)

-- claims in order are of different points
less-apart : (a b : Point) → point_cmp a b ≡ Less → a ≢ b
less-apart a b e same =
    let k : point_cmp a a ≡ Less = subst (λ x. point_cmp a x ≡ Less) (sym same) e in
    let itself : is_eq (point_cmp a a) ≡ true = grind (arith, nat_tests) in
    true≢false (sym itself ∙ ap is_eq k)

abbrev points : List Claim → List Point
points cs = map (λ (c : Claim). c.point) cs

apart-from : (p : Point) (cs : List Claim) → AllByRecursion (λ y. point_cmp p y ≡ Less) (points cs) → Each (λ (d : Claim). p ≢ d.point) cs
apart-from p [] h = tt
apart-from p (d ∷ cs) h = (less-apart p d.point h.0, apart-from p cs h.1)

all-different : (cs : List Claim) → IsStrictlySortedBy point_cmp (points cs) → AllPairs (λ (a b : Claim). a.point ≢ b.point) cs
unfolding IsStrictlySortedBy
all-different [] h = λ i j d l m. absurd (omega arith)
all-different (c ∷ cs) h = AllPairs-cons (λ (a b : Claim). a.point ≢ b.point) c cs (All-from_recursion (λ (d : Claim). c.point ≢ d.point) cs (apart-from c.point cs h.0)) (all-different cs h.1)

all-held : (cs : List Claim) → IsStrictlySortedBy point_cmp (points cs) → Each (λ (c : Claim). holder cs c.point ≡ Some c.query) cs
unfolding IsStrictlySortedBy
all-held [] h = tt
all-held (c ∷ cs) h = (claim-here cs c.point c.query, more cs (apart-from c.point cs h.0) (all-held cs h.1))
  where
    more : (ds : List Claim) → Each (λ (d : Claim). c.point ≢ d.point) ds → Each (λ (d : Claim). holder cs d.point ≡ Some d.query) ds → Each (λ (d : Claim). holder (c ∷ cs) d.point ≡ Some d.query) ds
    more [] a k = tt
    more (d ∷ ds) a k = (claim-other cs c.point d.point c.query (λ e. a.0 (sym e)) ∙ k.0, more ds a.1 k.1)

recorded-freed : (cs : List Claim) (h : Shard) → recorded_all (map (λ (c : Claim). Dropped c.query c.point) cs) h ≡ shard_without cs h
recorded-freed [] h = refl
recorded-freed (c ∷ cs) h = recorded-freed cs (shard_with_entry (drop_of c) h)

module _ (old new : KeptShard) (f : FreesAll old new) where
  freed-order : IsOrder old.shard.state.claims f.claims
  freed-order = record {
    claimed = each-imply (λ (c : Claim). holder f.claims c.point ≡ Some c.query) (λ (c : Claim). holder old.shard.state.claims c.point ≡ Some c.query) (λ c h. sym (f.all c.point) ∙ h) f.claims (all-held f.claims f.order);
    different = all-different f.claims f.order;
    all = λ p q h. holder-each (λ n x. (c : Claim) × Contains f.claims c × (c.point ≡ x)) f.claims p q (each-from (λ (d : Claim). (c : Claim) × Contains f.claims c × (c.point ≡ d.point)) f.claims (λ d k. (d, k, refl))) (f.all p ∙ h);
  }

  freed-shard : new.shard ≡ shard_without f.claims old.shard
  freed-shard = f.shard ∙ recorded-freed f.claims old.shard

-- all claims of the shards are freed, in an order that names each once
pub shards-freed : (old new : List KeptShard) → length new ≡ length old → ((n : ℕ) (d : KeptShard) → n < length old → FreesAll (get_or old n d) (get_or new n d)) → AreFreed (shards_in old) (shards_in new)
shards-freed old new count f = record {
  count = length-map new (λ (m : KeptShard). m.shard) ∙ count ∙ sym (length-map old (λ (m : KeptShard). m.shard));
  order = λ n low. by old new count f n (let l = length-map old (λ (m : KeptShard). m.shard) in omega arith);
}
  where
    by : (old new : List KeptShard) → length new ≡ length old → ((n : ℕ) (d : KeptShard) → n < length old → FreesAll (get_or old n d) (get_or new n d)) → (n : ℕ) → n < length old
        → (order : List Claim) × IsOrder (get_or (shards_in old) n no_shard).state.claims order × (get_or (shards_in new) n no_shard ≡ shard_without order (get_or (shards_in old) n no_shard))
    by [] new count f n low = absurd (omega arith)
    by (m ∷ old) new count f n low =
        let k = f n m low in
        let a : Shard = (get_or (m ∷ old) n m).shard in
        let d : Shard = (get_or new n m).shard in
        let was : get_or (shards_in (m ∷ old)) n no_shard ≡ a = shard-at (m ∷ old) n m no_shard low in
        let is : get_or (shards_in new) n no_shard ≡ d = shard-at new n m no_shard (omega arith) in (
          k.claims,
          subst (λ (h : Shard). IsOrder h.state.claims k.claims) (sym was) (freed-order (get_or (m ∷ old) n m) (get_or new n m) k),
          is ∙ freed-shard (get_or (m ∷ old) n m) (get_or new n m) k ∙ ap (shard_without k.claims) (sym was),
        )

-- the shards keep their numbers
pub freed-numbers : (old new : List KeptShard) → length new ≡ length old → ((n : ℕ) (d : KeptShard) → n < length old → FreesAll (get_or old n d) (get_or new n d)) → AreNumbered old → AreNumbered new
freed-numbers old new count f numbers n d low = (f n d (omega arith)).number ∙ numbers n d (omega arith)

module _ (b : Batch) (lawful : IsLawful b) (opening : ℕ → List SignalCell) (handed begun : List KeptShard) (are : AreShards b opening (shards_in handed)) (f : AreFreed (shards_in handed) (shards_in begun)) where
  -- no claim is left
  pub freed-fresh : IsFresh b opening (shards_in begun)
  freed-fresh = (all-freed b lawful opening (shards_in handed) (shards_in begun) are f).fresh
