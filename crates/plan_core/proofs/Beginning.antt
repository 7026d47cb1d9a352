-- A plan as it begins.
use Rattle.std.proofs.Common.{◌≡◌, All, ℕ, zero, suc, ◌<◌, ◌%◌, ◌+◌, false, List, [], ◌∷◌, ◌++◌, length, map, get_or, slice_get, refl, ap, sym, ◌∙◌, subst, arith, append_assoc, append-nil, Option, Some, None, IsSome}
use Rattle.std.specs.List.{AllByRecursion}
use Rattle.std.proofs.Math.ListN.{length-map}
use Rattle.std.proofs.lemmas.Option.{get_or_from_slice_get, slice_get_within}
use Rattle.valid_intervals.specs.declared.Point.{Point}
use Rattle.valid_intervals.specs.declared.SignalCell.{SignalCell}
use Rattle.journal_meaning.specs.States.{holder}
use Rattle.journal_meaning.specs.Batches.{Batch}
use Rattle.journal_meaning.specs.Lawful.{IsLawful}
use Rattle.plan_machine.specs.Strands.{Strand, started_strand, IsOnStack, IsStrand}
use Rattle.journal_meaning.specs.Pieces.{Start}
use Rattle.plan_machine.specs.Shards.{Shard, IsShard}
use Rattle.plan_machine.specs.Plans.{Plan, no_shard, claim_of}
use Rattle.plan_machine.specs.Parts.{NumberedStrand, IsAmong, strands_from}
use Rattle.plan_machine.specs.KeptPlans as kept
use Rattle.plan_machine.specs.KeptPlans.{WaitedShard, Parked, no_waited_shard, all_waiters, shards_of, plan_of, IsKeptPlan}
use Rattle.plan_machine.specs.Sound.{IsSound}
use Rattle.plan_machine.specs.Laws.{BeginsAlone}
use Rattle.plan_machine.proofs.Callers.{map-get}
use Rattle.demand_points.specs.Demands.{Demand, TakesStep, itself}
use Rattle.memo_shards.specs.KeptShards.{Waiting, KeptShard, IsWaiting, IsKnownShard}
use Rattle.memo_shards.specs.Seen.{numbered_strand, waited_shard, parked_of}
use Rattle.plan_core.specs.inner.Places.{seats, tag, tags, tag_of}
use Rattle.plan_core.specs.inner.Parts.{blank, waited_shards, plan_at, IsPlan}
use Rattle.plan_core.specs.Parts.{AreFreshStrands, AreFree, shards_in, strands_in, plan_of_new}
use Rattle.plan_core.proofs.Lists.{some-at, none-left}

pub shards-same : (shards : List KeptShard) → shards_of (waited_shards shards) ≡ shards_in shards
shards-same [] = refl
shards-same (m ∷ ms) = ap (λ l. m.shard ∷ l) (shards-same ms)

-- strands that are put into places one after another
pub record IsPausing (strands : List Demand) (now : List (Option Demand)) (left : List Demand) (many : ℕ) : Type 0 where
  pub same : tags now ++ map tag_of left ≡ map tag_of strands
  pub count : many ≡ length left

tags-push : (now : List (Option Demand)) (o : Option Demand) → tags (now ++ o ∷ []) ≡ tags now ++ tag o ∷ []
tags-push [] o = refl
tags-push (x ∷ now) o = ap (λ l. tag x ∷ l) (tags-push now o)

pub pause-first : (strands left : List Demand) (now : List (Option Demand)) (many : ℕ) → now ≡ [] → left ≡ strands → many ≡ length strands → IsPausing strands now left many
pause-first strands left now many e is count = record { same = ap (λ ps. tags ps ++ map tag_of left) e ∙ ap (map tag_of) is; count = count ∙ ap (λ (l : List Demand). length l) (sym is) }

pub pause-one : (strands : List Demand) (now after : List (Option Demand)) (old new : List Demand) (many fewer : ℕ) (s r : Demand) → IsPausing strands now old many → old ≡ s ∷ new → fewer + 1 ≡ many → TakesStep itself s r → after ≡ now ++ Some r ∷ []
    → IsPausing strands after new fewer
pause-one strands now after old new many fewer s r pausing e less step push =
    let made : ℕ → Strand → NumberedStrand = λ n t. record { number = n; strand = t } in
    let same : numbered_strand r ≡ numbered_strand s = ap (λ n. made n r.strand) step.number ∙ ap (made s.number) step.strand in
    record {
      same = ap (λ l. tags l ++ map tag_of new) push ∙ ap (λ l. l ++ map tag_of new) (tags-push now (Some r)) ∙ append_assoc (tags now) (tag (Some r) ∷ []) (map tag_of new)
          ∙ ap (λ w. tags now ++ Some w ∷ map tag_of new) same ∙ ap (λ l. tags now ++ map tag_of l) (sym e) ∙ pausing.same;
      count = let k : many ≡ length (s ∷ new) = pausing.count ∙ ap (λ (l : List Demand). length l) e in omega arith;
    }

pub pause-last : (strands : List Demand) (now : List (Option Demand)) (left : List Demand) (many : ℕ) → IsPausing strands now left many → many ≡ 0 → tags now ≡ map tag_of strands
pause-last strands now left many pausing e =
    let none : left ≡ [] = none-left left (sym pausing.count ∙ e) in
    sym (append-nil (tags now)) ∙ ap (λ l. tags now ++ map tag_of l) (sym none) ∙ pausing.same

-- the strands of those places
tags-seats : (strands : List Demand) (places : List (Option Demand)) → tags places ≡ map tag_of strands → seats places ≡ map (λ (s : Demand). Some s.strand) strands
tags-seats [] [] e = refl
tags-seats [] (o ∷ os) e = absurd (cc e)
tags-seats (s ∷ ss) [] e = absurd (cc e)
tags-seats (s ∷ ss) (None ∷ os) e = absurd (cc e)
tags-seats (s ∷ ss) (Some r ∷ os) e =
    let first : numbered_strand r ≡ numbered_strand s = cc e in
    let more : tags os ≡ map tag_of ss = cc e in
    ap (λ (w : NumberedStrand). Some w.strand ∷ seats os) first ∙ ap (λ l. Some s.strand ∷ l) (tags-seats ss os more)

-- what is in a place is a strand of the list
record IsOf (s r : Demand) : Type 0 where
  number : r.number ≡ s.number
  strand : r.strand ≡ s.strand

tags-at : (strands : List Demand) (places : List (Option Demand)) → tags places ≡ map tag_of strands → (i : ℕ) (r : Demand) → slice_get places i ≡ Some (Some r) → (s : Demand) × ((slice_get strands i ≡ Some s) × IsOf s r)
tags-at [] [] e i r h = absurd (cc h)
tags-at [] (o ∷ os) e i r h = absurd (cc e)
tags-at (s ∷ ss) [] e i r h = absurd (cc e)
tags-at (s ∷ ss) (None ∷ os) e i r h = absurd (cc e)
tags-at (s ∷ ss) (Some x ∷ os) e zero r h =
    let first : numbered_strand x ≡ numbered_strand s = cc e in
    let same : x ≡ r = cc h in
    let is : numbered_strand r ≡ numbered_strand s = ap numbered_strand (sym same) ∙ first in
    (s, (refl, record { number = ap (λ (w : NumberedStrand). w.number) is; strand = ap (λ (w : NumberedStrand). w.strand) is }))
tags-at (s ∷ ss) (Some x ∷ os) e (suc i) r h = let more : tags os ≡ map tag_of ss = cc e in tags-at ss os more i r h

strands-all : (ws : List NumberedStrand) (n : ℕ) (strands : List Demand) → strands_from ws blank n (map (λ (s : Demand). Some s.strand) strands) ≡ strands_in strands
strands-all ws n [] = refl
strands-all ws n (s ∷ ss) = ap (λ l. s.strand ∷ l) (strands-all ws (suc n) ss)

map-back : {A B : Type 0} (f : A → B) (xs : List A) (i : ℕ) (y : B) → slice_get (map f xs) i ≡ Some y → (x : A) × ((slice_get xs i ≡ Some x) × (y ≡ f x))
map-back f [] i y h = absurd (cc h)
map-back f (x ∷ xs) zero y h = let e : f x ≡ y = cc h in (x, (refl, sym e))
map-back f (x ∷ xs) (suc i) y h = map-back f xs i y h

pub all-at : {A : Type 0} (P : A → Type 0) (xs : List A) (i : ℕ) (x : A) → AllByRecursion P xs → slice_get xs i ≡ Some x → P x
all-at P [] i x all h = absurd (cc h)
all-at P (y ∷ ys) zero x all h = let e : y ≡ x = cc h in subst P e all.0
all-at P (y ∷ ys) (suc i) x all h = all-at P ys i x all.1 h

no-held : (q : Option ℕ) → q ≡ None → IsSome q → ⊥
no-held None e h = cc h
no-held (Some q) e h = cc e

module _ (b : Batch) (lawful : IsLawful b) (opening : ℕ → List SignalCell) (strands : List Demand) (new : AreFreshStrands b strands) (shards : List KeptShard) (free : AreFree b shards)
    (known : (i : ℕ) (m : KeptShard) → slice_get shards i ≡ Some m → IsKnownShard b opening m) where
  -- nobody waits
  idle : (i : ℕ) (m : KeptShard) → slice_get shards i ≡ Some m → m.waiting ≡ []
  idle i m at = by m.waiting (known i m at).waiting
    where
      none : m.shard.state.claims ≡ []
      none = all-at (λ (k : KeptShard). k.shard.state.claims ≡ []) shards i m free.free at

      by : (ws : List Waiting) → AllByRecursion (IsWaiting b m) ws → ws ≡ []
      by [] h = refl
      by (w ∷ ws) h = absurd (no-held (holder m.shard.state.claims w.point) (ap (λ ks. holder ks w.point) none) h.0.claimed)

  memos-len : length (waited_shards shards) ≡ b.shards
  memos-len = length-map shards waited_shard ∙ free.count

  -- shard n
  at-number : (n : ℕ) → n < b.shards → (m : KeptShard) × (slice_get shards n ≡ Some m)
  at-number n low = some-at shards n (let k = free.count in omega arith)

  memo-is : (n : ℕ) (low : n < b.shards) → get_or (waited_shards shards) n no_waited_shard ≡ waited_shard (at-number n low).0
  memo-is n low = get_or_from_slice_get (waited_shards shards) n (waited_shard (at-number n low).0) no_waited_shard (map-get waited_shard shards n (at-number n low).0 (at-number n low).1)

  parked-none : (n : ℕ) → n < b.shards → (get_or (waited_shards shards) n no_waited_shard).parked ≡ []
  parked-none n low = ap (λ (z : WaitedShard). z.parked) (memo-is n low) ∙ ap (map parked_of) (idle n (at-number n low).0 (at-number n low).1)

  shard-is : (n : ℕ) (low : n < b.shards) → get_or (shards_of (waited_shards shards)) n no_shard ≡ (at-number n low).0.shard
  shard-is n low =
      let m = at-number n low in
      get_or_from_slice_get (shards_of (waited_shards shards)) n m.0.shard no_shard (map-get (λ (z : WaitedShard). z.shard) (waited_shards shards) n (waited_shard m.0) (map-get waited_shard shards n m.0 m.1))

  waiters-none : (p : Point) → kept.waiters (waited_shards shards) p ≡ []
  waiters-none p =
      let some = lawful.some_shard in
      let low : p.signal % length (waited_shards shards) < b.shards = let k = memos-len in omega arith in
      ap (λ ks. kept.waiting_at ks p) (parked-none (p.signal % length (waited_shards shards)) low)

  module _ (places : List (Option Demand)) (tagged : tags places ≡ map tag_of strands) where
    seats-are : seats places ≡ map (λ (s : Demand). Some s.strand) strands
    seats-are = tags-seats strands places tagged

    strands-are : (plan_at places shards).strands ≡ strands_in strands
    strands-are = ap (strands_from (all_waiters (waited_shards shards)) blank 0) seats-are ∙ strands-all (all_waiters (waited_shards shards)) 0 strands

    pub plan-begins : plan_at places shards ≡ plan_of_new strands shards
    plan-begins =
        let made : List Strand → List Shard → Plan = λ xs hs. record { strands = xs; shards = hs } in
        ap (λ xs. made xs (shards_of (waited_shards shards))) strands-are ∙ ap (made (strands_in strands)) (shards-same shards)

    at-strand : (i : ℕ) (s : Strand) → slice_get (plan_at places shards).strands i ≡ Some s → (d : Demand) × ((slice_get strands i ≡ Some d) × (s ≡ d.strand))
    at-strand i s at = map-back (λ (d : Demand). d.strand) strands i s (ap (λ xs. slice_get xs i) (sym strands-are) ∙ at)

    none : (i : ℕ) (s : Strand) (p : Point) → slice_get (plan_at places shards).strands i ≡ Some s → IsOnStack s.stack p → ⊥
    none i s p at h =
        let d = at-strand i s at in
        let empty : s.stack ≡ [] = ap (λ (z : Strand). z.stack) d.1.1 ∙ (new i d.0 d.1.0).empty in
        let k : IsOnStack [] p = subst (λ st. IsOnStack st p) empty h in k

    sound : IsSound b opening (plan_at places shards)
    sound = record {
      count = length-map (waited_shards shards) (λ (z : WaitedShard). z.shard) ∙ memos-len;
      shards = λ n low.
          let m = at-number n low in
          let k = (known n m.0 m.1).shard in
          let number : m.0.number ≡ n = free.order n m.0 m.1 in
          subst (λ (h : Shard). IsShard b n (opening n) h) (sym (shard-is n low)) (subst (λ j. IsShard b j (opening j) m.0.shard) number k);
      strands = λ i s at. let d = at-strand i s at in subst (IsStrand b) (sym d.1.1) (new i d.0 d.1.0).strand;
      linked = record {
        on_stack = λ i s p at h. absurd (none i s p at h);
        holder = λ p q claim.
            let hs = shards_of (waited_shards shards) in
            let count : length hs ≡ b.shards = length-map (waited_shards shards) (λ (z : WaitedShard). z.shard) ∙ memos-len in
            let some = lawful.some_shard in
            let low : p.signal % length hs < b.shards = omega arith in
            let m = at-number (p.signal % length hs) low in
            let empty : (at-number (p.signal % length hs) low).0.shard.state.claims ≡ [] = all-at (λ (k : KeptShard). k.shard.state.claims ≡ []) shards (p.signal % length hs) m.0 free.free m.1 in
            let e : claim_of (plan_at places shards) p ≡ None = ap (λ (z : Shard). holder z.state.claims p) (shard-is (p.signal % length hs) low) ∙ ap (λ ks. holder ks p) empty in
            absurd (cc (e, claim));
        once = λ i j s r p at ar h k. absurd (none i s p at h);
        waiting = λ i s at w.
            let d = at-strand i s at in
            let calm : s.waits ≡ false = ap (λ (z : Strand). z.waits) d.1.1 ∙ (new i d.0 d.1.0).awake in
            absurd (cc (calm, w));
      };
    }

    seats-get : (i : ℕ) (o : Option Strand) → slice_get (seats places) i ≡ Some o → (d : Demand) × ((slice_get strands i ≡ Some d) × (o ≡ Some d.strand))
    seats-get i o at = map-back (λ (d : Demand). Some d.strand) strands i o (ap (λ xs. slice_get xs i) (sym seats-are) ∙ at)

    now-kept : IsKeptPlan (seats places) (waited_shards shards) (plan_at places shards).strands
    now-kept = record {
      some = let k = memos-len in let l = lawful.some_shard in omega arith;
      parts = record {
        length = ap (λ (xs : List (Option Strand)). length xs) seats-are ∙ length-map strands (λ (d : Demand). Some d.strand) ∙ sym (length-map strands (λ (d : Demand). d.strand)) ∙ ap (λ (xs : List Strand). length xs) (sym strands-are);
        ready = λ i s at.
            let d = seats-get i (Some s) at in
            let is : s ≡ d.0.strand = let e = d.1.1 in cc e in
            let there : slice_get (plan_at places shards).strands i ≡ Some d.0.strand = ap (λ xs. slice_get xs i) strands-are ∙ map-get (λ (z : Demand). z.strand) strands i d.0 d.1.0 in
            (there ∙ ap Some (sym is), ap (λ (z : Strand). z.waits) is ∙ (new i d.0 d.1.0).awake);
        gap = λ i at. let d = seats-get i None at in absurd (cc d.1.1);
        waiter = λ p w h. absurd (subst (IsAmong w) (waiters-none p) h);
      };
      homes = λ n low. subst (AllByRecursion (λ (k : Parked). k.point.signal % length (waited_shards shards) ≡ n)) (sym (parked-none n (let k = memos-len in omega arith))) tt;
    }

    pub begins : IsPlan b opening places shards
    begins = record {
      lawful = lawful;
      numbers = λ i r at. let s = tags-at strands places tagged i r at in s.1.1.number ∙ (new i s.0 s.1.0).number;
      order = free.order;
      kept_plan = now-kept;
      sound = sound;
    }

    unclaimed : (p : Point) → claim_of (plan_at places shards) p ≡ None
    unclaimed p = by (claim_of (plan_at places shards) p) refl
      where
        by : (o : Option ℕ) → claim_of (plan_at places shards) p ≡ o → claim_of (plan_at places shards) p ≡ None
        by None e = e
        by (Some q) e = let k = sound.linked.holder p q e in absurd (none k.0 k.1.0 p k.1.1.0 k.1.1.1)

    -- each strand may run alone
    pub begins-alone : (n : ℕ) (a : Start) (s : Demand) → slice_get strands n ≡ Some s → s.strand ≡ started_strand b.circuit a → BeginsAlone b opening n a (plan_at places shards)
    begins-alone n a s at is = record {
      sound = sound;
      free = unclaimed;
      at = ap (λ xs. slice_get xs n) strands-are ∙ map-get (λ (z : Demand). z.strand) strands n s at ∙ ap Some is;
    }

-- each shard of a list is known, where all are
pub each-known : (b : Batch) (opening : ℕ → List SignalCell) (shards : List KeptShard) → All (IsKnownShard b opening) shards → (i : ℕ) (m : KeptShard) → slice_get shards i ≡ Some m → IsKnownShard b opening m
each-known b opening shards known i m at = subst (IsKnownShard b opening) (get_or_from_slice_get shards i m m at) (known i m (slice_get_within shards i m at))
