-- What is kept follows the turns of the plan.
use Rattle.std.proofs.Common.{◌≡◌, ℕ, zero, suc, ◌<◌, ◌≤◌, ◌%◌, ◌⊎◌, false, List, [], ◌∷◌, ◌++◌, length, map, get_or, slice_get, slice_set, refl, ap, sym, ◌∙◌, subst, arith, inl, inr, Option, Some, None}
use Rattle.std.specs.List.{AllByRecursion}
use Rattle.std.proofs.Math.ListN.{length-set, length-map, get_or-map}
use Rattle.std.proofs.lemmas.List.{get_or-set_same, get_or-set_other, map-set}
use Rattle.std.proofs.lemmas.Bool.{cases_eq, cases_Bool}
use Rattle.std.proofs.lemmas.Option.{slice_get_within}
use Rattle.valid_intervals.specs.declared.Point.{Point}
use Rattle.plan_machine.specs.declared.strand.Next.TheVariants.{Ask}
use Rattle.valid_intervals.specs.Cells.{same_point}
use Rattle.plan_machine.specs.Strands.{Strand, next, waiting, awake}
use Rattle.plan_machine.specs.Shards.{Shard}
use Rattle.plan_machine.specs.Plans.{Plan, no_shard, shard_of, woken_strand, with_shard}
use Rattle.plan_machine.specs.Parts.{NumberedStrand, IsAmong, AreParts, put_back, with_waiters, strands_from}
use Rattle.plan_machine.specs.KeptPlans.{Parked, WaitedShard, no_waited_shard, waiting_at, waited_shard_at, waiters, all_waiters, shards_of, plan_of, IsKeptPlan}
use Rattle.journal_meaning.proofs.Callers.{cases_point}
use Rattle.plan_machine.proofs.Parts.{strands-are, put-parts, wait-parts, wake-parts, put-get}

-- waiters by lists
among-append : (xs ys : List NumberedStrand) (w : NumberedStrand) → IsAmong w (xs ++ ys) → IsAmong w xs ⊎ IsAmong w ys
among-append [] ys w h = inr h
among-append (x ∷ xs) ys w (inl e) = inl (inl e)
among-append (x ∷ xs) ys w (inr h) = elim (among-append xs ys w h) [ inl k ↦ inl (inr k) | inr k ↦ inr k ]

among-left : (xs ys : List NumberedStrand) (w : NumberedStrand) → IsAmong w xs → IsAmong w (xs ++ ys)
among-left [] ys w h = absurd h
among-left (x ∷ xs) ys w (inl e) = inl e
among-left (x ∷ xs) ys w (inr h) = inr (among-left xs ys w h)

among-right : (xs ys : List NumberedStrand) (w : NumberedStrand) → IsAmong w ys → IsAmong w (xs ++ ys)
among-right [] ys w h = h
among-right (x ∷ xs) ys w h = inr (among-right xs ys w h)

at-among : (ks : List Parked) (p : Point) (w : NumberedStrand) → IsAmong w (waiting_at ks p) → IsAmong w (map (λ (k : Parked). k.waiter) ks)
at-among [] p w = λ h. absurd h
at-among (k ∷ ks) p w = elim (cases_Bool (same_point k.point p)) [
  | inl t ↦ rw t (λ h. elim h [ inl e ↦ inl e | inr l ↦ inr (at-among ks p w l) ])
  | inr f ↦ rw f (λ h. inr (at-among ks p w h))
]

among-at : (P : Parked → Type 0) (ks : List Parked) (w : NumberedStrand) → AllByRecursion P ks → IsAmong w (map (λ (k : Parked). k.waiter) ks) → (k : Parked) × (P k × IsAmong w (waiting_at ks k.point))
among-at P [] w all h = absurd h
among-at P (k ∷ ks) w all (inl e) = (k, (all.0, elim (cases_point k.point k.point) [ inl l ↦ rw l.0 (inl e) | inr l ↦ absurd (l.1 refl) ]))
among-at P (k ∷ ks) w all (inr h) =
    let r = among-at P ks w all.1 h in
    (r.0, (r.1.0, elim (cases_Bool (same_point k.point r.0.point)) [ inl t ↦ rw t (inr r.1.1) | inr f ↦ rw f r.1.1 ]))

all-among : (memos : List WaitedShard) (n : ℕ) (w : NumberedStrand) → n < length memos → IsAmong w (map (λ (k : Parked). k.waiter) (get_or memos n no_waited_shard).parked) → IsAmong w (all_waiters memos)
all-among [] n w low h = absurd (omega arith)
all-among (m ∷ ms) zero w low h = among-left (map (λ (k : Parked). k.waiter) m.parked) (all_waiters ms) w h
all-among (m ∷ ms) (suc n) w low h = among-right (map (λ (k : Parked). k.waiter) m.parked) (all_waiters ms) w (all-among ms n w (omega arith) h)

among-all : (memos : List WaitedShard) (w : NumberedStrand) → IsAmong w (all_waiters memos) → (n : ℕ) × ((n < length memos) × IsAmong w (map (λ (k : Parked). k.waiter) (get_or memos n no_waited_shard).parked))
among-all [] w h = absurd h
among-all (m ∷ ms) w h = elim (among-append (map (λ (k : Parked). k.waiter) m.parked) (all_waiters ms) w h) [
  | inl k ↦ (0, (omega arith, k))
  | inr k ↦ let r = among-all ms w k in (suc r.0, (omega (arith, r.1.0), r.1.1))
]

-- the kept parts are the plan
pub kept-is : (blank : Strand) (places : List (Option Strand)) (memos : List WaitedShard) (xs : List Strand) → IsKeptPlan places memos xs → strands_from (all_waiters memos) blank 0 places ≡ xs
kept-is blank places memos xs kept =
    strands-are places (waiters memos) xs kept.parts (all_waiters memos) blank
    (λ p w h. let low : p.signal % length memos < length memos = omega (arith, kept.some) in
    all-among memos (p.signal % length memos) w low (at-among (waited_shard_at memos p).parked p w h))
    (λ w h.
    let r = among-all memos w h in
    let k = among-at (λ (k : Parked). k.point.signal % length memos ≡ r.0) (get_or memos r.0 no_waited_shard).parked w (kept.homes r.0 r.1.0) r.1.1 in
    (k.0.point, subst (λ n. IsAmong w (waiting_at (get_or memos n no_waited_shard).parked k.0.point)) (sym k.1.0) k.1.1))

same-parts : (places : List (Option Strand)) (v w : Point → List NumberedStrand) (xs : List Strand) → ((p : Point) → v p ≡ w p) → AreParts places w xs → AreParts places v xs
same-parts places v w xs e parts = record {
  length = parts.length;
  ready = parts.ready;
  gap = λ i h. let g = parts.gap i h in (g.0, (g.1.0, (subst (IsAmong g.1.0) (sym (e g.0)) g.1.1.0, g.1.1.1)));
  waiter = λ p w h. parts.waiter p w (subst (IsAmong w) (e p) h);
}

-- a list of shards with another
module _ (memos : List WaitedShard) (p : Point) (m : WaitedShard) (some : 1 ≤ length memos) where
  next_memos : List WaitedShard
  next_memos = slice_set memos (p.signal % length memos) m

  memo-here : (x : Point) → x.signal % length memos ≡ p.signal % length memos → waited_shard_at next_memos x ≡ m
  unfolding next_memos
  memo-here x e =
      let low : p.signal % length memos < length memos = omega arith in
      rw (length-set memos (p.signal % length memos) m, e, get_or-set_same memos (p.signal % length memos) m no_waited_shard low) refl

  memo-other : (x : Point) → (x.signal % length memos ≡ p.signal % length memos → ⊥) → waited_shard_at next_memos x ≡ waited_shard_at memos x
  unfolding next_memos
  memo-other x ne = rw (length-set memos (p.signal % length memos) m, get_or-set_other memos (p.signal % length memos) (x.signal % length memos) m no_waited_shard ne) refl

  -- the waiters at the point are others, and those elsewhere the same
  waiters-after : (ws : List NumberedStrand) → waiting_at m.parked p ≡ ws → ((x : Point) → (p ≡ x → ⊥) → waiting_at m.parked x ≡ waiting_at (waited_shard_at memos p).parked x) → (x : Point) → waiters next_memos x ≡ with_waiters (waiters memos) p ws x
  waiters-after ws here other x = elim (cases_point p x) [
    | inl l ↦
        let k : waited_shard_at next_memos x ≡ m = memo-here x (ap (λ (z : Point). z.signal % length memos) (sym l.1)) in
        rw l.0 (ap (λ (z : WaitedShard). waiting_at z.parked x) k ∙ ap (waiting_at m.parked) (sym l.1) ∙ here)
    | inr l ↦ rw l.0 (elim (cases_eq (x.signal % length memos) (p.signal % length memos)) [
      | inl e ↦
          let k : get_or memos (p.signal % length memos) no_waited_shard ≡ get_or memos (x.signal % length memos) no_waited_shard = ap (λ n. get_or memos n no_waited_shard) (sym e) in
          ap (λ (z : WaitedShard). waiting_at z.parked x) (memo-here x e) ∙ other x l.1 ∙ ap (λ (z : WaitedShard). waiting_at z.parked x) k
      | inr e ↦ ap (λ (z : WaitedShard). waiting_at z.parked x) (memo-other x e)
    ])
  ]

  homes-after : ((n : ℕ) → n < length memos → AllByRecursion (λ (k : Parked). k.point.signal % length memos ≡ n) (get_or memos n no_waited_shard).parked)
      → AllByRecursion (λ (k : Parked). k.point.signal % length memos ≡ p.signal % length memos) m.parked
      → (n : ℕ) → n < length next_memos → AllByRecursion (λ (k : Parked). k.point.signal % length next_memos ≡ n) (get_or next_memos n no_waited_shard).parked
  unfolding next_memos
  homes-after homes here n =
      let low : p.signal % length memos < length memos = omega arith in
      rw (length-set memos (p.signal % length memos) m) (λ h. elim (cases_eq n (p.signal % length memos)) [
        | inl e ↦ subst (λ k. AllByRecursion (λ (z : Parked). z.point.signal % length memos ≡ k) (get_or (slice_set memos (p.signal % length memos) m) k no_waited_shard).parked) (sym e)
            (rw (get_or-set_same memos (p.signal % length memos) m no_waited_shard low) here)
        | inr e ↦ rw (get_or-set_other memos (p.signal % length memos) n m no_waited_shard e) (homes n h)
      ])

plan-is : (a b : Plan) → a.strands ≡ b.strands → a.shards ≡ b.shards → a ≡ b
plan-is a b e f = let at : List Strand → List Shard → Plan = λ xs hs. record { strands = xs; shards = hs } in ap (λ xs. at xs a.shards) e ∙ ap (at b.strands) f

-- a step of what is kept is a step of the plan
pub kept-step : (blank : Strand) (places after : List (Option Strand)) (memos : List WaitedShard) (p : Point) (m : WaitedShard) (xs : List Strand) (change : List Strand → List Strand) (g : Shard → Shard)
    → IsKeptPlan places memos xs → IsKeptPlan after (slice_set memos (p.signal % length memos) m) (change xs) → m.shard ≡ g (waited_shard_at memos p).shard
    → plan_of blank after (slice_set memos (p.signal % length memos) m) ≡ with_shard (record (plan_of blank places memos) { strands = change (plan_of blank places memos).strands }) p (g (shard_of (plan_of blank places memos) p))
kept-step blank places after memos p m xs change g kept now shard =
    let old = plan_of blank places memos in
    let next = slice_set memos (p.signal % length memos) m in
    let strands : strands_from (all_waiters next) blank 0 after ≡ change old.strands = kept-is blank after next (change xs) now ∙ ap change (sym (kept-is blank places memos xs kept)) in
    let len : length (shards_of memos) ≡ length memos = length-map memos (λ (z : WaitedShard). z.shard) in
    let there : get_or (shards_of memos) (p.signal % length memos) no_shard ≡ (waited_shard_at memos p).shard = get_or-map (λ (z : WaitedShard). z.shard) memos (p.signal % length memos) no_waited_shard in
    let value : m.shard ≡ g (shard_of old p) = shard ∙ ap g (sym there ∙ ap (λ n. get_or (shards_of memos) (p.signal % n) no_shard) (sym len)) in
    let shards : shards_of next ≡ slice_set (shards_of memos) (p.signal % length (shards_of memos)) (g (shard_of old p)) =
    map-set (λ (z : WaitedShard). z.shard) memos (p.signal % length memos) m ∙ ap (slice_set (shards_of memos) (p.signal % length memos)) value ∙ ap (λ n. slice_set (shards_of memos) (p.signal % n) (g (shard_of old p))) (sym len) in
    plan-is (plan_of blank after next) (with_shard (record old { strands = change old.strands }) p (g (shard_of old p))) strands shards

module _ (places : List (Option Strand)) (memos : List WaitedShard) (xs : List Strand) (kept : IsKeptPlan places memos xs) (i : ℕ) (s : Strand) (at : slice_get places i ≡ Some (Some s)) (p : Point) where
  -- the strand goes back changed, and those that wait stay
  pub kept-put : (t : Strand) (m : WaitedShard) → t.waits ≡ false → m.parked ≡ (waited_shard_at memos p).parked → IsKeptPlan (slice_set places i (Some t)) (slice_set memos (p.signal % length memos) m) (slice_set xs i t)
  unfolding next_memos
  kept-put t m quiet same =
      let low : p.signal % length memos < length memos = omega (arith, kept.some) in
      let all = kept.homes (p.signal % length memos) low in
      record {
        some = rw (length-set memos (p.signal % length memos) m) kept.some;
        parts = same-parts (slice_set places i (Some t)) (waiters (slice_set memos (p.signal % length memos) m)) (with_waiters (waiters memos) p (waiters memos p)) (slice_set xs i t)
            (waiters-after memos p m kept.some (waiters memos p) (ap (λ ks. waiting_at ks p) same) (λ x ne. ap (λ ks. waiting_at ks x) same))
            (same-parts (slice_set places i (Some t)) (with_waiters (waiters memos) p (waiters memos p)) (waiters memos) (slice_set xs i t)
            (λ x. elim (cases_point p x) [ inl l ↦ rw l.0 (ap (waiters memos) l.1) | inr l ↦ rw l.0 refl ])
            (put-parts places (waiters memos) xs kept.parts i s at t quiet));
        homes = homes-after memos p m kept.some kept.homes (subst (AllByRecursion (λ (k : Parked). k.point.signal % length memos ≡ p.signal % length memos)) (sym same) all);
      }

  -- the strand stays with the shard, after those that wait at the point
  pub kept-wait : (m : WaitedShard) → next s ≡ Ask p → waiting_at m.parked p ≡ waiters memos p ++ record { number = i; strand = s } ∷ [] → ((x : Point) → (p ≡ x → ⊥) → waiting_at m.parked x ≡ waiting_at (waited_shard_at memos p).parked x)
      → AllByRecursion (λ (k : Parked). k.point.signal % length memos ≡ p.signal % length memos) m.parked
      → IsKeptPlan (slice_set places i None) (slice_set memos (p.signal % length memos) m) (slice_set xs i (waiting s))
  unfolding next_memos
  kept-wait m asks here other home =
      let w : NumberedStrand = record { number = i; strand = s } in
      record {
        some = rw (length-set memos (p.signal % length memos) m) kept.some;
        parts = same-parts (slice_set places i None) (waiters (slice_set memos (p.signal % length memos) m)) (with_waiters (waiters memos) p (waiters memos p ++ w ∷ [])) (slice_set xs i (waiting s))
            (waiters-after memos p m kept.some (waiters memos p ++ w ∷ []) here other)
            (wait-parts places (waiters memos) xs kept.parts i s at p asks);
        homes = homes-after memos p m kept.some kept.homes home;
      }

  -- all that waited at the point go back, and the strand too
  pub kept-wake : (f : Strand → Strand) → ((o : Strand) → o.waits ≡ false → (f o).waits ≡ false) → ((o : Strand) → o.waits ≡ false → awake (f (waiting o)) ≡ f o) → (t : Strand) (m : WaitedShard) → t.waits ≡ false
      → waiting_at m.parked p ≡ [] → ((x : Point) → (p ≡ x → ⊥) → waiting_at m.parked x ≡ waiting_at (waited_shard_at memos p).parked x)
      → AllByRecursion (λ (k : Parked). k.point.signal % length memos ≡ p.signal % length memos) m.parked
      → IsKeptPlan (slice_set (put_back f places (waiters memos p)) i (Some t)) (slice_set memos (p.signal % length memos) m) (slice_set (map (woken_strand f p) xs) i t)
  unfolding next_memos
  kept-wake f quiet fits t m calm here other home =
      let back = put_back f places (waiters memos p) in
      let woke = wake-parts places (waiters memos) xs kept.parts f quiet fits p in
      let there : slice_get back i ≡ Some (Some s) = elim (put-get f places (waiters memos p) (λ w k. slice_get_within places w.number None (kept.parts.waiter p w k).0) i) [
        | inl k ↦
            let l = (kept.parts.waiter p k.waiter k.among).0 in
            let e : slice_get places k.waiter.number ≡ Some (Some s) = ap (slice_get places) k.number ∙ at in
            absurd (cc (l, e))
        | inr k ↦ k.now ∙ at
      ] in
      record {
        some = rw (length-set memos (p.signal % length memos) m) kept.some;
        parts = same-parts (slice_set back i (Some t)) (waiters (slice_set memos (p.signal % length memos) m)) (with_waiters (waiters memos) p []) (slice_set (map (woken_strand f p) xs) i t)
            (waiters-after memos p m kept.some [] here other)
            (put-parts back (with_waiters (waiters memos) p []) (map (woken_strand f p) xs) woke i s there t calm);
        homes = homes-after memos p m kept.some kept.homes home;
      }
