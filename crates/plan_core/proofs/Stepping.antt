-- The turn of a strand that makes a step at the shard of its point.
use Rattle.std.proofs.Common.{◌≡◌, ◌≢◌, ℕ, ◌≤◌, ◌%◌, ◌++◌, false, List, [], ◌∷◌, length, get_or, slice_get, slice_set, refl, ap, sym, ◌∙◌, subst, arith, Option, Some, None, IsSome, Result, Ok, Err, ◌<◌, map}
use Rattle.std.proofs.lemmas.List.{map-set}
use Rattle.texts.specs.declared.OutOfMemory.{OutOfMemory}
use Rattle.valid_intervals.specs.declared.Point.{Point}
use Rattle.valid_intervals.specs.declared.SignalCell.{SignalCell}
use Rattle.journal_meaning.specs.declared.Entry.TheVariants as entry
use Rattle.journal_meaning.specs.States.{holder}
use Rattle.journal_meaning.specs.Batches.{Batch, shard_number}
use Rattle.plan_machine.specs.declared.strand.Next.TheVariants.{Ask, Fill, Drop, Done}
use Rattle.plan_machine.specs.Strands.{Strand, next, after_answer, after_claim, waiting, given_up, after_fill, after_drop, IsOnStack}
use Rattle.plan_machine.specs.declared.Turned.{Turned}
use Rattle.plan_machine.specs.declared.Turned.TheVariants as comes
use Rattle.plan_machine.specs.Shards.{Shard, shard_with_entry, filled_shard}
use Rattle.valid_intervals.specs.Cells.{stored_at}
use Rattle.plan_machine.specs.Plans.{Plan, shard_of, claim_of, with_strand, with_shard, with_woken, woken_strand, itself}
use Rattle.plan_machine.specs.Steps.{turned_by}
use Rattle.plan_machine.specs.Parts.{NumberedStrand, IsAmong, put_back}
use Rattle.plan_machine.specs.KeptPlans as kept
use Rattle.plan_machine.specs.KeptPlans.{WaitedShard, IsKeptPlan}
use Rattle.plan_machine.proofs.Callers.{kept-wait, kept-wake, told-turn, claimed-turn, waits-turn, spent-turn, filled-turn, dropped-turn, fill-top, drop-top, top-held, heard-fits}
use Rattle.demand_points.specs.Demands as demands
use Rattle.demand_points.specs.Demands.{Demand, TakesStep}
use Rattle.memo_shards.specs.KeptShards.{KeptShard, IsKnownShard, waiting_at}
use Rattle.memo_shards.specs.Asks.{Tells, ClaimsIt, WaitsThere, Refuses}
use Rattle.memo_shards.specs.Seen.{numbered_strand, waited_shard}
use Rattle.memo_shards.proofs.Callers.{waits-here, waits-other, waiting-seen, none-here, none-other, zip-seen, changed}
use Rattle.plan_core.specs.inner.Places.{seat, seats, AreNumbered, HaveNumbers, IsNextAt}
use Rattle.plan_core.specs.inner.Parts.{waited_shards, plan_at, IsPlan}
use Rattle.plan_core.specs.inner.Turns.{OfPlaceStep, OfTurn, IsSeen}
use Rattle.plan_core.proofs.Lists.{numbers-none, put-apart, put-changed, have-numbers, stays-numbered}
use Rattle.plan_core.proofs.Seen.{here, in-plan, awake, home, homes, shard-here, seen, put-seen, rest-set, same-shard, number-is, shards-count}
use Rattle.std.proofs.Math.ListN.{length-map, length-set}
use Rattle.std.proofs.lemmas.Option.{get_or_from_slice_get, slice_get_within}
use Rattle.circuit_meaning.specs.Cells.{cell_at}
use Rattle.plan_machine.specs.Strands as strands
use Rattle.plan_machine.specs.Turns.{turn}
use Rattle.memo_shards.specs.Ends.{FillsIt, DropsIt, LeavesNone}
use Rattle.plan_machine.specs.declared.strand.Next.{Next}
use Rattle.std.specs.Global.{Vec}
use Rattle.memo_shards.specs.Steps.{MayStep, step_point}

map-itself : (ws : List NumberedStrand) → map (changed itself) ws ≡ ws
map-itself [] = refl
map-itself (w ∷ ws) = ap (λ l. w ∷ l) (map-itself ws)

module _ (b : Batch) (opening : ℕ → List SignalCell) (places : List (Option Demand)) (shards : List KeptShard) (parts : IsPlan b opening places shards)
    (n : ℕ) (s0 : Demand) (at : slice_get places n ≡ Some (Some s0))
    (slot : ℕ) (h0 : KeptShard) (index : h0 ≡ get_or shards slot h0) where
  abbrev old : Plan
  old = plan_at places shards

  at-plan : slice_get old.strands n ≡ Some s0.strand
  at-plan = in-plan b opening places shards parts n s0 at

  quiet : s0.strand.waits ≡ false
  quiet = awake b opening places shards parts n s0 at

  -- its claim is the shard's
  holds : (p : Point) → slot ≡ p.signal % length shards → IsOnStack s0.strand.stack p → holder h0.shard.state.claims p ≡ Some s0.strand.query.number
  holds p slot-is h =
      ap (λ (z : Shard). holder z.state.claims p) (sym (shard-here b opening places shards parts n s0 at p slot slot-is h0 index))
      ∙ parts.sound.linked.on_stack n s0.strand p at-plan h

  pub may-step : (m : Next) → next s0.strand ≡ m → (m ≡ Done → ⊥) → slot ≡ (step_point m).signal % length shards → MayStep b h0 m s0
  may-step (Ask p) e left slot-is = ap (λ m. p.signal % m) (sym (shards-count b opening places shards parts)) ∙ sym slot-is ∙ sym (number-is b opening places shards parts n s0 at p slot slot-is h0 index)
  may-step (Fill p) e left slot-is = holds p slot-is (top-held s0.strand.stack p (fill-top s0.strand p e))
  may-step (Drop p) e left slot-is = holds p slot-is (top-held s0.strand.stack p (drop-top s0.strand p e))
  may-step Done e left slot-is = absurd (left refl)

  module _ (p : Point) (slot-is : slot ≡ p.signal % length shards) where
    there : shard_of old p ≡ h0.shard
    there = shard-here b opening places shards parts n s0 at p slot slot-is h0 index

    none : stored_at h0.shard.state.cells p ≡ None → stored_at (shard_of old p).state.cells p ≡ None
    none h = ap (λ (z : Shard). stored_at z.state.cells p) there ∙ h

    claim : (o : Option ℕ) → holder h0.shard.state.claims p ≡ o → claim_of old p ≡ o
    claim o h = ap (λ (z : Shard). holder z.state.claims p) there ∙ h

    abbrev Ends : Option Demand → KeptShard → Result Turned OutOfMemory → Type 0
    Ends back h came = OfTurn b opening old n (slice_set places n back) (slice_set shards slot h) came

    told : next s0.strand ≡ Ask p → (s : Demand) (h : KeptShard) → Tells h0 h p s0 s → Ends (Some s) h (Ok comes.Told)
    told asks s h f =
        let q = s0.strand.query.number in
        let is = told-turn b old n s0.strand at-plan quiet p f.cell asks (ap (λ (z : Shard). stored_at z.state.cells p) there ∙ f.stored) in (
          put-seen b opening places shards parts n s0 at p slot slot-is h0 index s h after_answer (shard_with_entry (entry.Told q p f.cell.cell)) f.strand quiet
              (ap (λ (z : KeptShard). z.number) f.shard) (ap (λ (z : KeptShard). z.waiting) f.shard) (ap (λ (z : KeptShard). z.shard) f.shard) is.turn,
          sym (ap turned_by is.step),
        )

    claims : next s0.strand ≡ Ask p → (s : Demand) (h : KeptShard) → ClaimsIt b h0 h p s0 s → Ends (Some s) h (Ok comes.Claimed)
    claims asks s h f =
        let q = s0.strand.query.number in
        let is = claimed-turn b old n s0.strand at-plan quiet p asks (none f.unfound.missed) (claim None f.unfound.unclaimed) f.within in (
          put-seen b opening places shards parts n s0 at p slot slot-is h0 index s h (λ x. after_claim b.circuit x p) (shard_with_entry (entry.Claimed q p)) f.strand quiet
              (ap (λ (z : KeptShard). z.number) f.shard) (ap (λ (z : KeptShard). z.waiting) f.shard) (ap (λ (z : KeptShard). z.shard) f.shard) is.turn,
          sym (ap turned_by is.step),
        )

    refused : next s0.strand ≡ Ask p → (s : Demand) (h : KeptShard) → Refuses h0 h p s0 s → Ends (Some s) h (Ok comes.Spent)
    refused asks s h f =
        let full : s0.strand.budget ≤ s0.strand.charged = let k = f.spent in omega arith in
        let is = spent-turn b old n s0.strand at-plan quiet p asks (none f.unfound.missed) (claim None f.unfound.unclaimed) full in
        let z = with_strand old n (given_up s0.strand) in (
          put-seen b opening places shards parts n s0 at p slot slot-is h0 index s h given_up (λ x. x) f.strand quiet
              (ap (λ (z : KeptShard). z.number) f.shard) (ap (λ (z : KeptShard). z.waiting) f.shard) (ap (λ (z : KeptShard). z.shard) f.shard)
              (is.turn ∙ sym (same-shard b opening places shards parts n s0 at p slot slot-is h0 index z refl)),
          sym (ap turned_by is.step),
        )

    waits : next s0.strand ≡ Ask p → (h : KeptShard) → IsKnownShard b opening h → WaitsThere h0 h p s0 → Ends None h (Ok comes.Waits)
    waits asks h known f =
        let by : (o : Option ℕ) → holder h0.shard.state.claims p ≡ o → (q : ℕ) × (o ≡ Some q) = λ o e. held-by o (subst IsSome e f.claimed) in
        let q = by (holder h0.shard.state.claims p) refl in
        let is = waits-turn b old n s0.strand at-plan quiet p q.0 asks (none f.missed) (claim (Some q.0) q.1) in
        let z = with_strand old n (waiting s0.strand) in
        let here_0 = home b opening places shards parts n s0 at p slot slot-is h0 index in
        let waiter : numbered_strand s0 ≡ record { number = n; strand = s0.strand } = let made : ℕ → NumberedStrand = λ k. record { number = k; strand = s0.strand } in ap made (parts.numbers n s0 at) in
        let e : seats (slice_set places n None) ≡ slice_set (seats places) n None = map-set seat places n None in
        let hs = slice_set (waited_shards shards) (p.signal % length (waited_shards shards)) (waited_shard h) in
        let now = kept-wait (seats places) (waited_shards shards) old.strands parts.kept_plan n s0.strand (here b opening places shards parts n s0 at) p (waited_shard h) asks
        (waits-here h0 h p s0 f ∙ ap (λ (m : WaitedShard). kept.waiting_at m.parked p ++ numbered_strand s0 ∷ []) (sym here_0) ∙ ap (λ w. kept.waiters (waited_shards shards) p ++ w ∷ []) waiter)
        (λ x ne. waits-other h0 h p s0 f x ne ∙ ap (λ (m : WaitedShard). kept.waiting_at m.parked x) (sym here_0))
        (homes b opening places shards parts n s0 at p slot slot-is h0 index h known f.number) in (
          seen b opening places shards parts n s0 at p slot slot-is h0 index (slice_set places n None) h (λ ys. slice_set ys n (waiting s0.strand)) (λ x. x)
              (numbers-none places parts.numbers n (Some s0) at) f.number
              (subst (λ z. IsKeptPlan z hs (slice_set old.strands n (waiting s0.strand))) (sym e) now) f.shard
              (is.turn ∙ sym (same-shard b opening places shards parts n s0 at p slot slot-is h0 index z refl)),
          sym (ap turned_by is.step),
        )
      where
        held-by : (o : Option ℕ) → IsSome o → (q : ℕ) × (o ≡ Some q)
        held-by None h = absurd (cc h)
        held-by (Some q) h = (q, refl)

    rests : (s : Demand) (h : KeptShard) (error : OutOfMemory) → TakesStep demands.itself s0 s → h ≡ h0 → Ends (Some s) h (Err error)
    rests s h error step same = rest-set b opening places shards parts n s0 at p slot slot-is h0 index s h step same

    -- those that wait there
    waiters : kept.waiters (waited_shards shards) p ≡ map numbered_strand (waiting_at h0.waiting p)
    waiters = ap (λ (m : WaitedShard). kept.waiting_at m.parked p) (home b opening places shards parts n s0 at p slot slot-is h0 index) ∙ waiting-seen h0.waiting p

    low : (w : NumberedStrand) → IsAmong w (kept.waiters (waited_shards shards) p) → w.number < length places
    low w h =
        let k = (parts.kept_plan.parts.waiter p w h).0 in
        let l = slice_get_within (seats places) w.number None k in
        let m = length-map places seat in
        omega arith

    -- none of them has its place
    apart : (w : NumberedStrand) → IsAmong w (kept.waiters (waited_shards shards) p) → w.number ≡ n → ⊥
    apart w h e =
        let k : slice_get (seats places) w.number ≡ Some None = (parts.kept_plan.parts.waiter p w h).0 in
        let there : slice_get (seats places) w.number ≡ Some (Some s0.strand) = ap (λ i. slice_get (seats places) i) e ∙ here b opening places shards parts n s0 at in
        absurd (cc (k, there))

    module _ (f : Strand → Strand) (quiet : (o : Strand) → o.waits ≡ false → (f o).waits ≡ false) (fits : (o : Strand) → o.waits ≡ false → strands.awake (f (waiting o)) ≡ f o)
        (list : List Demand) (out : map numbered_strand list ≡ map (changed f) (map numbered_strand (waiting_at h0.waiting p))) where
      abbrev among : List NumberedStrand
      among = kept.waiters (waited_shards shards) p

      come-out : map numbered_strand list ≡ map (changed f) (kept.waiters (waited_shards shards) p)
      come-out = out ∙ ap (map (changed f)) (sym waiters)

      low-numbers : (o : Option Demand) → HaveNumbers (length (slice_set places n o)) list
      low-numbers o = subst (λ m. HaveNumbers m list) (sym (length-set places n o)) (have-numbers f (length places) list (kept.waiters (waited_shards shards) p) come-out low)

      -- the strand makes its step, and all that waited at the point go back
      ended : (s : Demand) (h : KeptShard) (e : Strand → Strand) (g : Shard → Shard) → TakesStep e s0 s → (e s0.strand).waits ≡ false → IsKnownShard b opening h → h.number ≡ h0.number → LeavesNone h0 h p → h.shard ≡ g h0.shard
          → turn b old n ≡ with_shard (with_strand (with_woken old f p) n (e s0.strand)) p (g (shard_of old p))
          → (after : List (Option Demand)) → seats after ≡ put_back itself (seats (slice_set places n (Some s))) (map numbered_strand list) → AreNumbered after
          → IsSeen b opening after (slice_set shards slot h) (turn b old n)
      ended s h e g step calm known number leaves shard turns after seats_are numbered =
          let t = e s0.strand in
          let ps = seats places in
          let ws = kept.waiters (waited_shards shards) p in
          let hs = slice_set (waited_shards shards) (p.signal % length (waited_shards shards)) (waited_shard h) in
          let home_0 = home b opening places shards parts n s0 at p slot slot-is h0 index in
          let stepped : seats (slice_set places n (Some s)) ≡ slice_set ps n (Some t) = map-set seat places n (Some s) ∙ ap (λ z. slice_set ps n (Some z)) step.strand in
          let shape : seats after ≡ slice_set (put_back f ps ws) n (Some t) =
          seats_are ∙ ap (λ xs. put_back itself xs (map numbered_strand list)) stepped ∙ ap (put_back itself (slice_set ps n (Some t))) come-out ∙ put-changed f (slice_set ps n (Some t)) ws
          ∙ put-apart f n (Some t) ps ws apart in
          let now = kept-wake ps (waited_shards shards) old.strands parts.kept_plan n s0.strand (here b opening places shards parts n s0 at) p f quiet fits t (waited_shard h) calm
          (none-here h0 h p leaves)
          (λ x ne. none-other h0 h p leaves x ne ∙ ap (λ (m : WaitedShard). kept.waiting_at m.parked x) (sym home_0))
          (homes b opening places shards parts n s0 at p slot slot-is h0 index h known number) in
          seen b opening places shards parts n s0 at p slot slot-is h0 index after h (λ ys. slice_set (map (woken_strand f p) ys) n t) g numbered number
          (subst (λ z. IsKeptPlan z hs (slice_set (map (woken_strand f p) old.strands) n t)) (sym shape) now) shard turns

    -- what puts those that were woken back into their places makes the turn
    pub record Woke (back : Option Demand) (h : KeptShard) (list : List Demand) (t : Turned) : Type 0 where
      pub numbers : HaveNumbers (length (slice_set places n back)) list
      pub numbered : AreNumbered (slice_set places n back)
      pub turn : (after : List (Option Demand)) → seats after ≡ put_back itself (seats (slice_set places n back)) (map numbered_strand list) → AreNumbered after → OfTurn b opening old n after (slice_set shards slot h) (Ok t)

    -- a fill
    filled-out : (s : Demand) (h : KeptShard) (list : List Demand) → FillsIt b h0 h p s0 s list → map numbered_strand list ≡ map (changed after_answer) (map numbered_strand (waiting_at h0.waiting p))
    filled-out s h list f = zip-seen after_answer (waiting_at h0.waiting p) list f.hears

    filled : next s0.strand ≡ Fill p → (s : Demand) (h : KeptShard) (list : List Demand) → IsKnownShard b opening h → FillsIt b h0 h p s0 s list → Woke (Some s) h list comes.Filled
    filled fills s h list known f =
        let is = filled-turn b old n s0.strand at-plan quiet p fills in
        record {
          numbers = low-numbers after_answer (λ o w. w) heard-fits list (filled-out s h list f) (Some s);
          numbered = stays-numbered places parts.numbers n s0 at after_fill s f.strand;
          turn = λ after seats_are numbered. (
            ended after_answer (λ o w. w) heard-fits list (filled-out s h list f) s h after_fill (filled_shard b.capacity s0.strand.query.number p (cell_at b.circuit p)) f.strand quiet known f.number f.waiting f.shard is.turn after seats_are numbered,
            sym (ap turned_by is.step),
          );
        }

    -- a drop
    dropped-out : (s : Demand) (h : KeptShard) (list : List Demand) → DropsIt h0 h p s0 s list → map numbered_strand list ≡ map (changed itself) (map numbered_strand (waiting_at h0.waiting p))
    dropped-out s h list f = ap (map numbered_strand) f.same ∙ sym (map-itself (map numbered_strand (waiting_at h0.waiting p)))

    itself-fits : (o : Strand) → o.waits ≡ false → strands.awake (itself (waiting o)) ≡ itself o
    itself-fits o w = ap (λ z. record o { waits = z }) (sym w)

    drops : next s0.strand ≡ Drop p → (s : Demand) (h : KeptShard) (list : List Demand) → IsKnownShard b opening h → DropsIt h0 h p s0 s list → Woke (Some s) h list comes.Dropped
    drops drop s h list known f =
        let is = dropped-turn b old n s0.strand at-plan quiet p drop in
        record {
          numbers = low-numbers itself (λ o w. w) itself-fits list (dropped-out s h list f) (Some s);
          numbered = stays-numbered places parts.numbers n s0 at after_drop s f.strand;
          turn = λ after seats_are numbered. (
            ended itself (λ o w. w) itself-fits list (dropped-out s h list f) s h after_drop (shard_with_entry (entry.Dropped s0.strand.query.number p)) f.strand quiet known f.number f.waiting f.shard is.turn after seats_are numbered,
            sym (ap turned_by is.step),
          );
        }

  -- whatever came of the step
  module _ (slot-is : slot ≡ (step_point (next s0.strand)).signal % length shards) (h : KeptShard) (known : IsKnownShard b opening h) where
    abbrev p : Point
    p = step_point (next s0.strand)

    pub goes : (t : Turned) (back : Option Demand) → OfPlaceStep b h0 h s0 (Ok (t, None)) back → Ends p slot-is back h (Ok t)
    goes comes.Told (Some s) f = told p slot-is f.0 s h f.1
    goes comes.Claimed (Some s) f = claims p slot-is f.0 s h f.1
    goes comes.Waits None f = waits p slot-is f.0 h known f.1
    goes comes.Spent (Some s) f = refused p slot-is f.0 s h f.1
    goes comes.Told None f = absurd f
    goes comes.Claimed None f = absurd f
    goes comes.Waits (Some s) f = absurd f
    goes comes.Spent None f = absurd f
    goes comes.Filled back f = absurd f
    goes comes.Dropped back f = absurd f
    goes comes.NotReady back f = absurd f

    pub wakes : (t : Turned) (back : Option Demand) (list : Vec Demand) → OfPlaceStep b h0 h s0 (Ok (t, Some list)) back → Woke p slot-is back h list.items t
    wakes comes.Filled (Some s) list f = filled p slot-is f.0 s h list.items known f.1
    wakes comes.Dropped (Some s) list f = drops p slot-is f.0 s h list.items known f.1
    wakes comes.Filled None list f = absurd f
    wakes comes.Dropped None list f = absurd f
    wakes comes.Told back list f = absurd f
    wakes comes.Claimed back list f = absurd f
    wakes comes.Waits back list f = absurd f
    wakes comes.Spent back list f = absurd f
    wakes comes.NotReady back list f = absurd f

    pub fails : (error : OutOfMemory) (back : Option Demand) → OfPlaceStep b h0 h s0 (Err error) back → Ends p slot-is back h (Err error)
    fails error (Some s) f = rests p slot-is s h error f.0 f.1
    fails error None f = absurd f

-- the same of the place and the shard that a turn reads
module _ (b : Batch) (opening : ℕ → List SignalCell) (places : List (Option Demand)) (shards : List KeptShard) (parts : IsPlan b opening places shards)
    (n : ℕ) (m : Next) (who : IsNextAt places n (Some m)) (o : Option Demand) (o-is : o ≡ get_or places n o)
    (p : Point) (p-is : (m ≢ Done) × (p ≡ step_point m)) (slot : ℕ) (slot-is : slot ≡ shard_number p.signal (length shards)) (h0 : KeptShard) (index : h0 ≡ get_or shards slot h0) where
  abbrev s0 : Demand
  s0 = who.0

  point : p ≡ step_point (next s0.strand)
  point = p-is.1 ∙ ap step_point (sym who.1.1)

  pub home-is : slot ≡ (step_point (next s0.strand)).signal % length shards
  home-is = slot-is ∙ ap (λ (z : Point). z.signal % length shards) point

  there-is : o ≡ Some s0
  there-is = o-is ∙ get_or_from_slice_get places n (Some s0) o who.1.0

  pub turn-stands : (s : Demand) × ((o ≡ Some s) × (MayStep b h0 (next s.strand) s × (p ≡ step_point (next s.strand))))
  turn-stands = (s0, (there-is, (may-step b opening places shards parts n s0 who.1.0 slot h0 index (next s0.strand) refl (λ e. p-is.0 (sym who.1.1 ∙ e)) home-is, point)))

  module _ (h : KeptShard) (known : IsKnownShard b opening h) (back : Option Demand) where
    pub turn-goes : (t : Turned) (woken_strand : Option (Vec Demand)) → ((s : Demand) → o ≡ Some s → OfPlaceStep b h0 h s (Ok (t, woken_strand)) back) → woken_strand ≡ None → OfTurn b opening (plan_at places shards) n (slice_set places n back) (slice_set shards slot h) (Ok t)
    turn-goes t woken_strand f e = goes b opening places shards parts n s0 who.1.0 slot h0 index home-is h known t back (subst (λ w. OfPlaceStep b h0 h s0 (Ok (t, w)) back) e (f s0 there-is))

    pub turn-wakes : (t : Turned) (woken_strand : Option (Vec Demand)) → ((s : Demand) → o ≡ Some s → OfPlaceStep b h0 h s (Ok (t, woken_strand)) back) → (list : Vec Demand) → woken_strand ≡ Some list
        → Woke b opening places shards parts n s0 who.1.0 slot h0 index (step_point (next s0.strand)) home-is back h list.items t
    turn-wakes t woken_strand f list e = wakes b opening places shards parts n s0 who.1.0 slot h0 index home-is h known t back list (subst (λ w. OfPlaceStep b h0 h s0 (Ok (t, w)) back) e (f s0 there-is))

    pub turn-fails : (error : OutOfMemory) → ((s : Demand) → o ≡ Some s → OfPlaceStep b h0 h s (Err error) back) → OfTurn b opening (plan_at places shards) n (slice_set places n back) (slice_set shards slot h) (Err error)
    turn-fails error f = fails b opening places shards parts n s0 who.1.0 slot h0 index home-is h known error back (f s0 there-is)
