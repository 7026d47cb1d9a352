-- One turn of a strand that is alone over the shards.
use Rattle.std.proofs.Common.{◌≡◌, ◌≢◌, ℕ, zero, suc, ◌+◌, ◌-◌, ◌<◌, ◌≤◌, ◌%◌, Bool, true, false, List, [], ◌∷◌, ◌++◌, length, filter, get_or, slice_get, slice_set, refl, ap, sym, ◌∙◌, subst, arith, inl, inr, true≢false, Option, Some, None, IsSome}
use Rattle.std.proofs.Math.ListN.{length-map, length-set}
use Rattle.std.proofs.lemmas.Bool.{cases_eq}
use Rattle.std.proofs.lemmas.List.{map-set}
use Rattle.std.proofs.lemmas.List.Sums.{sum_by-set}
use Rattle.std.proofs.lemmas.Option.{get_or_from_slice_get, slice_get-get_or, get_or_from_slice_get}
use Rattle.valid_intervals.specs.declared.Point.{Point}
use Rattle.valid_intervals.specs.declared.SignalCell.{SignalCell}
use Rattle.valid_intervals.specs.Cells.{stored_at}
use Rattle.circuit_meaning.specs.Circuit.{Circuit}
use Rattle.circuit_meaning.specs.Cells.{cell_at}
use Rattle.circuit_meaning.specs.declared.Window.{Window}
use Rattle.journal_meaning.specs.declared.Entry.TheVariants as entry
use Rattle.journal_meaning.specs.States.{holder}
use Rattle.journal_meaning.specs.Counts.{booked_count}
use Rattle.journal_meaning.specs.declared.batch.Query.{Query}
use Rattle.journal_meaning.specs.Batches.{Batch}
use Rattle.plan_machine.specs.declared.strand.Next.{Next}
use Rattle.plan_machine.specs.declared.strand.Next.TheVariants.{Ask, Fill, Drop, Done}
use Rattle.plan_machine.specs.Strands.{Frame, Strand, roots_from, is_evaluable, next_in, next, after_answer, after_claim, given_up, after_drop, after_fill, IsOnStack}
use Rattle.plan_machine.proofs.Callers.{asks-first, asks-unspent, fill-top, drop-top, top-held, earlier, IsTurn, told-turn, claimed-turn, spent-turn, filled-turn, dropped-turn, done-turn, set-here, set-other, map-get, booked-filled, turn-sound}
use Rattle.plan_machine.specs.Shards.{Shard, shard_with_entry, filled_shard}
use Rattle.plan_machine.specs.Plans.{Plan, no_shard, home, shard_of, claim_of}
use Rattle.plan_machine.specs.declared.Turned.{Turned}
use Rattle.plan_machine.specs.declared.Turned.TheVariants as comes
use Rattle.plan_machine.specs.Steps as steps
use Rattle.plan_machine.specs.Steps.{Step, turned_by, turn_outcome}
use Rattle.plan_machine.specs.Turns.{plan_after, turn}
use Rattle.plan_machine.specs.Sound.{IsSound}
use Rattle.journal_meaning.proofs.Callers.{booked-append}
use Rattle.demand_points.specs.declared.strand.Task.{Task}
use Rattle.demand_points.specs.Demands as demands
use Rattle.demand_points.specs.Demands.{Demand, IsKnownStrand, TakesStep, roots_left}
use Rattle.memo_shards.specs.KeptShards.{KeptShard}
use Rattle.memo_shards.specs.Asks.{Tells, ClaimsIt, IsTaken, Refuses}
use Rattle.memo_shards.specs.Ends.{FillsIt, DropsIt}
use Rattle.memo_shards.specs.Steps.{MayStep, step_point}
use Rattle.plan_core.specs.Parts.{AreInOrder, plan_of_new, shards_in}
use Rattle.plan_core.specs.InTurn.{booked_by, booked_in, made_by}
use Rattle.plan_core.specs.inner.InTurn.{IsAlone, KeepsTask, MakesTurn, MakesNone}
use Rattle.plan_core.proofs.Lists.{set-same}

-- a strand whose window ends at 0 has no root
roots-none : (c : Circuit) (w : Window) (root : ℕ) → w.stop ≡ 0 → roots_left c w root ≡ []
unfolding roots_from
roots-none c w root e = let k : w.stop - root ≡ 0 = omega arith in ap (λ n. filter (is_evaluable c) (roots_from c w n root)) k

rests-in : (spent : Bool) → next_in spent [] [] ≡ Done
rests-in true = refl
rests-in false = refl

none-held : (st : List Frame) → (0 < length st → ⊥) → st ≡ []
none-held [] h = refl
none-held (f ∷ fs) h = absurd (h (omega arith))

pub ends-at-0 : (b : Batch) (w : Demand) → IsKnownStrand b w → w.to ≡ 0 → next w.strand ≡ Done
ends-at-0 b w known e =
    let none : w.strand.stack ≡ [] = none-held w.strand.stack (λ l. let k = known.busy l in omega arith) in
    let roots : w.strand.roots ≡ [] = known.roots ∙ roots-none b.circuit (record { signal = w.strand.query.signal; start = w.from; stop = w.to }) w.root e in
    ap (λ (xs : List Point). next_in w.strand.spent xs w.strand.stack) roots ∙ ap (next_in w.strand.spent []) none ∙ rests-in w.strand.spent

pub above-0 : (b : Batch) (w : Demand) → IsKnownStrand b w → (next w.strand ≡ Done → ⊥) → 0 < w.to
above-0 b w known goes = by w.to refl
  where
    by : (n : ℕ) → w.to ≡ n → 0 < w.to
    by zero e = absurd (goes (ends-at-0 b w known e))
    by (suc n) e = omega arith

-- a step keeps what the strand was started with
takes-keeps : (f : Strand → Strand) (w s : Demand) → TakesStep f w s → (f w.strand).query ≡ w.strand.query → (f w.strand).budget ≡ w.strand.budget → KeepsTask w s
takes-keeps f w s step query budget =
    let made : Query → ℕ → ℕ → ℕ → Task = λ q from to n. record { query = q; from = from; to = to; budget = n } in
    record {
      number = step.number;
      task = ap (λ q. made q s.from s.to s.strand.budget) (ap (λ (z : Strand). z.query) step.strand ∙ query) ∙ ap (λ n. made w.strand.query n s.to s.strand.budget) step.from
          ∙ ap (λ n. made w.strand.query w.from n s.strand.budget) step.to ∙ ap (made w.strand.query w.from w.to) (ap (λ (z : Strand). z.budget) step.strand ∙ budget);
    }

pub keeps-more : (w r s : Demand) → KeepsTask w r → KeepsTask r s → KeepsTask w s
keeps-more w r s a e = record { number = e.number ∙ a.number; task = e.task ∙ a.task }

-- base answers that are heard change nothing here
module _ (b : Batch) (opening : ℕ → List SignalCell) (w r : Demand) (shards : List KeptShard) (step : TakesStep demands.itself w r) where
  heard-keeps : KeepsTask w r
  heard-keeps = takes-keeps demands.itself w r step refl refl

  abbrev Q : (Plan → Type 0) → Strand → Type 0
  Q P z = P (record { strands = z ∷ []; shards = shards_in shards })

  pub alone-heard : IsAlone b opening w shards → IsAlone b opening r shards
  alone-heard a = record {
    lawful = a.lawful;
    order = a.order;
    count = a.count;
    sound = λ l. subst (Q (IsSound b opening)) (sym step.strand) (a.sound (subst (λ n. 0 < n) step.to l));
  }

  pub turn-heard : (s : Demand) (after : List KeptShard) (t : Turned) → MakesTurn b opening r shards s after t → MakesTurn b opening w shards s after t
  turn-heard s after t m =
      let e : r.strand ≡ w.strand = step.strand in
      record {
        alone = m.alone;
        task = keeps-more w r s heard-keeps m.task;
        outcome = subst (Q (λ z. t ≡ turn_outcome z 0)) e m.outcome;
        turn = subst (Q (λ z. plan_of_new (s ∷ []) after ≡ turn b z 0)) e m.turn;
        done = m.done;
        stays = m.stays;
        live = λ h. subst (λ n. 0 < n) step.to (m.live h);
        unspent = λ h k. subst (λ (z : Strand). z.spent ≡ false) e (m.unspent h k);
        refused = m.refused;
        full = λ h. m.full (subst (λ (z : Strand). z.spent ≡ true → z.charged ≡ z.budget) (sym e) h);
        counted = subst (λ (z : Strand). made_by s + booked_in shards ≡ z.charged + z.filled + booked_in after) e m.counted;
        one = subst (λ (z : Strand). made_by s ≤ z.charged + z.filled + 1) e m.one;
      }

  pub none-heard : (s : Demand) (after : List KeptShard) → s ≡ r → after ≡ shards → MakesNone w shards s after
  none-heard s after e k = record {
    task = subst (KeepsTask w) (sym e) heard-keeps;
    strand = ap (λ (z : Demand). z.strand) e ∙ step.strand;
    unchanged = k;
  }

-- one that has ended makes no turn
pub ended-turn : (b : Batch) (opening : ℕ → List SignalCell) (w : Demand) (shards : List KeptShard) → IsAlone b opening w shards → IsKnownStrand b w → next w.strand ≡ Done → MakesTurn b opening w shards w shards comes.NotReady
ended-turn b opening w shards alone known done =
    let is = done-turn b (plan_of_new (w ∷ []) shards) 0 w.strand refl known.awake done in
    record {
      alone = alone;
      task = record { number = refl; task = refl };
      outcome = sym (ap turned_by is.step);
      turn = sym is.turn;
      done = λ _. done;
      stays = λ _. refl;
      live = λ h. absurd (h refl);
      unspent = λ _ e. e;
      refused = λ e. absurd (cc e);
      full = λ h. h;
      counted = refl;
      one = omega arith;
    }

module _ (b : Batch) (opening : ℕ → List SignalCell) (w : Demand) (shards : List KeptShard) (alone : IsAlone b opening w shards) (known : IsKnownStrand b w)
    (n : Next) (next-is : next w.strand ≡ n) (goes : n ≢ Done) (slot : ℕ) (slot-is : slot ≡ (step_point n).signal % length shards) (d : KeptShard) where
  abbrev old : Plan
  old = plan_of_new (w ∷ []) shards

  abbrev p : Point
  p = step_point n

  -- the shard of the point
  abbrev h0 : KeptShard
  h0 = get_or shards slot d

  above : 0 < w.to
  above = above-0 b w known (λ e. goes (sym next-is ∙ e))

  sound : IsSound b opening old
  sound = alone.sound above

  low : slot < length shards
  low = let some = alone.lawful.some_shard in let count = alone.count in omega arith

  at-slot : slice_get shards slot ≡ Some h0
  at-slot = slice_get-get_or shards slot d low

  home-is : home old p ≡ slot
  home-is = ap (λ n. p.signal % n) (length-map shards (λ (m : KeptShard). m.shard)) ∙ sym slot-is

  there : shard_of old p ≡ h0.shard
  there = ap (λ n. get_or (shards_in shards) n no_shard) home-is ∙ get_or_from_slice_get (shards_in shards) slot h0.shard no_shard (map-get (λ (m : KeptShard). m.shard) shards slot h0 at-slot)

  none : stored_at h0.shard.state.cells p ≡ None → stored_at (shard_of old p).state.cells p ≡ None
  none h = ap (λ (z : Shard). stored_at z.state.cells p) there ∙ h

  claim : (o : Option ℕ) → holder h0.shard.state.claims p ≡ o → claim_of old p ≡ o
  claim o h = ap (λ (z : Shard). holder z.state.claims p) there ∙ h

  holds : IsOnStack w.strand.stack p → holder h0.shard.state.claims p ≡ Some w.strand.query.number
  holds h = ap (λ (z : Shard). holder z.state.claims p) (sym there) ∙ sound.linked.on_stack 0 w.strand p refl h

  -- its step may be made at this shard
  pub may-step : MayStep b h0 n w
  may-step = by n refl
    where
      by : (m : Next) → n ≡ m → MayStep b h0 m w
      by (Ask x) e =
          let at : p ≡ x = ap step_point e in
          ap (λ n. x.signal % n) (sym alone.count) ∙ ap (λ (z : Point). z.signal % length shards) (sym at) ∙ sym slot-is ∙ sym (alone.order slot h0 at-slot)
      by (Fill x) e = subst (λ z. holder h0.shard.state.claims z ≡ Some w.strand.query.number) (ap step_point e) (holds (subst (IsOnStack w.strand.stack) (sym (ap step_point e)) (top-held w.strand.stack x (fill-top w.strand x (next-is ∙ e)))))
      by (Drop x) e = subst (λ z. holder h0.shard.state.claims z ≡ Some w.strand.query.number) (ap step_point e) (holds (subst (IsOnStack w.strand.stack) (sym (ap step_point e)) (top-held w.strand.stack x (drop-top w.strand x (next-is ∙ e)))))
      by Done e = absurd (goes e)

  -- the plan with another strand and another shard
  plan-is : (s : Demand) (h : KeptShard) (t : Strand) (g : Shard) → s.strand ≡ t → h.shard ≡ g → plan_of_new (s ∷ []) (slice_set shards slot h) ≡ record { strands = t ∷ []; shards = slice_set (shards_in shards) (home old p) g }
  plan-is s h t g e k =
      let made : Strand → List Shard → Plan = λ x hs. record { strands = x ∷ []; shards = hs } in
      ap (λ x. made x (shards_in (slice_set shards slot h))) e
      ∙ ap (made t) (map-set (λ (m : KeptShard). m.shard) shards slot h ∙ ap (λ n. slice_set (shards_in shards) n h.shard) (sym home-is) ∙ ap (slice_set (shards_in shards) (home old p)) k)

  order-after : (h : KeptShard) → h.number ≡ h0.number → AreInOrder (slice_set shards slot h)
  order-after h number i m at = elim (cases_eq i slot) [
    | inl e ↦
        let now : slice_get (slice_set shards slot h) i ≡ Some h = subst (λ j. slice_get (slice_set shards slot h) j ≡ Some h) (sym e) (set-here shards slot h0 h at-slot) in
        let same : h ≡ m = cc (now, at) in
        ap (λ (z : KeptShard). z.number) (sym same) ∙ number ∙ alone.order slot h0 at-slot ∙ sym e
    | inr e ↦ alone.order i m (sym (set-other shards slot i h e) ∙ at)
  ]

  -- what is booked in all shards
  books : (s : Demand) (h : KeptShard) → made_by s + booked_by h0 ≡ made_by w + booked_by h → made_by s + booked_in shards ≡ made_by w + booked_in (slice_set shards slot h)
  books s h e =
      let k = sum_by-set booked_by shards slot h h0 low in
      let here : booked_by (get_or shards slot h0) ≡ booked_by h0 = ap booked_by (get_or_from_slice_get shards slot h0 h0 at-slot) in
      omega arith

  -- a turn that is made
  record Moves (s : Demand) (h : KeptShard) (x : Step) : Type 0 where
    is : IsTurn b old 0 w.strand x
    plan : plan_of_new (s ∷ []) (slice_set shards slot h) ≡ plan_after b old 0 w.strand x
    task : KeepsTask w s
    number : h.number ≡ h0.number
    moves : turned_by x ≢ comes.NotReady
    unspent : turned_by x ≢ comes.Spent → s.strand.spent ≡ false → w.strand.spent ≡ false
    refused : turned_by x ≡ comes.Spent → s.strand.spent ≡ true
    full : (w.strand.spent ≡ true → w.strand.charged ≡ w.strand.budget) → s.strand.spent ≡ true → s.strand.charged ≡ s.strand.budget
    books : made_by s + booked_by h0 ≡ made_by w + booked_by h
    one : made_by s ≤ made_by w + 1

  moved : (s : Demand) (h : KeptShard) (x : Step) → Moves s h x → MakesTurn b opening w shards s (slice_set shards slot h) (turned_by x)
  moved s h x m =
      let turns : plan_of_new (s ∷ []) (slice_set shards slot h) ≡ turn b old 0 = m.plan ∙ sym m.is.turn in
      record {
        alone = record {
          lawful = alone.lawful;
          order = order-after h m.number;
          count = length-set shards slot h ∙ alone.count;
          sound = λ _. subst (IsSound b opening) (sym turns) (turn-sound b alone.lawful opening old sound 0);
        };
        task = m.task;
        outcome = sym (ap turned_by m.is.step);
        turn = turns;
        done = λ e. absurd (m.moves e);
        stays = λ e. absurd (m.moves e);
        live = λ _. above;
        unspent = m.unspent;
        refused = m.refused;
        full = m.full;
        counted = books s h m.books;
        one = m.one;
      }

  -- a strand that has no other flag and no other charge
  same-full : (s : Demand) → s.strand.spent ≡ w.strand.spent → s.strand.charged ≡ w.strand.charged → s.strand.budget ≡ w.strand.budget → (w.strand.spent ≡ true → w.strand.charged ≡ w.strand.budget) → s.strand.spent ≡ true → s.strand.charged ≡ s.strand.budget
  same-full s flag charged budget h e = let k = h (sym flag ∙ e) in omega arith

  pub told : (s : Demand) (h : KeptShard) → n ≡ Ask p → Tells h0 h p w s → MakesTurn b opening w shards s (slice_set shards slot h) comes.Told
  told s h e f =
      let asks = next-is ∙ e in
      let x = steps.Tell p f.cell in
      let note = entry.Told w.strand.query.number p f.cell.cell in
      let g = shard_with_entry note in
      let t = f.strand.strand in
      let flag : s.strand.spent ≡ w.strand.spent = ap (λ (z : Strand). z.spent) t in
      let charged : s.strand.charged ≡ w.strand.charged = ap (λ (z : Strand). z.charged) t in
      let filled : s.strand.filled ≡ w.strand.filled = ap (λ (z : Strand). z.filled) t in
      let budget : s.strand.budget ≡ w.strand.budget = ap (λ (z : Strand). z.budget) t in
      let shard : h.shard ≡ g h0.shard = ap (λ (z : KeptShard). z.shard) f.shard in
      let more = booked-append h0.shard.journal (note ∷ []) in
      let now : booked_by h ≡ booked_count (h0.shard.journal ++ note ∷ []) = ap (λ (z : Shard). booked_count z.journal) shard in
      moved s h x (record {
        is = told-turn b old 0 w.strand refl known.awake p f.cell asks (ap (λ (z : Shard). stored_at z.state.cells p) there ∙ f.stored);
        plan = plan-is s h (after_answer w.strand) (g (shard_of old p)) t (shard ∙ ap g (sym there));
        task = takes-keeps after_answer w s f.strand refl refl;
        number = ap (λ (z : KeptShard). z.number) f.shard;
        moves = λ e. cc e;
        unspent = λ _ e. sym flag ∙ e;
        refused = λ e. absurd (cc e);
        full = same-full s flag charged budget;
        books = omega arith;
        one = omega arith;
      })

  pub claims : (s : Demand) (h : KeptShard) → n ≡ Ask p → ClaimsIt b h0 h p w s → MakesTurn b opening w shards s (slice_set shards slot h) comes.Claimed
  claims s h e f =
      let asks = next-is ∙ e in
      let x = steps.Claim p in
      let note = entry.Claimed w.strand.query.number p in
      let g = shard_with_entry note in
      let t = f.strand.strand in
      let flag : s.strand.spent ≡ w.strand.spent = ap (λ (z : Strand). z.spent) t in
      let charged : s.strand.charged ≡ w.strand.charged + 1 = ap (λ (z : Strand). z.charged) t in
      let filled : s.strand.filled ≡ w.strand.filled = ap (λ (z : Strand). z.filled) t in
      let shard : h.shard ≡ g h0.shard = ap (λ (z : KeptShard). z.shard) f.shard in
      let more = booked-append h0.shard.journal (note ∷ []) in
      let now : booked_by h ≡ booked_count (h0.shard.journal ++ note ∷ []) = ap (λ (z : Shard). booked_count z.journal) shard in
      let unspent : w.strand.spent ≡ false = asks-unspent w.strand p asks in
      moved s h x (record {
        is = claimed-turn b old 0 w.strand refl known.awake p asks (none f.unfound.missed) (claim None f.unfound.unclaimed) f.within;
        plan = plan-is s h (after_claim b.circuit w.strand p) (g (shard_of old p)) t (shard ∙ ap g (sym there));
        task = takes-keeps (λ z. after_claim b.circuit z p) w s f.strand refl refl;
        number = ap (λ (z : KeptShard). z.number) f.shard;
        moves = λ e. cc e;
        unspent = λ _ e. sym flag ∙ e;
        refused = λ e. absurd (cc e);
        full = λ _ e. absurd (true≢false (sym e ∙ flag ∙ unspent));
        books = omega arith;
        one = omega arith;
      })

  pub refused : (s : Demand) (h : KeptShard) → n ≡ Ask p → Refuses h0 h p w s → MakesTurn b opening w shards s (slice_set shards slot h) comes.Spent
  refused s h e f =
      let asks = next-is ∙ e in
      let t = f.strand.strand in
      let charged : s.strand.charged ≡ w.strand.charged = ap (λ (z : Strand). z.charged) t in
      let filled : s.strand.filled ≡ w.strand.filled = ap (λ (z : Strand). z.filled) t in
      let budget : s.strand.budget ≡ w.strand.budget = ap (λ (z : Strand). z.budget) t in
      let shard : h.shard ≡ h0.shard = ap (λ (z : KeptShard). z.shard) f.shard in
      let now : booked_by h ≡ booked_by h0 = ap (λ (z : Shard). booked_count z.journal) shard in
      let full : w.strand.budget ≤ w.strand.charged = let k = f.spent in omega arith in
      let at : slice_get (shards_in shards) (home old p) ≡ Some h0.shard = ap (slice_get (shards_in shards)) home-is ∙ map-get (λ (m : KeptShard). m.shard) shards slot h0 at-slot in
      moved s h steps.Spend (record {
        is = spent-turn b old 0 w.strand refl known.awake p asks (none f.unfound.missed) (claim None f.unfound.unclaimed) full;
        plan = plan-is s h (given_up w.strand) h0.shard t shard
            ∙ ap (λ (hs : List Shard). let z : Plan = record { strands = given_up w.strand ∷ []; shards = hs } in z) (set-same (shards_in shards) (home old p) h0.shard at);
        task = takes-keeps given_up w s f.strand refl refl;
        number = ap (λ (z : KeptShard). z.number) f.shard;
        moves = λ e. cc e;
        unspent = λ h. absurd (h refl);
        refused = λ _. ap (λ (z : Strand). z.spent) t;
        full = λ _ _. let k = f.spent in omega arith;
        books = omega arith;
        one = omega arith;
      })

  pub filled : (s : Demand) (h : KeptShard) (woken : List Demand) → n ≡ Fill p → FillsIt b h0 h p w s woken → MakesTurn b opening w shards s (slice_set shards slot h) comes.Filled
  filled s h woken e f =
      let fills = next-is ∙ e in
      let g = filled_shard b.capacity w.strand.query.number p (cell_at b.circuit p) in
      let t = f.strand.strand in
      let flag : s.strand.spent ≡ w.strand.spent = ap (λ (z : Strand). z.spent) t in
      let charged : s.strand.charged ≡ w.strand.charged = ap (λ (z : Strand). z.charged) t in
      let more : s.strand.filled ≡ w.strand.filled + 1 = ap (λ (z : Strand). z.filled) t in
      let budget : s.strand.budget ≡ w.strand.budget = ap (λ (z : Strand). z.budget) t in
      let now : booked_by h ≡ booked_count (g h0.shard).journal = ap (λ (z : Shard). booked_count z.journal) f.shard in
      let one = booked-filled b.capacity w.strand.query.number p (cell_at b.circuit p) h0.shard in
      moved s h (steps.Finish p) (record {
        is = filled-turn b old 0 w.strand refl known.awake p fills;
        plan = plan-is s h (after_fill w.strand) (g (shard_of old p)) t (f.shard ∙ ap g (sym there));
        task = takes-keeps after_fill w s f.strand refl refl;
        number = f.number;
        moves = λ e. cc e;
        unspent = λ _ e. sym flag ∙ e;
        refused = λ e. absurd (cc e);
        full = same-full s flag charged budget;
        books = omega arith;
        one = omega arith;
      })

  pub dropped : (s : Demand) (h : KeptShard) (woken : List Demand) → n ≡ Drop p → DropsIt h0 h p w s woken → MakesTurn b opening w shards s (slice_set shards slot h) comes.Dropped
  dropped s h woken e f =
      let drops = next-is ∙ e in
      let note = entry.Dropped w.strand.query.number p in
      let g = shard_with_entry note in
      let t = f.strand.strand in
      let flag : s.strand.spent ≡ w.strand.spent = ap (λ (z : Strand). z.spent) t in
      let charged : s.strand.charged ≡ w.strand.charged = ap (λ (z : Strand). z.charged) t in
      let filled : s.strand.filled ≡ w.strand.filled = ap (λ (z : Strand). z.filled) t in
      let budget : s.strand.budget ≡ w.strand.budget = ap (λ (z : Strand). z.budget) t in
      let more = booked-append h0.shard.journal (note ∷ []) in
      let now : booked_by h ≡ booked_count (h0.shard.journal ++ note ∷ []) = ap (λ (z : Shard). booked_count z.journal) f.shard in
      moved s h (steps.GiveBack p) (record {
        is = dropped-turn b old 0 w.strand refl known.awake p drops;
        plan = plan-is s h (after_drop w.strand) (g (shard_of old p)) t (f.shard ∙ ap g (sym there));
        task = takes-keeps after_drop w s f.strand refl refl;
        number = f.number;
        moves = λ e. cc e;
        unspent = λ _ e. sym flag ∙ e;
        refused = λ e. absurd (cc e);
        full = same-full s flag charged budget;
        books = omega arith;
        one = omega arith;
      })

  -- what it asks for is not claimed: only this strand holds points, and they are later
  pub never-taken : (s : Demand) (h : KeptShard) → n ≡ Ask p → IsTaken h0 h p w s → ⊥
  never-taken s h asks f = by (holder h0.shard.state.claims p) refl f.claimed
    where
      by : (o : Option ℕ) → holder h0.shard.state.claims p ≡ o → IsSome o → ⊥
      by None e h = absurd (cc h)
      by (Some q) e h = held (sound.linked.holder p q (claim (Some q) e))
        where
          held : (i : ℕ) × ((r : Strand) × ((slice_get old.strands i ≡ Some r) × IsOnStack r.stack p)) → ⊥
          held (zero, r) =
              let same : w.strand ≡ r.0 = let at = r.1.0 in cc at in
              let mine : IsOnStack w.strand.stack p = subst (λ (z : Strand). IsOnStack z.stack p) (sym same) r.1.1 in
              let is = sound.strands 0 w.strand refl in
              let before : p.time < p.time = earlier b.circuit alone.lawful.circuit w.strand.roots w.strand.stack p p is.chain (asks-first w.strand p (next-is ∙ asks)) mine in
              omega arith
          held (suc i, r) = let at = r.1.0 in absurd (cc at)

  -- where memory ran out, the shard is as it was
  pub same-shards : (h : KeptShard) → h ≡ h0 → slice_set shards slot h ≡ shards
  same-shards h e = ap (slice_set shards slot) e ∙ set-same shards slot h0 at-slot
