-- A strand that was refused a point.
use Rattle.std.proofs.Common.{◌≡◌, ℕ, ◌%◌, Bool, true, false, cond, List, length, map, get_or, slice_get, slice_set, refl, ap, sym, ◌∙◌, subst, Option, Some, None, Result, Ok, Err, OnOk, OnErr}
use Rattle.texts.specs.declared.OutOfMemory.{OutOfMemory}
use Rattle.valid_intervals.specs.declared.Point.{Point}
use Rattle.valid_intervals.specs.declared.SignalCell.{SignalCell}
use Rattle.journal_meaning.specs.declared.Entry.TheVariants as entry
use Rattle.journal_meaning.specs.States.{holder}
use Rattle.journal_meaning.specs.Batches.{Batch}
use Rattle.plan_machine.specs.declared.strand.Next.{Next}
use Rattle.plan_machine.specs.declared.strand.Next.TheVariants.{Ask, Fill, Drop, Done}
use Rattle.plan_machine.specs.Strands.{Strand, next, next_in, given_up}
use Rattle.plan_machine.proofs.Callers.{asks-unspent, shard-sound, kept-put, set-here}
use Rattle.plan_machine.specs.declared.Turned.TheVariants as comes
use Rattle.plan_machine.specs.Shards.{Shard, IsShard, shard_with_entry}
use Rattle.valid_intervals.specs.Cells.{stored_at}
use Rattle.plan_machine.specs.Plans.{Plan, home, shard_of, claim_of, with_strand}
use Rattle.plan_machine.specs.KeptPlans as kept
use Rattle.plan_machine.specs.KeptPlans.{WaitedShard, IsKeptPlan}
use Rattle.plan_machine.specs.Steps as steps
use Rattle.plan_machine.specs.Steps.{Step, claim_step, ask_step, next_step, step_at, turned_by, turn_outcome}
use Rattle.plan_machine.specs.Turns.{plan_after, turn_at, turn}
use Rattle.plan_machine.specs.Alone.{plan_refusing}
use Rattle.demand_points.specs.Demands.{Demand}
use Rattle.memo_shards.specs.KeptShards.{KeptShard, IsKnownShard}
use Rattle.memo_shards.specs.Asks.{IsHere, IsUnfound}
use Rattle.memo_shards.specs.Ends as ends
use Rattle.memo_shards.specs.Seen.{waited_shard, parked_of}
use Rattle.plan_core.specs.inner.Places.{seats}
use Rattle.plan_core.specs.inner.Parts.{waited_shards, plan_at, IsPlan}
use Rattle.plan_core.specs.Parts.{AreInOrder}
use Rattle.plan_core.specs.inner.Turns.{IsSeen}
use Rattle.plan_core.specs.inner.Refusals.{IsRefusedAt, OfRefusal, AsksFor}
use Rattle.plan_core.proofs.Lists.{set-same}
use Rattle.plan_core.proofs.Seen.{here, in-plan, awake, at-home, number-is, shards-count, shard-here, seen-as, rest-seen, home as home-is}

-- A turn that was Spent: the strand was refused what it asked for.
pub record WasRefused (b : Batch) (plan : Plan) (n : ℕ) : Type 0 where
  pub point : Point
  pub asked : AsksFor plan n point
  pub after : IsRefusedAt (turn b plan n) n point

module _ (b : Batch) (plan : Plan) (n : ℕ) where
  is-spend : (t : Step) → turned_by t ≡ comes.Spent → t ≡ steps.Spend
  is-spend (steps.Tell p x) h = absurd (cc h)
  is-spend (steps.Claim p) h = absurd (cc h)
  is-spend steps.Wait h = absurd (cc h)
  is-spend steps.Spend h = refl
  is-spend (steps.Finish p) h = absurd (cc h)
  is-spend (steps.GiveBack p) h = absurd (cc h)
  is-spend steps.Rest h = absurd (cc h)

  module _ (s : Strand) (at : slice_get plan.strands n ≡ Some s) where
    made : s.waits ≡ false → (p : Point) → next s ≡ Ask p → stored_at (shard_of plan p).state.cells p ≡ None → claim_of plan p ≡ None → step_at plan (Some s) ≡ steps.Spend → WasRefused b plan n
    made calm p asks missed free is =
        let turn_is : turn b plan n ≡ with_strand plan n (given_up s) = ap (turn_at b plan n) at ∙ ap (plan_after b plan n s) is in
        record {
          point = p;
          asked = record { strand = s; at = at; awake = calm; asks = asks };
          after = subst (λ (z : Plan). IsRefusedAt z n p) (sym turn_is) (record {
            strand = given_up s;
            at = set-here plan.strands n s (given_up s) at;
            awake = calm;
            spent = refl;
            asks = subst (λ w. next_in w s.roots s.stack ≡ Ask p) (asks-unspent s p asks) asks;
            missed = missed;
            unclaimed = free;
          });
        }

    by-claim : s.waits ≡ false → (p : Point) → next s ≡ Ask p → stored_at (shard_of plan p).state.cells p ≡ None → (o : Option ℕ) → claim_of plan p ≡ o → claim_step s p o ≡ steps.Spend → step_at plan (Some s) ≡ steps.Spend → WasRefused b plan n
    by-claim calm p asks missed (Some q) e h is = absurd (cc h)
    by-claim calm p asks missed None e h is = made calm p asks missed e is

    by-cell : s.waits ≡ false → (p : Point) → next s ≡ Ask p → (o : Option SignalCell) → stored_at (shard_of plan p).state.cells p ≡ o → ask_step plan s p o ≡ steps.Spend → step_at plan (Some s) ≡ steps.Spend → WasRefused b plan n
    by-cell calm p asks (Some x) e h is = absurd (cc h)
    by-cell calm p asks None e h is = by-claim calm p asks e (claim_of plan p) refl h is

    by-next : s.waits ≡ false → (m : Next) → next s ≡ m → next_step plan s m ≡ steps.Spend → step_at plan (Some s) ≡ steps.Spend → WasRefused b plan n
    by-next calm (Ask p) e h is = by-cell calm p e (stored_at (shard_of plan p).state.cells p) refl h is
    by-next calm (Fill p) e h is = absurd (cc h)
    by-next calm (Drop p) e h is = absurd (cc h)
    by-next calm Done e h is = absurd (cc h)

    by-waits : (w : Bool) → s.waits ≡ w → cond w steps.Rest (next_step plan s (next s)) ≡ steps.Spend → step_at plan (Some s) ≡ steps.Spend → WasRefused b plan n
    by-waits true e h is = absurd (cc h)
    by-waits false e h is = by-next e (next s) refl h is

    by-step : step_at plan (Some s) ≡ steps.Spend → WasRefused b plan n
    by-step is = by-waits s.waits refl is is

  pub was-refused : turn_outcome plan n ≡ comes.Spent → WasRefused b plan n
  was-refused h = by (slice_get plan.strands n) refl (is-spend (step_at plan (slice_get plan.strands n)) h)
    where
      by : (o : Option Strand) → slice_get plan.strands n ≡ o → step_at plan o ≡ steps.Spend → WasRefused b plan n
      by None at is = absurd (cc is)
      by (Some s) at is = by-step s at is

module _ (b : Batch) (opening : ℕ → List SignalCell) (places : List (Option Demand)) (shards : List KeptShard) (parts : IsPlan b opening places shards)
    (n : ℕ) (s0 : Demand) (at : slice_get places n ≡ Some (Some s0)) (p : Point)
    (slot : ℕ) (slot-is : slot ≡ p.signal % length shards) (h0 : KeptShard) (index : h0 ≡ get_or shards slot h0) (r : IsRefusedAt (plan_at places shards) n p) where
  abbrev old : Plan
  old = plan_at places shards

  at-plan : slice_get old.strands n ≡ Some s0.strand
  at-plan = in-plan b opening places shards parts n s0 at

  same-strand : r.strand ≡ s0.strand
  same-strand = let k = r.at in let l = at-plan in cc (k, l)

  there : shard_of old p ≡ h0.shard
  there = shard-here b opening places shards parts n s0 at p slot slot-is h0 index

  pub refused-spent : s0.strand.spent ≡ true
  refused-spent = ap (λ (z : Strand). z.spent) (sym same-strand) ∙ r.spent

  pub refused-asks : next_in false s0.strand.roots s0.strand.stack ≡ Ask p
  refused-asks = ap (λ (z : Strand). next_in false z.roots z.stack) (sym same-strand) ∙ r.asks

  pub refused-here : IsHere b h0 p
  refused-here = ap (λ m. p.signal % m) (sym (shards-count b opening places shards parts)) ∙ sym slot-is ∙ sym (number-is b opening places shards parts n s0 at p slot slot-is h0 index)

  pub refused-open : IsUnfound h0 p
  refused-open = record {
    missed = ap (λ (z : Shard). stored_at z.state.cells p) (sym there) ∙ r.missed;
    unclaimed = ap (λ (z : Shard). holder z.state.claims p) (sym there) ∙ r.unclaimed;
  }

  pub refused-seen : (h : KeptShard) → IsKnownShard b opening h → h ≡ ends.with_shard h0 (shard_with_entry (entry.Spent s0.strand.query.number p (length s0.strand.stack)) h0.shard)
      → (s : Strand) × ((slice_get old.strands n ≡ Some s) × IsSeen b opening places (slice_set shards slot h) (plan_refusing old s (Ask p)))
  refused-seen h known is =
      let e = entry.Spent s0.strand.query.number p (length s0.strand.stack) in
      let calm = awake b opening places shards parts n s0 at in
      let here_0 = here b opening places shards parts n s0 at in
      let number : h.number ≡ h0.number = ap (λ (z : KeptShard). z.number) is in
      let shard : h.shard ≡ shard_with_entry e h0.shard = ap (λ (z : KeptShard). z.shard) is in
      let parked : (waited_shard h).parked ≡ (kept.waited_shard_at (waited_shards shards) p).parked = ap (λ (z : KeptShard). map parked_of z.waiting) is ∙ ap (λ (z : WaitedShard). z.parked) (sym (home-is b opening places shards parts n s0 at p slot slot-is h0 index)) in
      let hs = slice_set (waited_shards shards) (p.signal % length (waited_shards shards)) (waited_shard h) in
      let now_0 = kept-put (seats places) (waited_shards shards) old.strands parts.kept_plan n s0.strand here_0 p s0.strand (waited_shard h) calm parked in
      let now : IsKeptPlan (seats places) hs old.strands =
      subst (λ xs. IsKeptPlan (seats places) hs xs) (set-same old.strands n s0.strand at-plan) (subst (λ z. IsKeptPlan z hs (slice_set old.strands n s0.strand)) (set-same (seats places) n (Some s0.strand) here_0) now_0) in
      let many : length old.shards ≡ b.shards = parts.sound.count in
      let home_is : h.number ≡ home old p = number ∙ number-is b opening places shards parts n s0 at p slot slot-is h0 index ∙ slot-is ∙ ap (λ m. p.signal % m) (shards-count b opening places shards parts ∙ sym many) in
      let right : IsShard b (home old p) (opening (home old p)) (shard_with_entry e (shard_of old p)) =
      subst (λ z. IsShard b (home old p) (opening (home old p)) z) (shard ∙ ap (shard_with_entry e) (sym there)) (subst (λ k. IsShard b k (opening k) h.shard) home_is known.shard) in
      let sound = shard-sound b parts.lawful opening old parts.sound p (shard_with_entry e (shard_of old p)) right refl n s0.strand at-plan calm in (
        s0.strand,
        (
          at-plan,
          seen-as b opening places shards parts n s0 at p slot slot-is h0 index places h (λ ys. ys) (shard_with_entry e) parts.numbers number now shard
              (plan_refusing old s0.strand (Ask p)) sound refl,
        ),
      )

  pub refused-not : (h : KeptShard) → h ≡ h0 → IsSeen b opening places (slice_set shards slot h) old
  refused-not h is =
      let shards_is : slice_set shards slot h ≡ shards = ap (slice_set shards slot) is ∙ set-same shards slot h0 (at-home b opening places shards parts n s0 at p slot slot-is h0 index) in
      rest-seen b opening places shards parts places (slice_set shards slot h) parts.numbers (subst AreInOrder (sym shards_is) parts.order) refl (ap waited_shards shards_is)

  -- whatever came of it
  pub refused-end : (h : KeptShard) → IsKnownShard b opening h → (came : Result Unit OutOfMemory) → OnOk came (h ≡ ends.with_shard h0 (shard_with_entry (entry.Spent s0.strand.query.number p (length s0.strand.stack)) h0.shard)) → OnErr came (h ≡ h0)
      → OfRefusal b opening old n p places (slice_set shards slot h) came
  refused-end h known (Ok u) ok err = refused-seen h known ok
  refused-end h known (Err e) ok err = refused-not h err
