-- The turn of a strand that waits or has ended.
use Rattle.std.proofs.Common.{◌≡◌, ℕ, ◌<◌, true, false, arith, List, length, ◌∙◌, slice_get, refl, ap, sym, subst, Option, Some, None, Ok}
use Rattle.valid_intervals.specs.declared.SignalCell.{SignalCell}
use Rattle.journal_meaning.specs.Batches.{Batch}
use Rattle.plan_machine.specs.declared.strand.Next.TheVariants.{Done}
use Rattle.plan_machine.specs.Strands.{Strand, waiting}
use Rattle.plan_machine.specs.declared.Turned.TheVariants as comes
use Rattle.plan_machine.specs.Plans.{Plan}
use Rattle.plan_machine.specs.Steps.{Rest, turned_by}
use Rattle.plan_machine.proofs.Callers.{IsTurn, done-turn, waiting-turn, map-get}
use Rattle.std.proofs.Math.ListN.{length-map}
use Rattle.std.proofs.lemmas.Option.{slice_get_within}
use Rattle.demand_points.specs.Demands.{Demand}
use Rattle.memo_shards.specs.KeptShards.{KeptShard}
use Rattle.plan_core.specs.inner.Places.{seat, IsNextAt}
use Rattle.plan_core.specs.inner.Parts.{plan_at, IsPlan}
use Rattle.plan_core.specs.inner.Turns.{OfTurn, IsSeen}
use Rattle.plan_core.proofs.Lists.{some-at}
use Rattle.plan_core.proofs.Seen.{in-plan, awake}

module _ (b : Batch) (opening : ℕ → List SignalCell) (places : List (Option Demand)) (shards : List KeptShard) (parts : IsPlan b opening places shards) (n : ℕ) where
  abbrev old : Plan
  old = plan_at places shards

  rests : (s : Strand) → IsTurn b old n s Rest → OfTurn b opening old n places shards (Ok comes.NotReady)
  rests s is = (subst (IsSeen b opening places shards) (sym is.turn) (record { parts = parts; same = refl }), sym (ap turned_by is.step))

  pub gap-rests : IsNextAt places n None → OfTurn b opening old n places shards (Ok comes.NotReady)
  gap-rests at =
      let g = parts.kept_plan.parts.gap n (map-get seat places n None at) in
      let w = g.1.0 in
      let k = parts.kept_plan.parts.waiter g.0 w g.1.1.0 in
      let there : slice_get old.strands n ≡ Some (waiting w.strand) = subst (λ m. slice_get old.strands m ≡ Some (waiting w.strand)) g.1.1.1 k.1 in
      rests (waiting w.strand) (waiting-turn b old n (waiting w.strand) there refl)

  pub end-rests : IsNextAt places n (Some Done) → OfTurn b opening old n places shards (Ok comes.NotReady)
  end-rests h = rests h.0.strand (done-turn b old n h.0.strand (in-plan b opening places shards parts n h.0 h.1.0) (awake b opening places shards parts n h.0 h.1.0) h.1.1)

  -- a strand without a place waits
  pub unplaced-waits : (plan : Plan) → plan_at places shards ≡ plan → ((s : Demand) → slice_get places n ≡ Some (Some s) → ⊥) → (s : Strand) → slice_get plan.strands n ≡ Some s → s.waits ≡ true
  unplaced-waits plan e none s at =
      let there : slice_get old.strands n ≡ Some s = ap (λ (z : Plan). slice_get z.strands n) e ∙ at in
      let long = parts.kept_plan.parts.length in
      let many = length-map places seat in
      let inside = slice_get_within old.strands n s there in
      let low : n < length places = omega arith in
      by (some-at places n low) there
    where
      by : (o : Option Demand) × (slice_get places n ≡ Some o) → slice_get (plan_at places shards).strands n ≡ Some s → s.waits ≡ true
      by (Some r, h) there = absurd (none r h)
      by (None, h) there =
          let g = parts.kept_plan.parts.gap n (map-get seat places n None h) in
          let w = g.1.0 in
          let k = parts.kept_plan.parts.waiter g.0 w g.1.1.0 in
          let is : slice_get (plan_at places shards).strands n ≡ Some (waiting w.strand) = subst (λ m. slice_get (plan_at places shards).strands m ≡ Some (waiting w.strand)) g.1.1.1 k.1 in
          let same : waiting w.strand ≡ s = cc (is, there) in
          ap (λ (z : Strand). z.waits) (sym same)

  -- a strand that is awake stands in its place
  pub awake-placed : (plan : Plan) → plan_at places shards ≡ plan → (x : Strand) → slice_get plan.strands n ≡ Some x → x.waits ≡ false → (s : Demand) × ((slice_get places n ≡ Some (Some s)) × (s.strand ≡ x))
  awake-placed plan e x at calm =
      let there : slice_get old.strands n ≡ Some x = ap (λ (z : Plan). slice_get z.strands n) e ∙ at in
      let long = parts.kept_plan.parts.length in
      let many = length-map places seat in
      let inside = slice_get_within old.strands n x there in
      let low : n < length places = omega arith in
      by (some-at places n low) there
    where
      by : (o : Option Demand) × (slice_get places n ≡ Some o) → slice_get (plan_at places shards).strands n ≡ Some x → (s : Demand) × ((slice_get places n ≡ Some (Some s)) × (s.strand ≡ x))
      by (Some r, h) there =
          let k = in-plan b opening places shards parts n r h in
          let same : r.strand ≡ x = cc (k, there) in
          (r, (h, same))
      by (None, h) there =
          let w = unplaced-waits (plan_at places shards) refl (λ s g. cc (h, g)) x there in
          absurd (cc (w, calm))
