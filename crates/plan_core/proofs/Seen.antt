-- Parts after a step are those of the plan after it.
use Rattle.std.proofs.Common.{◌≡◌, ℕ, ◌<◌, ◌≤◌, ◌%◌, false, List, length, map, get_or, slice_get, slice_set, ap, sym, ◌∙◌, subst, arith, inl, inr, Option, Some}
use Rattle.std.specs.List.{AllByRecursion}
use Rattle.std.proofs.Math.ListN.{length-map, get_or-map}
use Rattle.std.proofs.lemmas.List.{map-set, set-get_or}
use Rattle.std.proofs.lemmas.Bool.{cases_eq}
use Rattle.std.proofs.lemmas.Option.{get_or_from_slice_get, slice_get-get_or}
use Rattle.valid_intervals.specs.declared.Point.{Point}
use Rattle.valid_intervals.specs.declared.SignalCell.{SignalCell}
use Rattle.journal_meaning.specs.Batches.{Batch}
use Rattle.plan_machine.specs.Strands.{Strand}
use Rattle.plan_machine.specs.Shards.{Shard}
use Rattle.plan_machine.specs.Plans.{Plan, no_shard, shard_of, with_strand, with_shard}
use Rattle.plan_machine.specs.KeptPlans as kept
use Rattle.plan_machine.specs.KeptPlans.{WaitedShard, Parked, no_waited_shard, shards_of, plan_of, IsKeptPlan}
use Rattle.plan_machine.specs.Turns.{turn}
use Rattle.plan_machine.specs.Sound.{IsSound}
use Rattle.plan_machine.proofs.Callers.{set-here, set-other, map-get, kept-is, kept-step, kept-put, turn-sound}
use Rattle.demand_points.specs.Demands.{Demand, TakesStep, itself}
use Rattle.memo_shards.specs.KeptShards.{KeptShard, IsKnownShard}
use Rattle.memo_shards.specs.Seen.{parked_of, waited_shard}
use Rattle.memo_shards.proofs.Callers.{homes-seen}
use Rattle.plan_core.specs.inner.Places.{seat, seats, AreNumbered}
use Rattle.plan_core.specs.inner.Parts.{blank, waited_shards, plan_at, IsPlan}
use Rattle.plan_core.specs.Parts.{AreInOrder}
use Rattle.plan_core.specs.inner.Turns.{IsSeen}
use Rattle.plan_core.proofs.Lists.{set-same, numbers-set}

pub shard-is : (ps : List (Option Strand)) (ms : List WaitedShard) (p : Point) → shard_of (plan_of blank ps ms) p ≡ (kept.waited_shard_at ms p).shard
shard-is ps ms p =
    let len : length (shards_of ms) ≡ length ms = length-map ms (λ (z : WaitedShard). z.shard) in
    ap (λ n. get_or (shards_of ms) (p.signal % n) no_shard) len ∙ get_or-map (λ (z : WaitedShard). z.shard) ms (p.signal % length ms) no_waited_shard

module _ (b : Batch) (opening : ℕ → List SignalCell) (places : List (Option Demand)) (shards : List KeptShard) (parts : IsPlan b opening places shards) where
  abbrev pub plan : Plan
  plan = plan_at places shards

  pub shards-len : length (waited_shards shards) ≡ length shards
  shards-len = length-map shards waited_shard

  pub shards-count : length shards ≡ b.shards
  shards-count = sym (length-map shards waited_shard) ∙ sym (length-map (waited_shards shards) (λ (z : WaitedShard). z.shard)) ∙ parts.sound.count

  -- parts that read as before
  pub rest-seen : (after : List (Option Demand)) (ns : List KeptShard) → AreNumbered after → AreInOrder ns → seats after ≡ seats places → waited_shards ns ≡ waited_shards shards → IsSeen b opening after ns (plan_at places shards)
  rest-seen after ns numbers order e k =
      let same : plan_at after ns ≡ plan_at places shards = ap (λ z. plan_of blank z (waited_shards ns)) e ∙ ap (plan_of blank (seats places)) k in
      let R : List (Option Strand) → List WaitedShard → Type 0 = λ z m. IsKeptPlan z m (plan_of blank z m).strands in
      record {
        parts = record {
          lawful = parts.lawful;
          numbers = numbers;
          order = order;
          kept_plan = subst (λ z. R z (waited_shards ns)) (sym e) (subst (R (seats places)) (sym k) parts.kept_plan);
          sound = subst (IsSound b opening) (sym same) parts.sound;
        };
        same = same;
      }

  module _ (n : ℕ) (s0 : Demand) (at : slice_get places n ≡ Some (Some s0)) where
    pub here : slice_get (seats places) n ≡ Some (Some s0.strand)
    here = map-get seat places n (Some s0) at

    pub in-plan : slice_get plan.strands n ≡ Some s0.strand
    in-plan = (parts.kept_plan.parts.ready n s0.strand here).0

    pub awake : s0.strand.waits ≡ false
    awake = (parts.kept_plan.parts.ready n s0.strand here).1

    module _ (p : Point) (slot : ℕ) (slot-is : slot ≡ p.signal % length shards) (h0 : KeptShard) (index : h0 ≡ get_or shards slot h0) where
      slot-waited : slot ≡ p.signal % length (waited_shards shards)
      slot-waited = slot-is ∙ ap (λ m. p.signal % m) (sym shards-len)

      pub at-home : slice_get shards slot ≡ Some h0
      at-home =
          let some_shard : 1 ≤ length shards = let k = parts.kept_plan.some in let l = shards-len in omega arith in
          let low : slot < length shards = omega arith in
          slice_get-get_or shards slot h0 low ∙ ap Some (sym index)

      pub number-is : h0.number ≡ slot
      number-is = parts.order slot h0 at-home

      pub home : kept.waited_shard_at (waited_shards shards) p ≡ waited_shard h0
      home =
          ap (λ m. get_or (waited_shards shards) m no_waited_shard) (sym slot-waited)
          ∙ get_or_from_slice_get (waited_shards shards) slot (waited_shard h0) no_waited_shard (map-get waited_shard shards slot h0 at-home)

      pub shard-here : shard_of plan p ≡ h0.shard
      shard-here = shard-is (seats places) (waited_shards shards) p ∙ ap (λ (z : WaitedShard). z.shard) home

      pub order-set : (h : KeptShard) → h.number ≡ h0.number → AreInOrder (slice_set shards slot h)
      order-set h e i m got = elim (cases_eq i slot) [
        | inl k ↦
            let now : slice_get (slice_set shards slot h) i ≡ Some h = subst (λ j. slice_get (slice_set shards slot h) j ≡ Some h) (sym k) (set-here shards slot h0 h at-home) in
            let same : h ≡ m = cc (now, got) in
            ap (λ (z : KeptShard). z.number) (sym same) ∙ e ∙ number-is ∙ sym k
        | inr k ↦ parts.order i m (sym (set-other shards slot i h k) ∙ got)
      ]

      -- who waits in the shard waits for a point of it
      pub homes : (h : KeptShard) → IsKnownShard b opening h → h.number ≡ h0.number → AllByRecursion (λ (k : Parked). k.point.signal % length (waited_shards shards) ≡ p.signal % length (waited_shards shards)) (waited_shard h).parked
      homes h known e =
          let all = homes-seen b opening h known in
          let l : b.shards ≡ length (waited_shards shards) = sym (shards-len ∙ shards-count) in
          let number : h.number ≡ p.signal % length (waited_shards shards) = e ∙ number-is ∙ slot-waited in
          subst (λ m. AllByRecursion (λ (k : Parked). k.point.signal % length (waited_shards shards) ≡ m) (waited_shard h).parked) number
          (subst (λ m. AllByRecursion (λ (k : Parked). k.point.signal % m ≡ h.number) (waited_shard h).parked) l all)

      -- parts that make another sound plan
      pub seen-as : (after : List (Option Demand)) (h : KeptShard) (change : List Strand → List Strand) (g : Shard → Shard) → AreNumbered after → h.number ≡ h0.number
          → IsKeptPlan (seats after) (slice_set (waited_shards shards) (p.signal % length (waited_shards shards)) (waited_shard h)) (change plan.strands)
          → h.shard ≡ g h0.shard
          → (new : Plan) → IsSound b opening new → new ≡ with_shard (record plan { strands = change plan.strands }) p (g (shard_of plan p))
          → IsSeen b opening after (slice_set shards slot h) new
      seen-as after h change g numbers number now shard new sound turns =
          let ns = slice_set shards slot h in
          let hs = slice_set (waited_shards shards) (p.signal % length (waited_shards shards)) (waited_shard h) in
          let e : waited_shards ns ≡ hs = map-set waited_shard shards slot h ∙ ap (λ z. slice_set (waited_shards shards) z (waited_shard h)) slot-waited in
          let is = kept-is blank (seats after) hs (change plan.strands) now in
          let value : (waited_shard h).shard ≡ g (kept.waited_shard_at (waited_shards shards) p).shard = shard ∙ ap (λ (m : WaitedShard). g m.shard) (sym home) in
          let same : plan_at after ns ≡ new = ap (plan_of blank (seats after)) e
          ∙ kept-step blank (seats places) (seats after) (waited_shards shards) p (waited_shard h) plan.strands change g parts.kept_plan now value ∙ sym turns in
          record {
            parts = record {
              lawful = parts.lawful;
              numbers = numbers;
              order = order-set h number;
              kept_plan = subst (λ z. IsKeptPlan (seats after) z (plan_of blank (seats after) z).strands) (sym e) (subst (IsKeptPlan (seats after) hs) (sym is) now);
              sound = subst (IsSound b opening) (sym same) sound;
            };
            same = same;
          }

      -- after a step of strand n
      pub seen : (after : List (Option Demand)) (h : KeptShard) (change : List Strand → List Strand) (g : Shard → Shard) → AreNumbered after → h.number ≡ h0.number
          → IsKeptPlan (seats after) (slice_set (waited_shards shards) (p.signal % length (waited_shards shards)) (waited_shard h)) (change plan.strands)
          → h.shard ≡ g h0.shard
          → turn b plan n ≡ with_shard (record plan { strands = change plan.strands }) p (g (shard_of plan p))
          → IsSeen b opening after (slice_set shards slot h) (turn b plan n)
      seen after h change g numbers number now shard turns = seen-as after h change g numbers number now shard (turn b plan n) (turn-sound b parts.lawful opening plan parts.sound n) turns

      -- the strand goes back after f, and those that wait stay
      pub put-seen : (s : Demand) (h : KeptShard) (f : Strand → Strand) (g : Shard → Shard) → TakesStep f s0 s → (f s0.strand).waits ≡ false → h.number ≡ h0.number → h.waiting ≡ h0.waiting → h.shard ≡ g h0.shard
          → turn b plan n ≡ with_shard (with_strand plan n (f s0.strand)) p (g (shard_of plan p))
          → IsSeen b opening (slice_set places n (Some s)) (slice_set shards slot h) (turn b plan n)
      put-seen s h f g step quiet number waiting shard turns =
          let t = f s0.strand in
          let hs = slice_set (waited_shards shards) (p.signal % length (waited_shards shards)) (waited_shard h) in
          let parked : (waited_shard h).parked ≡ (kept.waited_shard_at (waited_shards shards) p).parked = ap (map parked_of) waiting ∙ ap (λ (z : WaitedShard). z.parked) (sym home) in
          let e : seats (slice_set places n (Some s)) ≡ slice_set (seats places) n (Some t) = map-set seat places n (Some s) ∙ ap (λ z. slice_set (seats places) n (Some z)) step.strand in
          seen (slice_set places n (Some s)) h (λ ys. slice_set ys n t) g
          (numbers-set places parts.numbers n (Some s0) at s (step.number ∙ parts.numbers n s0 at)) number
          (subst (λ z. IsKeptPlan z hs (slice_set plan.strands n t)) (sym e) (kept-put (seats places) (waited_shards shards) plan.strands parts.kept_plan n s0.strand here p t (waited_shard h) quiet parked))
          shard turns

      pub same-shard : (z : Plan) → z.shards ≡ plan.shards → with_shard z p (shard_of plan p) ≡ z
      same-shard z e =
          let at_shards : List Shard → Plan = λ hs. record { strands = z.strands; shards = hs } in
          ap at_shards (ap (λ hs. slice_set hs (p.signal % length hs) (shard_of plan p)) e ∙ set-get_or plan.shards (p.signal % length plan.shards) no_shard ∙ sym e)

      -- parts that read as before, where the strand has heard base answers at most
      pub rest-set : (s : Demand) (h : KeptShard) → TakesStep itself s0 s → h ≡ h0 → IsSeen b opening (slice_set places n (Some s)) (slice_set shards slot h) (plan_at places shards)
      rest-set s h step same =
          let shards_is : slice_set shards slot h ≡ shards = ap (slice_set shards slot) same ∙ set-same shards slot h0 at-home in
          let places_is : seats (slice_set places n (Some s)) ≡ seats places =
          map-set seat places n (Some s) ∙ ap (λ z. slice_set (seats places) n (Some z)) step.strand ∙ set-same (seats places) n (Some s0.strand) here in
          rest-seen (slice_set places n (Some s)) (slice_set shards slot h)
          (numbers-set places parts.numbers n (Some s0) at s (step.number ∙ parts.numbers n s0 at))
          (subst AreInOrder (sym shards_is) parts.order) places_is (ap waited_shards shards_is)
