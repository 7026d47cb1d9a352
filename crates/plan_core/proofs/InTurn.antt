-- Strands that run one after another, each alone over the shards.
use Rattle.std.proofs.Common.{◌≡◌, ◌≢◌, ℕ, zero, suc, ◌+◌, ◌-◌, ◌<◌, ◌≤◌, ◌%◌, Bool, true, false, cond, nat_lt, List, [], ◌∷◌, length, map, filter, get_or, slice_get, slice_set, refl, ap, sym, ◌∙◌, subst, arith, inl, inr, true≢false, All, Contains, Option, Some, None}
use Rattle.std.proofs.Math.ListN.{length-map}
use Rattle.std.proofs.lemmas.Bool.{cases_eq}
use Rattle.std.proofs.lemmas.List.Sums.{sum_by-set}
use Rattle.std.proofs.lemmas.Option.{slice_get_within, slice_get-get_or, get_or_from_slice_get}
use Rattle.valid_intervals.specs.declared.Point.{Point}
use Rattle.valid_intervals.specs.declared.SignalCell.{SignalCell}
use Rattle.circuit_meaning.specs.Circuit.{Circuit}
use Rattle.circuit_meaning.specs.Cells.{span}
use Rattle.journal_meaning.specs.States.{fresh, holder}
use Rattle.journal_meaning.specs.Replay.{replay}
use Rattle.journal_meaning.proofs.Callers.{claims_ours, none_ours, children-kept}
use Rattle.journal_meaning.specs.Batches.{Batch}
use Rattle.journal_meaning.specs.Lawful.{IsLawful}
use Rattle.journal_meaning.specs.Pieces.{Start}
use Rattle.plan_machine.specs.Strands.{Frame, Strand, is_evaluable, roots_from, started_strand, IsOnStack, IsStrand}
use Rattle.plan_machine.specs.Shards.{Shard, IsShard}
use Rattle.plan_machine.specs.Plans.{Plan, no_shard, claim_of}
use Rattle.plan_machine.specs.declared.Turned.{Turned}
use Rattle.plan_machine.specs.declared.Turned.TheVariants as comes
use Rattle.plan_machine.specs.Steps.{turn_outcome, is_turn}
use Rattle.plan_machine.specs.Turns.{turn}
use Rattle.plan_machine.specs.Bounds.{all_left}
use Rattle.plan_machine.specs.Laws.{BeginsAlone}
use Rattle.plan_machine.specs.Alone.{RunsAlone, RanAlone}
use Rattle.plan_machine.specs.Settle.{entries_in}
use Rattle.plan_machine.specs.Sound.{IsSound, IsFresh}
use Rattle.plan_machine.proofs.Callers.{turn-less, has-ended, turns-alone, alone-start, map-get, set-here, set-other}
use Rattle.demand_points.specs.declared.strand.Task.{Task}
use Rattle.demand_points.specs.Demands.{Demand, IsKnownStrand}
use Rattle.memo_shards.specs.KeptShards.{KeptShard, IsKnownShard}
use Rattle.plan_core.specs.Parts.{AreInOrder, AreFree, plan_of_new, shards_in}
use Rattle.plan_core.specs.InTurn.{AllChildrenCovered, HasRun, IsUnused, booked_in, made_by, made_in, task_of}
use Rattle.plan_core.specs.inner.InTurn.{IsAlone, KeepsTask, MakesTurn, TakesOne, IsWithin, IsRunning, AreRun, HaveHeard}
use Rattle.plan_core.proofs.AloneTurns.{keeps-more}
use Rattle.plan_core.proofs.Rounds.{moved}
use Rattle.plan_core.proofs.Lists.{some-at}
use Rattle.plan_core.proofs.Beginning.{all-at, each-known}
use Rattle.journal_meaning.specs.declared.Entry.{Entry}
use Rattle.journal_meaning.specs.declared.Entry.TheVariants.{Filled}

-- the roots from a time on do not depend on where the window begins
roots-window : (c : Circuit) (signal stop x y n t : ℕ) → roots_from c (record { signal = signal; start = x; stop = stop }) n t ≡ roots_from c (record { signal = signal; start = y; stop = stop }) n t
unfolding roots_from
roots-window c signal stop x y zero t = refl
roots-window c signal stop x y (suc n) t =
    ap (λ (l : List Point). cond (nat_lt t stop) (record { signal = signal; time = t } ∷ l) []) (roots-window c signal stop x y n (span c signal t).stop)

-- a strand that has made no turn is as it was started
pub is-started : (b : Batch) (s : Demand) → IsKnownStrand b s → IsUnused s → (a : Start) × (s.strand ≡ started_strand b.circuit a)
is-started b s known unused =
    let a : Start = record { query = s.strand.query; start = s.root; stop = s.to; budget = s.strand.budget; charged = s.strand.charged } in
    let made : List Point → List Frame → ℕ → Bool → Bool → Strand = λ roots st filled spent waits. record { query = s.strand.query; budget = s.strand.budget; roots = roots; stack = st; charged = s.strand.charged; filled = filled; spent = spent; waits = waits } in
    let roots : s.strand.roots ≡ (started_strand b.circuit a).roots =
    known.roots ∙ ap (filter (is_evaluable b.circuit)) (roots-window b.circuit s.strand.query.signal s.to s.from s.root (s.to - s.root) s.root) in (
      a,
      ap (λ x. made x s.strand.stack s.strand.filled s.strand.spent s.strand.waits) roots
          ∙ ap (λ x. made (started_strand b.circuit a).roots x s.strand.filled s.strand.spent s.strand.waits) unused.free
          ∙ ap (λ x. made (started_strand b.circuit a).roots [] x s.strand.spent s.strand.waits) unused.filled
          ∙ ap (λ x. made (started_strand b.circuit a).roots [] 0 x s.strand.waits) unused.unspent
          ∙ ap (made (started_strand b.circuit a).roots [] 0 false) known.awake,
    )

-- the only strand of a plan
only-one : (s r : Strand) (i : ℕ) → slice_get (s ∷ []) i ≡ Some r → (i ≡ 0) × (s ≡ r)
only-one s r zero at = (refl, cc at)
only-one s r (suc i) at = absurd (cc at)

-- shards without claims, and one strand that has made no turn
module _ (b : Batch) (lawful : IsLawful b) (opening : ℕ → List SignalCell) (s : Demand) (known : IsKnownStrand b s) (unused : IsUnused s) (shards : List KeptShard) (order : AreInOrder shards) (free : IsFresh b opening (shards_in shards)) where
  abbrev plan : Plan
  plan = plan_of_new (s ∷ []) shards

  unclaimed : (p : Point) → claim_of plan p ≡ None
  unclaimed p =
      let count = free.count in
      let some = lawful.some_shard in
      ap (λ ks. holder ks p) (free.free (p.signal % length (shards_in shards)) (omega arith))

  holds-none : (r : Strand) (p : Point) (i : ℕ) → slice_get plan.strands i ≡ Some r → IsOnStack r.stack p → ⊥
  holds-none r p i at h =
      let e = (only-one s.strand r i at).1 in
      let held : IsOnStack [] p = subst (λ st. IsOnStack st p) unused.free (subst (λ (z : Strand). IsOnStack z.stack p) (sym e) h) in
      held

  first-sound : 0 < s.to → IsSound b opening plan
  first-sound live = record {
    count = free.count;
    shards = free.right;
    strands = λ i r at. subst (IsStrand b) (only-one s.strand r i at).1 (known.strand live);
    linked = record {
      on_stack = λ i r p at h. absurd (holds-none r p i at h);
      holder = λ p q e. let none = unclaimed p in absurd (cc (none, e));
      once = λ i j r o p at there h k. absurd (holds-none r p i at h);
      waiting = λ i r at w. absurd (true≢false (sym w ∙ sym (ap (λ (z : Strand). z.waits) (only-one s.strand r i at).1) ∙ known.awake));
    };
  }

  first-alone : IsAlone b opening s shards
  first-alone = record {
    lawful = lawful;
    order = order;
    count = sym (length-map shards (λ (m : KeptShard). m.shard)) ∙ free.count;
    sound = first-sound;
  }

  pub run-first : IsRunning b opening s shards s shards
  run-first = record {
    alone = first-alone;
    task = record { number = refl; task = refl };
    stays = λ _. refl;
    full = λ e. absurd (true≢false (sym e ∙ unused.unspent));
    counted = refl;
    runs = λ a h e. alone-start b lawful opening 0 a plan h.sound h.free h.at;
  }

  -- its turns alone begin
  pub begins : 0 < s.to → (a : Start) × BeginsAlone b opening 0 a plan
  begins live =
      let a = is-started b s known unused in
      (a.0, record { sound = first-sound live; free = unclaimed; at = ap (λ (z : Strand). Some z) a.1 })

-- where the one strand holds nothing, no claim is left
fresh-after : (b : Batch) (opening : ℕ → List SignalCell) (s : Demand) (shards : List KeptShard) → IsSound b opening (plan_of_new (s ∷ []) shards) → s.strand.stack ≡ [] → IsFresh b opening (shards_in shards)
fresh-after b opening s shards sound empty = record {
  count = sound.count;
  right = sound.shards;
  free = λ n low.
      let is : IsShard b n (opening n) (get_or (shards_in shards) n no_shard) = sound.shards n low in
      let es = (get_or (shards_in shards) n no_shard).journal in
      let ours = claims_ours b n es (fresh (opening n)) tt is.legal in
      let none : (replay (fresh (opening n)) es).claims ≡ [] = none_ours b n (replay (fresh (opening n)) es).claims ours (λ p at.
      let count : length (shards_in shards) ≡ b.shards = sound.count in
      let h : p.signal % length (shards_in shards) ≡ n = ap (λ m. p.signal % m) count ∙ at in
      let here : holder (get_or (shards_in shards) n no_shard).state.claims p ≡ None = subst (λ m. holder (get_or (shards_in shards) m no_shard).state.claims p ≡ None) h (unclaimed p (claim_of (plan_of_new (s ∷ []) shards) p) refl) in
      subst (λ z. holder z.claims p ≡ None) is.state here) in
      ap (λ z. z.claims) is.state ∙ none;
}
  where
    unclaimed : (p : Point) (o : Option ℕ) → claim_of (plan_of_new (s ∷ []) shards) p ≡ o → claim_of (plan_of_new (s ∷ []) shards) p ≡ None
    unclaimed p None e = e
    unclaimed p (Some q) e =
        let k = sound.linked.holder p q e in
        let same = (only-one s.strand k.1.0 k.0 k.1.1.0).1 in
        let held : IsOnStack [] p = subst (λ st. IsOnStack st p) empty (subst (λ (z : Strand). IsOnStack z.stack p) (sym same) k.1.1.1) in
        absurd held

-- turns of one strand, from s over these shards to r over the shards now
module _ (b : Batch) (opening : ℕ → List SignalCell) (s : Demand) (shards : List KeptShard) (r : Demand) (now : List KeptShard) (run : IsRunning b opening s shards r now) (after : Demand) (then : List KeptShard) (t : Turned) (m : MakesTurn b opening r now after then t) where
  abbrev there : Plan
  there = plan_of_new (r ∷ []) now

  same-to : r.to ≡ s.to
  same-to = ap (λ (z : Task). z.to) run.task.task

  both-counted : made_by after + booked_in shards ≡ made_by s + booked_in then
  both-counted = let k = run.counted in let l = m.counted in omega arith

  pub turn-falls : t ≢ comes.NotReady → all_left b (plan_of_new (after ∷ []) then) < all_left b there
  turn-falls h =
      let k = turn-less b there 0 in
      let one : is_turn (turn_outcome there 0) ≡ 1 = ap is_turn (sym m.outcome) ∙ moved t h in
      let same : all_left b (plan_of_new (after ∷ []) then) ≡ all_left b (turn b there 0) = ap (all_left b) m.turn in
      omega arith

  pub run-more : t ≢ comes.NotReady → IsRunning b opening s shards after then
  run-more h = record {
    alone = m.alone;
    task = keeps-more s r after run.task m.task;
    stays = λ e. let live = m.live h in let same = same-to in absurd (omega arith);
    full = m.full run.full;
    counted = both-counted;
    runs = λ a begun e.
        let unspent : t ≢ comes.Spent = λ k. true≢false (sym (m.refused k) ∙ e) in
        let before = run.runs a begun (m.unspent unspent e) in
        let on = (turns-alone b m.alone.lawful opening 0 a (plan_of_new (s ∷ []) shards) there None before).on (λ k. unspent (m.outcome ∙ k)) in
        subst (λ z. RunsAlone b opening 0 a (plan_of_new (s ∷ []) shards) z None) (sym m.turn) on;
  }

  module _ (ends : t ≡ comes.NotReady) where
    same-shards : r.to ≡ 0 → then ≡ shards
    same-shards e = m.stays ends ∙ run.stays (sym same-to ∙ e)

    pub run-task : KeepsTask s after
    run-task = keeps-more s r after run.task m.task

    pub run-counted : made_by after + booked_in shards ≡ made_by s + booked_in then
    run-counted = both-counted

    pub has-run : HasRun after
    has-run = record { ended = has-ended after.strand (m.done ends); full = m.full run.full }

    to-after : after.to ≡ r.to
    to-after = ap (λ (z : Task). z.to) m.task.task

    cases-to : (n : ℕ) → r.to ≡ n → (P : Type 0) → (r.to ≡ 0 → P) → (0 < r.to → P) → P
    cases-to zero e P none some = none e
    cases-to (suc n) e P none some = some (omega arith)

    pub run-fresh : IsFresh b opening (shards_in shards) → IsFresh b opening (shards_in then)
    run-fresh old = cases-to r.to refl (IsFresh b opening (shards_in then))
        (λ e. subst (λ ms. IsFresh b opening (shards_in ms)) (sym (same-shards e)) old)
        (λ l. fresh-after b opening after then (m.alone.sound (let k = to-after in omega arith)) has-run.ended.empty)

    pub run-heard : (0 < s.to → (a : Start) × BeginsAlone b opening 0 a (plan_of_new (s ∷ []) shards)) → after.strand.spent ≡ false → AllChildrenCovered b.circuit (entries_in (shards_in shards)) → AllChildrenCovered b.circuit (entries_in (shards_in then))
    run-heard begun e old = cases-to r.to refl (AllChildrenCovered b.circuit (entries_in (shards_in then)))
        (λ none. subst (λ ms. AllChildrenCovered b.circuit (entries_in (shards_in ms))) (sym (same-shards none)) old)
        (λ l.
        let a = begun (let k = same-to in omega arith) in
        let unspent : t ≢ comes.Spent = λ k. absurd (cc (ends, k)) in
        let before = run.runs a.0 a.1 (m.unspent unspent e) in
        let ran : RanAlone b opening 0 a.0 (plan_of_new (s ∷ []) shards) there None = (turns-alone b m.alone.lawful opening 0 a.0 (plan_of_new (s ∷ []) shards) there None before).ended (sym m.outcome ∙ ends) in
        subst (λ ms. AllChildrenCovered b.circuit (entries_in (shards_in ms))) (sym (m.stays ends))
        (λ q. children-kept (entries_in (shards_in shards)) ran.added (entries_in (shards_in now)) ran.journals.together b.circuit q (old q) (λ p x h. ran.children q p x h)))

-- limits
pub within-first : (left : Option ℕ) (n : ℕ) → IsWithin left left n n
within-first None n = tt
within-first (Some m) n = omega arith

pub within-more : (first left less : Option ℕ) (old now more : ℕ) → IsWithin first left old now → TakesOne left less true → more ≤ now + 1 → IsWithin first less old more
within-more None None None old now more w t l = tt
within-more None None (Some m) old now more w t l = absurd t
within-more None (Some n) less old now more w t l = absurd w
within-more (Some k) None less old now more w t l = absurd w
within-more (Some k) (Some n) None old now more w t l = absurd t
within-more (Some k) (Some n) (Some m) old now more w t l = omega arith

pub within-still : (first left less : Option ℕ) (old now : ℕ) → IsWithin first left old now → TakesOne left less false → IsWithin first less old now
within-still None None None old now w t = absurd (true≢false (sym t))
within-still None None (Some m) old now w t = absurd t
within-still None (Some n) less old now w t = absurd w
within-still (Some k) None less old now w t = absurd w
within-still (Some k) (Some n) None old now w t = absurd t
within-still (Some k) (Some n) (Some m) old now w t = omega arith

-- without a limit a turn is always taken
pub within-whole : (first left less : Option ℕ) (old now : ℕ) → IsWithin first left old now → TakesOne left less false → first ≡ None → ⊥
within-whole None None None old now w t e = true≢false (sym t)
within-whole None None (Some m) old now w t e = t
within-whole None (Some n) less old now w t e = w
within-whole (Some k) left less old now w t e = cc e

pub within-none : (first left : Option ℕ) (old now : ℕ) → IsWithin first left old now → first ≡ None → left ≡ None
within-none None None old now w e = refl
within-none None (Some n) old now w e = absurd w
within-none (Some k) left old now w e = absurd (cc e)

pub within-most : (first left : Option ℕ) (old now n : ℕ) → IsWithin first left old now → first ≡ Some n → now ≤ old + n
within-most None left old now n w e = absurd (cc e)
within-most (Some k) None old now n w e = absurd w
within-most (Some k) (Some m) old now n w e = let same : k ≡ n = cc e in omega arith

within-sum : (first left less : Option ℕ) (old now more a d : ℕ) → IsWithin first left old now → IsWithin left less a d → more + a ≡ now + d → IsWithin first less old more
within-sum None None None old now more a d w v e = tt
within-sum None None (Some m) old now more a d w v e = absurd v
within-sum None (Some n) less old now more a d w v e = absurd w
within-sum (Some k) None less old now more a d w v e = absurd w
within-sum (Some k) (Some n) None old now more a d w v e = absurd v
within-sum (Some k) (Some n) (Some m) old now more a d w v e = omega arith

-- one strand of a list is another
map-kept : {A C : Type 0} (f : A → C) (xs : List A) (n : ℕ) (x y : A) → slice_get xs n ≡ Some x → f y ≡ f x → map f (slice_set xs n y) ≡ map f xs
map-kept f [] n x y at e = refl
map-kept f (z ∷ xs) zero x y at e = let same : z ≡ x = cc at in ap (λ c. c ∷ map f xs) (e ∙ ap f (sym same))
map-kept f (z ∷ xs) (suc n) x y at e = ap (λ l. f z ∷ l) (map-kept f xs n x y at e)

-- strand `next` of the list has run, or a part of it
module _ (b : Batch) (opening : ℕ → List SignalCell) (next : ℕ) (strands : List Demand) (s r : Demand) (at : slice_get strands next ≡ Some s) where
  abbrev pub then-strands : List Demand
  then-strands = slice_set strands next r

  pub numbers-kept : KeepsTask s r → map (λ (z : Demand). z.number) then-strands ≡ map (λ (z : Demand). z.number) strands
  numbers-kept k = map-kept (λ (z : Demand). z.number) strands next s r at k.number

  pub tasks-kept : KeepsTask s r → map task_of then-strands ≡ map task_of strands
  tasks-kept k = map-kept task_of strands next s r at k.task

  made-sum : made_in then-strands + made_by s ≡ made_in strands + made_by r
  made-sum =
      let k = sum_by-set made_by strands next r s (slice_get_within strands next s at) in
      let here : made_by (get_or strands next s) ≡ made_by s = ap made_by (get_or_from_slice_get strands next s s at) in
      omega arith

  pub sums-counted : (first now then : List KeptShard) (old : ℕ) → made_in strands + booked_in first ≡ old + booked_in now → made_by r + booked_in now ≡ made_by s + booked_in then → made_in then-strands + booked_in first ≡ old + booked_in then
  sums-counted first now then old k l = let sum = made-sum in omega arith

  pub sums-within : (first left less : Option ℕ) (old : ℕ) → IsWithin first left old (made_in strands) → IsWithin left less (made_by s) (made_by r) → IsWithin first less old (made_in then-strands)
  sums-within first left less old w v = within-sum first left less old (made_in strands) (made_in then-strands) (made_by s) (made_by r) w v made-sum

  others : (n : ℕ) (z : Demand) → n ≢ next → slice_get then-strands n ≡ Some z → slice_get strands n ≡ Some z
  others n z ne e = sym (set-other strands next n r ne) ∙ e

  here : (z : Demand) → slice_get then-strands next ≡ Some z → r ≡ z
  here z e = let now = set-here strands next s r at in cc (now, e)

  pub next-run : (now then : List KeptShard) → AreRun b opening next strands now → HasRun r → IsFresh b opening (shards_in then) → AreRun b opening (next + 1) then-strands then
  next-run now then run ran free = record {
    fresh = free;
    ran = λ n z low e. elim (cases_eq n next) [
      | inl same ↦ subst HasRun (here z (subst (λ i. slice_get then-strands i ≡ Some z) same e)) ran
      | inr ne ↦ run.ran n z (omega (arith, low, ne)) (others n z ne e)
    ];
    later = λ n z low e. run.later n z (omega arith) (others n z (λ same. omega (arith, same, low)) e);
  }

  pub next-heard : (now then : List KeptShard) → HaveHeard b next strands now
      → (r.strand.spent ≡ false → AllChildrenCovered b.circuit (entries_in (shards_in now)) → AllChildrenCovered b.circuit (entries_in (shards_in then)))
      → HaveHeard b (next + 1) then-strands then
  next-heard now then heard one unspent =
      one (unspent next r (omega arith) (set-here strands next s r at))
      (heard (λ n z low e. unspent n z (omega arith) (set-other strands next n r (λ same. omega (arith, same, low)) ∙ e)))

none-there : (e : Entry) (es : List Entry) → es ≡ [] → Contains es e → ⊥
none-there e es none h = let k : Contains [] e = subst (λ l. Contains l e) none h in absurd (omega (arith, k.1))

-- no strand has run yet
module _ (b : Batch) (opening : ℕ → List SignalCell) (strands : List Demand) (shards : List KeptShard) where
  pub none-run : IsFresh b opening (shards_in shards) → All IsUnused strands → AreRun b opening 0 strands shards
  none-run free unused = record {
    fresh = free;
    ran = λ n s low e. absurd (omega (arith, low));
    later = λ n s low e. subst IsUnused (get_or_from_slice_get strands n s s e) (unused n s (slice_get_within strands n s e));
  }

  pub none-heard : entries_in (shards_in shards) ≡ [] → HaveHeard b 0 strands shards
  none-heard bare _ = λ q p x h. absurd (none-there (Filled q p x) (entries_in (shards_in shards)) bare h)

  -- each has
  pub all-run : (next : ℕ) → AreRun b opening next strands shards → length strands ≤ next → All HasRun strands
  all-run next run all k d low = run.ran k (get_or strands k d) (omega arith) (slice_get-get_or strands k d low)

  pub all-heard : (next : ℕ) → HaveHeard b next strands shards → All (λ (s : Demand). s.strand.spent ≡ false) strands → AllChildrenCovered b.circuit (entries_in (shards_in shards))
  all-heard next heard unspent = heard (λ n s low e. subst (λ (z : Demand). z.strand.spent ≡ false) (get_or_from_slice_get strands n s s e) (unspent n s (slice_get_within strands n s e)))

-- shards without claims
pub shards-fresh : (b : Batch) (opening : ℕ → List SignalCell) (shards : List KeptShard) → AreFree b shards → All (IsKnownShard b opening) shards → IsFresh b opening (shards_in shards)
shards-fresh b opening shards free known = record {
  count = length-map shards (λ (m : KeptShard). m.shard) ∙ free.count;
  right = λ n low. let m = at-number n low in subst (IsShard b n (opening n)) (sym (shard-is n m.0 m.1)) (subst (λ j. IsShard b j (opening j) m.0.shard) (free.order n m.0 m.1) (each-known b opening shards known n m.0 m.1).shard);
  free = λ n low. let m = at-number n low in ap (λ (z : Shard). z.state.claims) (shard-is n m.0 m.1) ∙ all-at (λ (k : KeptShard). k.shard.state.claims ≡ []) shards n m.0 free.free m.1;
}
  where
    at-number : (n : ℕ) → n < b.shards → (m : KeptShard) × (slice_get shards n ≡ Some m)
    at-number n low = some-at shards n (let k = free.count in omega arith)

    shard-is : (n : ℕ) (m : KeptShard) → slice_get shards n ≡ Some m → get_or (shards_in shards) n no_shard ≡ m.shard
    shard-is n m at = get_or_from_slice_get (shards_in shards) n m.shard no_shard (map-get (λ (z : KeptShard). z.shard) shards n m at)

pub lawful-known : (b : Batch) (opening : ℕ → List SignalCell) (shards : List KeptShard) → All (IsKnownShard b opening) shards → 0 < length shards → IsLawful b
lawful-known b opening [] known some = absurd (omega arith)
lawful-known b opening (m ∷ ms) known some = let k = known 0 m some in k.lawful
