-- The steps of a strand over the batch that the memo of its own names.
use Rattle.std.proofs.Common.{◌≡◌, ℕ, Bool, ◌+◌, true, false, List, [], ◌∷◌, ◌++◌, length, Contains, refl, sym, ap, subst, ◌∙◌, arith, inl, inr, Option, Some, None, IsSome, append_assoc, append-nil, true≢false, ◌<◌, Result, Ok, Err, OnOk, IfOk}
use Rattle.std.proofs.lemmas.List.Elements.{Contains-append_left}
use Rattle.valid_intervals.specs.declared.Point.{Point}
use Rattle.valid_intervals.specs.declared.SignalCell.{SignalCell}
use Rattle.valid_intervals.specs.Cells.{cell_for}
use Rattle.circuit_meaning.specs.Circuit.{Circuit}
use Rattle.circuit_meaning.specs.Cells.{cell_at}
use Rattle.circuit_meaning.specs.Forced.{IsFree}
use Rattle.circuit_meaning.specs.Need.{IsEvaluable}
use Rattle.journal_meaning.specs.declared.batch.Query.{Query}
use Rattle.journal_meaning.specs.Batches.{Batch, Site, shard_number}
use Rattle.journal_meaning.specs.Pieces.{Start, IsStart}
use Rattle.journal_meaning.specs.declared.Entry.{Entry}
use Rattle.journal_meaning.specs.declared.Entry.TheVariants.{Told, Claimed, Filled, Spent}
use Rattle.journal_meaning.specs.Answers.{IsCovered}
use Rattle.journal_meaning.specs.Grown.{IsSaid}
use Rattle.journal_meaning.specs.States.{holder}
use Rattle.plan_machine.specs.declared.strand.Next.{Next}
use Rattle.plan_machine.specs.declared.strand.Next.TheVariants.{Ask, Fill, Drop, Done}
use Rattle.plan_machine.specs.Strands.{Strand, next, next_in, after_answer, given_up, IsOnStack, IsStrand, IsChain}
use Rattle.plan_machine.proofs.Callers.{asks-first, asks-unspent, fill-top, top-held, earlier, room-journal, child-start, child-asked}
use Rattle.plan_machine.specs.Alone.{IsUnderWay}
use Rattle.plan_machine.specs.Shards.{Shard, shard_with_entry}
use Rattle.plan_machine.specs.Bounds.{turns_left}
use Rattle.plan_machine.specs.Journals.{evictions_for}
use Rattle.plan_machine.specs.Settle.{child_start, charge_of, sub_query}
use Rattle.plan_machine.specs.Standings.{IsStanding}
use Rattle.plan_core.specs.Parts.{shards_in}
use Rattle.demand_points.specs.Demands.{Demand, TakesStep, IsKnownStrand, itself}
use Rattle.memo_shards.specs.KeptShards.{KeptShard}
use Rattle.memo_shards.specs.Asks.{IsHere, IsUnfound, Tells, ClaimsIt, IsTaken, Refuses}
use Rattle.memo_shards.specs.Ends.{with_shard, FillsIt, DropsIt}
use Rattle.memo_shards.specs.Steps.{At, MayStep, OfStep, step_point}
use Rattle.memo_shards.specs.declared.steps.Step.{Step}
use Rattle.memo_shards.specs.declared.steps.Step.TheVariants as came
use Rattle.texts.specs.declared.OutOfMemory.{OutOfMemory}
use Rattle.plan_core.specs.asked.Asked.{HasAsked, AsksOn, Nothing, Needed}
use Rattle.plan_core.specs.asked.Memos.{entries_of}
use Rattle.plan_core.specs.asked.Standings.{standing}
use Rattle.plan_core.proofs.Callers.{root-covered}
use Rattle.session_meaning.specs.StuckSignals.{held_batch}
use Rattle.query_answers.specs.stuck.Asks.{RefusedBy, Session, Own}
use Rattle.query_answers.specs.declared.stuck.both.StuckQuery.{StuckQuery}
use Rattle.query_answers.specs.stuck.inner.Both.{IsAsked, Asks, IsGivingUpBy, GivesUp, AreKept, Extends, site_in, circuit_of, start_at}
use Rattle.query_answers.specs.declared.stuck.step.AfterStep.{AfterStep}
use Rattle.query_answers.specs.declared.stuck.step.AfterStep.TheVariants.{GoesOn, Ended, Refused}
use Rattle.query_answers.specs.stuck.inner.Steps.{AsksFurther, IsOwnStep, IsAfterStep}
use Rattle.query_answers.proofs.AskedOn.{has-reached}
use Rattle.query_answers.proofs.StuckAsking.{tells-on, claims-on, spends-on, fills-on, hears-on, refuses-on}
use Rattle.query_answers.proofs.StuckLawful.{IsAskedOf, asked-of, free-cell, free-evaluable, free-needed}
use Rattle.query_answers.proofs.Held.{asked-one, held-lawful}

-- a fill adds entries at the end
pub fill-extends : (h : Batch) (m new : KeptShard) (s t : Demand) (woken : List Demand) (p : Point) → FillsIt h m new p s t woken → Extends m.shard.journal new.shard.journal
fill-extends h m new s t woken p f =
    let x = cell_at h.circuit p in
    let entry = Filled s.strand.query.number p x in (
      evictions_for h.capacity (cell_for p x) m.shard ++ entry ∷ [],
      ap (λ (z : Shard). z.journal) f.shard ∙ ap (λ l. l ++ entry ∷ []) (room-journal h.capacity (cell_for p x) m.shard) ∙ append_assoc m.shard.journal (evictions_for h.capacity (cell_for p x) m.shard) (entry ∷ []),
    )

-- what comes of a drop
pub of-drop : {X : Type 0} (b : Batch) (old new : KeptShard) (p : Point) (w s : Demand) (r : Result (Step X) OutOfMemory) → OfStep b old new (Drop p) w s r → (woken : List Demand) × DropsIt old new p w s woken
of-drop b old new p w s (Ok came.Heard) f = absurd (cc f.0)
of-drop b old new p w s (Ok came.Holds) f = absurd (cc f.0)
of-drop b old new p w s (Ok came.Taken) f = absurd (cc f.0)
of-drop b old new p w s (Ok came.Refused) f = absurd (cc f.0)
of-drop b old new p w s (Ok (came.Filled woken)) f = absurd (cc f.0)
of-drop b old new p w s (Ok (came.Dropped woken)) f = (woken.items, f.1)
of-drop b old new p w s (Err e) f = absurd (f.0 refl)

module _ (b h : Batch) (opening : ℕ → List SignalCell) (question : StuckQuery) (cd dd : Circuit) (asked : IsAsked b h question cd dd)
    (time : ℕ) (ms : List KeptShard) (m : KeptShard) (s : Demand) (asks : Asks b opening question time ms m s) (knows : IsKnownStrand h s) where
  abbrev q : Query
  q = question.query

  abbrev site : Site
  site = site_in question

  abbrev own : Batch
  own = held_batch b.circuit site q

  is : IsStrand own s.strand
  is = subst (λ z. IsStrand z s.strand) asked.own_is (knows.strand (let k = asks.to in omega arith))

  -- the batch of the shard is that of its definition
  over : (new_ms : List KeptShard) (new : KeptShard) (t : Demand) → AsksFurther b opening own question time new_ms new s t → AsksFurther b opening h question time new_ms new s t
  over new_ms new t k = subst (λ z. AsksFurther b opening z question time new_ms new s t) (sym asked.own_is) k

  -- a step at the memo of its own, by what came of it
  module _ (n : Next) (is-next : next s.strand ≡ n) (mine : IsOwnStep b question n) where
    here : (k : KeptShard) → k ≡ m → (p : Point) → IsHere h k p
    here k same p = subst (λ (z : Batch). shard_number p.signal z.shards ≡ k.number) (sym asked.own_is) (let l = ap (λ (z : KeptShard). z.number) same in let o = asks.number in omega arith)

    pub own-stands : MayStep h m n s
    own-stands = stands n is-next mine
      where
        stands : (k : Next) → next s.strand ≡ k → IsOwnStep b question k → MayStep h m k s
        stands (Ask p) e _ = here m refl p
        stands (Fill p) e _ = asks.holds.held p (top-held s.strand.stack p (fill-top s.strand p e)) ∙ ap (λ (z : Query). Some z.number) (sym asks.way.query)
        stands (Drop p) e k = absurd k
        stands Done e k = absurd k

    pub own-heard : (new : KeptShard) (t : Demand) → At Ask n (λ p. Tells m new p s t) → AsksFurther b opening h question time ms new s t × Extends m.shard.journal new.shard.journal
    own-heard new t f = (
      over ms new t (tells-on b opening question time asked.lawful asked.queries ms m s asks is new t (step_point n) (is-next ∙ f.0) f.1),
      (Told s.strand.query.number (step_point n) f.1.cell.cell ∷ [], ap (λ (z : KeptShard). z.shard.journal) f.1.shard),
    )

    pub own-holds : (new : KeptShard) (t : Demand) → At Ask n (λ p. ClaimsIt h m new p s t) → AsksFurther b opening h question time ms new s t × Extends m.shard.journal new.shard.journal
    own-holds new t f = (
      over ms new t (claims-on b opening question time asked.lawful asked.queries ms m s asks is new t (step_point n) (is-next ∙ f.0) (subst (IsOwnStep b question) f.0 mine)
          (subst (λ z. ClaimsIt z m new (step_point n) s t) asked.own_is f.1)),
      (Claimed s.strand.query.number (step_point n) ∷ [], ap (λ (z : KeptShard). z.shard.journal) f.1.shard),
    )

    pub own-filled : (new : KeptShard) (t : Demand) (woken : List Demand) → At Fill n (λ p. FillsIt h m new p s t woken) → AsksFurther b opening h question time ms new s t × Extends m.shard.journal new.shard.journal
    own-filled new t woken f = (
      over ms new t (fills-on b opening question time asked.lawful asked.queries ms m s asks is new t woken (step_point n) (is-next ∙ f.0) (subst (λ z. FillsIt z m new (step_point n) s t woken) asked.own_is f.1)),
      fill-extends h m new s t woken (step_point n) f.1,
    )

    pub own-drops : (new : KeptShard) (t : Demand) (woken : List Demand) → At Drop n (λ p. DropsIt m new p s t woken) → ⊥
    own-drops new t woken f = subst (IsOwnStep b question) f.0 mine

    -- what it asks for is not claimed, so it never waits
    pub own-waits : (new : KeptShard) (t : Demand) → At Ask n (λ p. IsTaken m new p s t) → ⊥
    own-waits new t f = by (holder m.shard.state.claims (step_point n)) refl f.1.claimed
      where
        by : (o : Option ℕ) → holder m.shard.state.claims (step_point n) ≡ o → IsSome o → ⊥
        by None k l = true≢false (sym l)
        by (Some q) k l =
            let d = (held-lawful b asked.lawful question.query asked.queries site).circuit in
            let later = earlier (circuit_of b question) d s.strand.roots s.strand.stack (step_point n) (step_point n) is.chain (asks-first s.strand (step_point n) (is-next ∙ f.0)) (asks.holds.holder (step_point n) q k) in
            omega arith

    -- it is refused the point, and that can be recorded
    module _ (mid : KeptShard) (t : Demand) (f : At Ask n (λ p. Refuses m mid p s t)) (p : Point) (point : p ≡ step_point n) where
      pub own-spends : (t.strand.spent ≡ true) × ((next_in false t.strand.roots t.strand.stack ≡ Ask p) × (IsHere h mid p × IsUnfound mid p))
      own-spends = (
        ap (λ (z : Strand). z.spent) f.1.strand.strand,
        (
          subst (λ (z : Strand). next_in false z.roots z.stack ≡ Ask p) (sym f.1.strand.strand)
              (subst (λ x. next_in false s.strand.roots s.strand.stack ≡ Ask x) (sym point) (subst (λ w. next_in w s.strand.roots s.strand.stack ≡ Ask (step_point n)) (asks-unspent s.strand (step_point n) (is-next ∙ f.0)) (is-next ∙ f.0))),
          (here mid f.1.shard p, subst (IsUnfound mid) (sym point) (subst (λ z. IsUnfound z (step_point n)) (sym f.1.shard) f.1.unfound)),
        ),
      )

      pub own-spent : (new : KeptShard) → new ≡ with_shard mid (shard_with_entry (Spent t.strand.query.number p (length t.strand.stack)) mid.shard) → GivesUp b question time ms new t (Own p) × Extends m.shard.journal new.shard.journal
      own-spent new shard =
          let entry = Spent t.strand.query.number p (length t.strand.stack) in
          let over_m : new ≡ with_shard m (shard_with_entry entry m.shard) = subst (λ z. new ≡ with_shard z (shard_with_entry entry z.shard)) f.1.shard shard in (
            spends-on b opening question time asked.lawful asked.queries ms m s asks is new t p (is-next ∙ f.0 ∙ ap Ask (sym point)) (subst (λ x. Refuses m m x s t) (sym point) (subst (λ z. Refuses m z (step_point n) s t) f.1.shard f.1)) over_m,
            (entry ∷ [], ap (λ (z : KeptShard). z.shard.journal) over_m),
          )

  -- what it asks for
  pub step-asks : (p : Point) → next s.strand ≡ Ask p → IsAskedOf b asked.lawful site q asked.queries p
  step-asks p e = asked-of b asked.lawful site q asked.queries s.strand p is e

  -- a free point is asked of the session's memo
  module _ (p : Point) (e : next s.strand ≡ Ask p) (free : IsFree b.circuit question.site p.signal) where
    abbrev start : Start
    start = child_start q p (charge_of (entries_of ms) q)

    pub step-starts : IsEvaluable b.circuit p.signal p.time → IsStart b start
    step-starts evaluable =
        child-start b asked.lawful q (asked-one b asked.lawful q asked.queries) p
        (free-needed b asked.lawful site q asked.queries p free asked.site (step-asks p e).needed) evaluable (charge_of (entries_of ms) q) (omega arith)

    pub step-cell : cell_at h.circuit p ≡ cell_at b.circuit p
    step-cell = ap (λ (z : Batch). cell_at z.circuit p) asked.own_is ∙ free-cell b asked.lawful site q asked.queries p free

    module _ (new : List KeptShard) where
      after : (r : Bool) → HasAsked b opening start (shards_in ms) (shards_in new) r → IsStanding b opening q [] asks.first (standing new r)
      after r has = (has-reached b asked.lawful opening q [] asks.first (shards_in ms) (shards_in new) r p start asks.stands (child-asked q (entries_of ms) p) has).0.stands

      -- it is one that the query needs
      pub step-session : (r : Bool) → HasAsked b opening start (shards_in ms) (shards_in new) r → AsksOn b opening q (shards_in ms) false (shards_in new) r
      step-session r has = Needed Nothing p (λ _. free-needed b asked.lawful site q asked.queries p free asked.site (step-asks p e).needed) has

      pub step-kept : (r : Bool) → HasAsked b opening start (shards_in ms) (shards_in new) r → AreKept (entries_of ms) (entries_of new)
      step-kept r has = has.journals.together.old_stay

      pub step-heard : HasAsked b opening start (shards_in ms) (shards_in new) false → (t : Demand) → TakesStep after_answer s t → AsksFurther b opening h question time new m s t
      step-heard has t f =
          over new m t (hears-on b opening question time asked.lawful asked.queries ms m s asks is new asks.first (after false has) (step-kept false has) t p e free
          (said (root-covered b opening (sub_query q p) p.time (charge_of (entries_of ms) q) (shards_in ms) (shards_in new) has)) f)
        where
          said : IsCovered b.circuit (entries_of new) p → IsSaid (entries_of new) p
          said (inl never) = absurd (never (free-evaluable b asked.lawful site q asked.queries p free (step-asks p e).evaluable))
          said (inr k) = k

      pub step-refused : HasAsked b opening start (shards_in ms) (shards_in new) true → (t : Demand) → TakesStep given_up s t → GivesUp b question time new m t Session
      step-refused has t f = refuses-on b opening question time asked.lawful asked.queries ms m s asks is new t (after true has).state.0 f

-- entries that come after others keep them
pub extends-kept : (old new : List Entry) → Extends old new → AreKept old new
extends-kept old new x e h = subst (λ z. Contains z e) (sym x.1) (Contains-append_left old x.0 e h)

pub extends-none : (es : List Entry) → Extends es es
extends-none es = ([], sym (append-nil es))

pub extends-then : (a b c : List Entry) → Extends a b → Extends b c → Extends a c
extends-then a b c x y = (x.0 ++ y.0, y.1 ∙ ap (λ l. l ++ y.0) x.1 ∙ append_assoc a x.0 y.0)

-- base answers that are heard change nothing that is seen
pub asks-same : (b : Batch) (opening : ℕ → List SignalCell) (question : StuckQuery) (time : ℕ) (ms : List KeptShard) (m : KeptShard) (s t : Demand) → TakesStep itself s t → Asks b opening question time ms m s → Asks b opening question time ms m t
asks-same b opening question time ms m s t f asks = record {
  first = asks.first;
  stands = asks.stands;
  mirror = asks.mirror;
  mirrors = asks.mirrors;
  way = subst (IsUnderWay (circuit_of b question) (start_at question time) asks.mirror) (sym f.strand) asks.way;
  holds = record {
    held = λ p h. asks.holds.held p (subst (λ (z : Strand). IsOnStack z.stack p) f.strand h);
    holder = λ p n h. subst (λ (z : Strand). IsOnStack z.stack p) (sym f.strand) (asks.holds.holder p n h);
  };
  number = asks.number;
  reached = asks.reached;
  from = f.from ∙ asks.from;
  to = f.to ∙ asks.to;
}

pub ok-of : {A E : Type 0} (r : Result A E) (P : Type 0) → P → OnOk r P
ok-of (Ok x) P p = p
ok-of (Err e) P p = tt

pub session-kept : (ms new : List KeptShard) → new ≡ ms → AreKept (entries_of ms) (entries_of new)
session-kept ms new is e h = subst (λ z. Contains (entries_of z) e) (sym is) h

pub own-extends : (m new : KeptShard) → new ≡ m → Extends m.shard.journal new.shard.journal
own-extends m new is = subst (λ (z : KeptShard). Extends m.shard.journal z.shard.journal) (sym is) (extends-none m.shard.journal)

-- a step after base answers were heard is a step of the strand before
pub step-same : {E : Type 0} (b : Batch) (opening : ℕ → List SignalCell) (own : Batch) (question : StuckQuery) (time : ℕ) (old ms : List KeptShard) (m : KeptShard) (s t u : Demand) → TakesStep itself s t
    → (r : Result AfterStep E) → IfOk r (IsAfterStep b opening own question time old ms m t u) → IfOk r (IsAfterStep b opening own question time old ms m s u)
step-same b opening own question time old ms m s t u f (Ok GoesOn) h = (h.0, record { asks = h.1.asks; less = subst (λ (z : Strand). turns_left own 1 u.strand < turns_left own 1 z) f.strand h.1.less })
step-same b opening own question time old ms m s t u f (Ok Ended) h = h
step-same b opening own question time old ms m s t u f (Ok Refused) h = h
step-same b opening own question time old ms m s t u f (Err e) h = tt

pub gives-same : (b : Batch) (question : StuckQuery) (time : ℕ) (ms : List KeptShard) (m : KeptShard) (s t : Demand) → (who : RefusedBy) → TakesStep itself s t → GivesUp b question time ms m s who → GivesUp b question time ms m t who
gives-same b question time ms m s t who f gives = record {
  holds = record {
    held = λ p h. gives.holds.held p (subst (λ (z : Strand). IsOnStack z.stack p) f.strand h);
    holder = λ p n h. subst (λ (z : Strand). IsOnStack z.stack p) (sym f.strand) (gives.holds.holder p n h);
  };
  query = ap (λ (z : Strand). z.query) f.strand ∙ gives.query;
  number = gives.number;
  reached = gives.reached;
  spent = ap (λ (z : Strand). z.spent) f.strand ∙ gives.spent;
  to = f.to ∙ gives.to;
  cause = subst (λ (z : Strand). IsGivingUpBy b.circuit question time (entries_of ms) m.shard.journal z who) (sym f.strand) gives.cause;
}

-- what is known of a strand, over the batch of its definition
pub chain-of : (b h : Batch) (question : StuckQuery) (cd dd : Circuit) → IsAsked b h question cd dd → (s t : Demand) (time : ℕ) → s.to ≡ time + 1 → IsKnownStrand h s → TakesStep itself s t
    → IsChain (circuit_of b question) t.strand.roots t.strand.stack
chain-of b h question cd dd asked s t time to knows f =
    let is : IsStrand (held_batch b.circuit (site_in question) question.query) s.strand = subst (λ z. IsStrand z s.strand) asked.own_is (knows.strand (omega (arith, to))) in
    subst (λ (z : Strand). IsChain (circuit_of b question) z.roots z.stack) (sym f.strand) is.chain
