-- A window that is walked from cell to cell, over shards in which nothing was recorded.
use Rattle.std.proofs.Common.{◌≡◌, ℕ, ◌+◌, ◌<◌, ◌≤◌, Bool, true, false, List, [], ◌∷◌, Contains, length, Option, Some, None, refl, sym, ap, subst, ◌∙◌, arith, inl, inr}
use Rattle.std.proofs.lemmas.Bool.{cases_lt}
use Rattle.std.proofs.lemmas.List.Elements.{All-contains}
use Rattle.gate_values.specs.declared.Value.{Value}
use Rattle.gate_values.specs.Gates.{same_value}
use Rattle.valid_intervals.specs.declared.Point.{Point}
use Rattle.valid_intervals.specs.declared.SignalCell.{SignalCell}
use Rattle.circuit_meaning.specs.Cells.{span}
use Rattle.circuit_meaning.specs.Need.{IsRoot, IsEvaluable, Root, First}
use Rattle.circuit_meaning.proofs.Callers.{cell-covers, cell-steady}
use Rattle.journal_meaning.specs.declared.Entry.{Entry}
use Rattle.journal_meaning.specs.Grown.{AreAdded}
use Rattle.journal_meaning.proofs.Callers.{grows-none}
use Rattle.journal_meaning.specs.declared.batch.Query.{Query}
use Rattle.journal_meaning.specs.Batches.{Batch, Site, IsNeededBy, NeedOf, window_of}
use Rattle.journal_meaning.specs.Lawful.{IsLawful}
use Rattle.journal_meaning.specs.Pieces.{IsStart}
use Rattle.session_meaning.specs.FirstTimes.{stop_at, up_to_first, IsFirstOutcome}
use Rattle.session_meaning.specs.declared.Verdict.TheVariants.{Ask}
use Rattle.reply_lines.specs.declared.reply.Outcome.TheVariants.{Answer, Budget}
use Rattle.plan_machine.specs.Settle.{child_start, charge_of, journals_of}
use Rattle.plan_machine.specs.Standings.{IsStanding, IsOpen, Reaches, IsCoveredTo}
use Rattle.plan_machine.proofs.Callers.{child-start, child-asked, begins-query, settles-closed, window-step, contains-none}
use Rattle.memo_shards.specs.KeptShards.{KeptShard}
use Rattle.plan_core.specs.Parts.{shards_in}
use Rattle.plan_core.specs.asked.Memos.{AreFreeShards, entries_of}
use Rattle.plan_core.specs.asked.Asked.{HasAsked, AsksOn, Nothing, Needed}
use Rattle.plan_core.specs.asked.Standings.{live, standing}
use Rattle.plan_core.proofs.Callers.{asks-then}
use Rattle.query_answers.proofs.AskedOn.{has-reached}
use Rattle.query_answers.proofs.Finding.{has, NoneBefore, first-here, first-none, goes-on}

module _ (b : Batch) (opening : ℕ → List SignalCell) (q : Query) (w : Value) where
  -- what is asked for: the query up to the first time
  abbrev pub asked : Query
  asked = up_to_first b.circuit q w

  -- between two cells, since the walk began over the first shards
  pub record IsWalking (first now : List KeptShard) (t : ℕ) : Type 0 where
    pub none : NoneBefore b.circuit q w t
    pub since : q.from ≤ t
    pub root : t < asked.to → IsRoot b.circuit (window_of asked) t
    pub stands : IsStanding b opening asked [] (shards_in first) (live now)
    pub covered : IsCoveredTo b.circuit asked (live now) t

module _ (b : Batch) (lawful : IsLawful b) (opening : ℕ → List SignalCell) (q : Query) (w : Value) (queries : b.queries ≡ up_to_first b.circuit q w ∷ []) where
  abbrev until : Query
  until = up_to_first b.circuit q w

  abbrev Walking : List KeptShard → List KeptShard → ℕ → Type 0
  Walking = IsWalking b opening q w

  pub known : Contains b.queries until
  known = subst (λ (qs : List Query). Contains qs until) (sym queries) (0, omega arith, refl)

  within : until.to ≤ b.circuit.horizon + 1
  within = All-contains (λ (r : Query). r.to ≤ b.circuit.horizon + 1) b.queries until lawful.windows known

  pub in-circuit : q.signal < length b.circuit.drivers
  in-circuit = All-contains (λ (r : Query). r.signal < length b.circuit.drivers) b.queries until lawful.signals known

  pub in-time : (t : ℕ) → NoneBefore b.circuit q w t → t < q.to → t ≤ b.circuit.horizon
  in-time t none before = let k = goes-on b.circuit q w t none before in let l = within in omega arith

  -- a strand may start with a root
  pub root-start : b.site ≡ None → (t : ℕ) (es : List Entry) → IsRoot b.circuit (window_of until) t → IsEvaluable b.circuit q.signal t → IsStart b (child_start q (record { signal = q.signal; time = t }) (charge_of es q))
  root-start site t es root evaluable =
      let x : Point = record { signal = q.signal; time = t } in
      let need : IsNeededBy b until x = subst (λ (s : Option Site). NeedOf b.circuit s until x) (sym site) (Root root evaluable) in
      child-start b lawful until known x need evaluable (charge_of es q) (omega arith)

  pub begins : (ms : List KeptShard) → AreFreeShards b opening ms → entries_of ms ≡ [] → Walking ms ms q.from
  begins ms kept unused = record {
    none = λ u since before. absurd (omega arith);
    since = omega arith;
    root = λ l. First l;
    stands = begins-query b opening until [] (shards_in ms) kept.fresh (subst (IsOpen b.circuit until []) (sym unused) (record {
      added = [];
      grows = grows-none [];
      fed = λ p x h. absurd (contains-none _ [] refl h);
      refusals = refl;
    }));
    covered = λ z u low high. absurd (omega arith);
  }

  -- one time more is asked for
  pub asks-more : b.site ≡ None → (first old new : List KeptShard) (t : ℕ) (r : Bool) → IsRoot b.circuit (window_of until) t → AsksOn b opening until (shards_in first) false (shards_in old) false
      → HasAsked b opening (child_start q (record { signal = q.signal; time = t }) (charge_of (entries_of old) q)) (shards_in old) (shards_in new) r → AsksOn b opening until (shards_in first) false (shards_in new) r
  asks-more site first old new t r root before h =
      let x : Point = record { signal = q.signal; time = t } in
      let need : IsEvaluable b.circuit q.signal t → IsNeededBy b until x = λ evaluable. subst (λ (s : Option Site). NeedOf b.circuit s until x) (sym site) (Root root evaluable) in
      asks-then b opening until (shards_in first) false (shards_in old) (shards_in new) r before (Needed Nothing x need h)

  module _ (first old new : List KeptShard) (t : ℕ) (k : Walking first old t) (before : t < q.to) where
    abbrev x : Point
    x = record { signal = q.signal; time = t }

    low : t < until.to
    low = goes-on b.circuit q w t k.none before

    -- a strand was started for the cell at t, and came to its end or was refused
    abbrev Asks : Bool → Type 0
    Asks r = HasAsked b opening (child_start q x (charge_of (entries_of old) q)) (shards_in old) (shards_in new) r

    -- the cell at t was asked for
    pub reached : (r : Bool) → Asks r → Reaches b opening until [] (shards_in first) (live old) x (standing new r)
    reached r h = has-reached b lawful opening until [] (shards_in first) (shards_in old) (shards_in new) r x (child_start until x (charge_of (entries_of old) until)) k.stands (child-asked until (entries_of old) x) h

    -- the journals from the first shards on
    pub journals-of-reach : (r : Bool) → Asks r → (added : List Entry) × AreAdded (journals_of (shards_in first)) added (journals_of (shards_in new))
    journals-of-reach r h = let s = (reached r h).0.stands in (s.added, s.journals)

    -- it has another value
    pub goes-by : Asks false → has b.circuit q w t ≡ false → Walking first new (span b.circuit q.signal t).stop
    goes-by h other =
        let one = reached false h in
        let s = window-step b lawful opening until known [] (shards_in first) (live old) (standing new false) t low (k.root low) k.covered one in
        let l = s.later in
        let i = k.since in
        record {
          none = λ u since inside. elim (cases_lt u t) [
            | inl l ↦ k.none u since l
            | inr l ↦
                let c = cell-covers b.circuit lawful.circuit t q.signal (in-time t k.none before) in
                let same = (cell-steady b.circuit lawful.circuit t q.signal u (record { low = (let e = c.inside.low in omega arith); high = inside })).value in
                ap (λ v. same_value v w) same ∙ other
          ];
          since = omega arith;
          root = s.root;
          stands = one.0.stands;
          covered = s.covered;
        }

    -- it is the first with the value
    pub ends-here : Asks false → has b.circuit q w t ≡ true → IsFirstOutcome b.circuit (entries_of new) w (Ask q) (Answer (Some t))
    ends-here h is =
        let one = reached false h in
        let s = window-step b lawful opening until known [] (shards_in first) (live old) (standing new false) t low (k.root low) k.covered one in
        let l = s.later in
        let here = first-here b.circuit q w t k.none k.since before is in
        let stop : until.to ≡ t + 1 = ap (λ o. stop_at o q.to) here in
        (here, (settles-closed b lawful until within [] (entries_of new) one.0.stands.state (λ p y m. absurd (contains-none _ [] refl m)) (span b.circuit q.signal t).stop (s.covered refl) (omega arith)).0)

    -- the query was refused
    pub ends-refused : Asks true → IsFirstOutcome b.circuit (entries_of new) w (Ask q) (Budget q.budget)
    ends-refused h = (refl, (reached true h).0.stands.state.0)

  -- no cell has the value
  pub ends-never : (first now : List KeptShard) (t : ℕ) → Walking first now t → q.to ≤ t → IsFirstOutcome b.circuit (entries_of now) w (Ask q) (Answer None)
  ends-never first now t k high =
      let here = first-none b.circuit q w t k.none high in
      let stop : until.to ≡ q.to = ap (λ o. stop_at o q.to) here in
      (here, (settles-closed b lawful until within [] (entries_of now) k.stands.state (λ p y m. absurd (contains-none _ [] refl m)) t (k.covered refl) (omega arith)).0)
