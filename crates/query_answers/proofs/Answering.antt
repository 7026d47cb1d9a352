-- The one query of a batch, for one time: what it needs, and its answer.
use Rattle.std.proofs.Common.{◌≡◌, ℕ, ◌+◌, ◌<◌, ◌≤◌, Bool, true, false, List, [], ◌∷◌, length, Contains, Option, Some, None, refl, sym, ap, subst, ◌∙◌, arith}
use Rattle.std.proofs.lemmas.List.Elements.{All-contains}
use Rattle.valid_intervals.specs.declared.Cell.{Cell}
use Rattle.valid_intervals.specs.declared.Point.{Point}
use Rattle.valid_intervals.specs.declared.SignalCell.{SignalCell}
use Rattle.circuit_meaning.specs.Cells.{cell_at, point_at}
use Rattle.circuit_meaning.specs.Need.{IsEvaluable, Root, First}
use Rattle.journal_meaning.specs.declared.Entry.{Entry}
use Rattle.journal_meaning.specs.Answers.{IsCovered, IsClosed}
use Rattle.journal_meaning.specs.Grown.{AreAdded}
use Rattle.journal_meaning.proofs.Callers.{grows-none}
use Rattle.journal_meaning.specs.declared.batch.Query.{Query}
use Rattle.journal_meaning.specs.Batches.{Batch, Site, IsNeededBy, NeedOf}
use Rattle.journal_meaning.specs.Lawful.{IsLawful}
use Rattle.journal_meaning.specs.Pieces.{IsStart}
use Rattle.session_meaning.specs.Explanations.{Explains, IsExplained}
use Rattle.session_meaning.specs.declared.Verdict.TheVariants.{Ask}
use Rattle.reply_lines.specs.declared.reply.Outcome.TheVariants.{Budget}
use Rattle.plan_machine.specs.Shards.{Shard}
use Rattle.plan_machine.specs.Settle.{journals_of, charge_of, sub_query}
use Rattle.plan_machine.specs.Standings.{IsOpen, IsStanding}
use Rattle.plan_machine.proofs.Callers.{begins-query, settles-closed, contains-none}
use Rattle.memo_shards.specs.KeptShards.{KeptShard}
use Rattle.plan_core.specs.Parts.{shards_in}
use Rattle.plan_core.specs.asked.Asked.{HasAsked, AsksOn}
use Rattle.design.specs.PinWalks.{IsPoint}
use Rattle.plan_core.specs.asked.Memos.{AreFreeShards, entries_of}
use Rattle.plan_core.specs.asked.Standings.{live, standing}
use Rattle.plan_core.proofs.Callers.{root-covered}
use Rattle.query_answers.specs.asking.inner.AskedMemos.{AskedMemo, GoesOnAsking, start_for}
use Rattle.query_answers.specs.explanations.inner.Gathered.{AreExplained}
use Rattle.query_answers.proofs.AskedOn.{asks-advance, turned-asking, root-starts, root-goes-on}

module _ (b : Batch) (lawful : IsLawful b) (opening : ℕ → List SignalCell) (q : Query) (queries : b.queries ≡ q ∷ []) (window : q.to ≡ q.from + 1) where
  abbrev root : Point
  root = point_at q.signal q.from

  pub known : Contains b.queries q
  known = subst (λ (qs : List Query). Contains qs q) (sym queries) (0, omega arith, refl)

  within : q.to ≤ b.circuit.horizon + 1
  within = All-contains (λ (r : Query). r.to ≤ b.circuit.horizon + 1) b.queries q lawful.windows known

  -- its point is one of the circuit
  pub root-point : IsPoint b.circuit root
  root-point = record {
    signal = All-contains (λ (r : Query). r.signal < length b.circuit.drivers) b.queries q lawful.signals known;
    time = (let l = within in omega arith);
  }

  -- and it needs it
  pub root-needed : b.site ≡ None → IsEvaluable b.circuit q.signal q.from → IsNeededBy b q root
  root-needed site e = subst (λ (s : Option Site). NeedOf b.circuit s q root) (sym site) (Root (First (omega arith)) e)

  -- it is asked for, once the memo was turned to the query
  module _ (site : b.site ≡ None) (old : AskedMemo) (ms : List KeptShard) (turned : old ≡ record { memo = ms; query = q }) where
    same : old.query ≡ q
    same = ap (λ (a : AskedMemo). a.query) turned

    pub asked-starts : IsEvaluable b.circuit q.signal q.from → IsStart b (start_for old root)
    asked-starts = root-starts b lawful opening site q known old same q.from (First (omega arith))

    module _ (new : AskedMemo) (r : Bool) (h : HasAsked b opening (start_for old root) (shards_in old.memo) (shards_in new.memo) r) (s : Bool) (is : r ≡ s) where
      pub asked-on : new.query ≡ old.query → GoesOnAsking b opening (record { memo = ms; query = q }) new s
      asked-on stays = turned-asking b opening old ms q turned new r s is (root-goes-on b lawful opening site q known old same q.from (First (omega arith)) new r h stays)

      pub asked-covered : s ≡ false → IsCovered b.circuit (entries_of new.memo) root
      asked-covered found =
          root-covered b opening (sub_query old.query root) root.time (charge_of (entries_of old.memo) old.query) (shards_in old.memo) (shards_in new.memo)
          (subst (HasAsked b opening (start_for old root) (shards_in old.memo) (shards_in new.memo)) (is ∙ found) h)

  -- nothing is recorded yet
  pub begins-standing : (ms : List KeptShard) → AreFreeShards b opening ms → entries_of ms ≡ [] → IsStanding b opening q [] (shards_in ms) (live ms)
  begins-standing ms kept unused =
      begins-query b opening q [] (shards_in ms) kept.fresh (subst (IsOpen b.circuit q []) (sym unused) (record {
        added = [];
        grows = grows-none [];
        fed = λ p x h. absurd (contains-none _ [] refl h);
        refusals = refl;
      }))

  -- the query is closed once its point is covered
  closed : (first : List Shard) (now : List KeptShard) → IsStanding b opening q [] first (live now) → IsCovered b.circuit (entries_of now) root → IsClosed b.circuit (entries_of now) q
  closed first now s covered =
      (settles-closed b lawful q within [] (entries_of now) s.state (λ p y m. absurd (contains-none _ [] refl m)) q.to
      (λ t since before. let same : q.from ≡ t = omega arith in subst (λ u. IsCovered b.circuit (entries_of now) (record { signal = q.signal; time = u })) same covered) (omega arith)).0

  -- over shards in which nothing is recorded it was asked for
  module _ (ms : List KeptShard) (kept : AreFreeShards b opening ms) (unused : entries_of ms ≡ []) (new : List KeptShard) (r : Bool) (asks : AsksOn b opening q (shards_in ms) false (shards_in new) r) where
    pub asked-stands : IsStanding b opening q [] (shards_in ms) (standing new r)
    asked-stands = (asks-advance b lawful opening q [] (shards_in ms) (shards_in ms) false (shards_in new) r refl asks (begins-standing ms kept unused)).stands

    -- the journals grew
    pub journals-grown : (added : List Entry) × AreAdded (journals_of (shards_in ms)) added (journals_of (shards_in new))
    journals-grown = let s = asked-stands in (s.added, s.journals)

    -- the query was refused
    pub answers-budget : r ≡ true → IsExplained b.circuit (entries_of new) (Ask q) (Budget q.budget)
    answers-budget e = (refl, (subst (λ z. IsStanding b opening q [] (shards_in ms) (standing new z)) e asked-stands).state.0)

    -- the lines are an explanation
    pub answers-proof : r ≡ false → (cell : Cell) (lines : List SignalCell) → cell ≡ cell_at b.circuit root → IsCovered b.circuit (entries_of new) root → AreExplained b.circuit (entries_of new) q lines → Explains b.circuit (entries_of new) q lines cell.value
    answers-proof e' cell lines right covered e = record {
      justified = e.justified;
      follows = e.follows ∙ ap (λ (x : Cell). Some x.value) (sym right);
      ordered = e.ordered;
      told = e.told;
      closed = closed (shards_in ms) new (subst (λ z. IsStanding b opening q [] (shards_in ms) (standing new z)) e' asked-stands) covered;
    }
