-- A query whose budget is as great as its need has its wave.
use Rattle.std.proofs.Common.{◌≡◌, ◌≢◌, ℕ, zero, suc, ◌<◌, List, [], ◌∷◌, length, map, get_or, Contains, All, AllPairs, Option, Some, None, refl, sym, ap, subst, ◌∙◌, arith, ◌⊎◌, inl, inr}
use Rattle.std.specs.List.{AllZip, slice_index_or}
use Rattle.std.proofs.lemmas.List.Elements.{All-head}
use Rattle.valid_intervals.specs.declared.SignalCell.{SignalCell}
use Rattle.circuit_meaning.specs.Circuit.{Circuit, IsCircuit}
use Rattle.circuit_meaning.specs.Forward.{wave}
use Rattle.circuit_meaning.specs.declared.Run.{Run}
use Rattle.circuit_meaning.proofs.Callers.{held-fits}
use Rattle.journal_meaning.specs.declared.batch.Query.{Query}
use Rattle.journal_meaning.specs.Batches.{Batch, Site, NeedOf}
use Rattle.journal_meaning.specs.declared.Entry.{Entry}
use Rattle.journal_meaning.specs.Laws.{IsOwnQuery, IsRoomy, IsLegalFrom, NeedsAtMost}
use Rattle.journal_meaning.specs.Replay.{IsLegalBatch}
use Rattle.journal_meaning.specs.Sections.{of_batch, cells_after}
use Rattle.journal_meaning.specs.Answers.{IsAnswer, IsSpent}
use Rattle.journal_meaning.proofs.Callers.{enough-budget}
use Rattle.gate_values.specs.declared.Value.{Value}
use Rattle.query_lines.specs.declared.line.Asks.{Asks}
use Rattle.query_lines.specs.declared.line.Asks.TheVariants as kinds
use Rattle.query_lines.specs.declared.unit.Item.{Item}
use Rattle.query_lines.specs.declared.unit.Question.{Question}
use Rattle.query_lines.specs.declared.unit.Unit.{Unit as ScriptUnit}
use Rattle.query_lines.specs.declared.unit.Unit.TheVariants as units
use Rattle.query_lines.specs.Reading.{script_units}
use Rattle.query_lines.specs.Fit.{HasOwnLines, UnitsHaveOwnLines}
use Rattle.reply_lines.specs.declared.reply.Explanation.{Explanation}
use Rattle.reply_lines.specs.declared.reply.Outcome.{Outcome}
use Rattle.reply_lines.specs.declared.reply.Outcome.TheVariants as outcomes
use Rattle.reply_lines.specs.declared.reply.Outcome.TheVariants.{Answer, Budget}
use Rattle.reply_lines.specs.declared.reply.QuestionReply.{QuestionReply}
use Rattle.reply_lines.specs.declared.reply.QuestionReply.TheVariants as told
use Rattle.reply_lines.specs.declared.reply.Reply.{Reply}
use Rattle.reply_lines.specs.declared.reply.Reply.TheVariants as replies
use Rattle.session_meaning.specs.declared.Verdict.TheVariants.{Ask}
use Rattle.session_meaning.specs.Verdicts.{verdict_of, question_verdict, site_of, asked_queries}
use Rattle.session_meaning.specs.FirstTimes.{first_time, up_to_first, IsFirstOutcome}
use Rattle.session_meaning.specs.Explanations.{IsWhyOutcome}
use Rattle.session_meaning.specs.StuckSignals.{stuck_circuit, held_batch, IsStuckReply, IsHeldMemo}
use Rattle.session_meaning.specs.Questions.{queries_at, kind_queries, IsRightBy, IsOwnMemo}
use Rattle.query_lines.proofs.Callers.{first-part, later-part}
use Rattle.session_meaning.proofs.Asked.{asks-line, asked-in, in-asked}
use Rattle.session_meaning.proofs.StuckReplies.{no-first, no-why}
use Rattle.session_meaning.specs.Replies.{IsReply}
use Rattle.session_meaning.specs.Session.{Setup, Course, batch_of, question_batch, IsServed, Session, Opened, Served}
use Rattle.session_meaning.specs.Ample.{IsAmpleFirst, IsAmpleWhy, IsAmpleStuck, IsAmpleBy, IsAmpleUnit, IsAmple}
use Rattle.session_meaning.specs.Laws.{EnoughBudgetIsServed, EnoughBudgetsAreServed}

zip-at : {A B : Type 0} (P Q : A → B → Type 0) (xs : List A) (ys : List B)
    → ((k : ℕ) (x : A) (y : B) → k < length xs → ((z : A) → slice_index_or xs k z ≡ x) → P x y → Q x y) → AllZip P xs ys → AllZip Q xs ys
zip-at P Q [] [] f h = tt
zip-at P Q (x ∷ xs) [] f h = absurd h
zip-at P Q [] (y ∷ ys) f h = absurd h
zip-at P Q (x ∷ xs) (y ∷ ys) f h = (f 0 x y (omega arith) (λ z. refl) h.0, zip-at P Q xs ys (λ k x y l at p. f (suc k) x y (omega (arith, l)) at p) h.1)

module _ (setup : Setup) (items : List Item) (apart : AllPairs (λ a b. a.line ≢ b.line) items) where
  own : (k : ℕ) (item : Item) (q : Query) → k < length items → ((z : Item) → slice_index_or items k z ≡ item) → verdict_of setup.design item ≡ Some (Ask q) → IsOwnQuery (batch_of setup items) q
  own k item q l at is = record {
    known = in-asked setup.design items k item q l at is;
    single = λ r has same.
        let f = asked-in setup.design items r has in
        let j = f.place in
        let lines : (slice_index_or items j item).line ≡ (slice_index_or items k item).line = ap (λ (x : Item). x.line) (f.there item) ∙ sym (asks-line setup.design f.item r f.asks) ∙ same ∙ asks-line setup.design item q is ∙ ap (λ (x : Item). x.line) (sym (at item)) in
        let met : j ≡ k = places j k f.low l (apart j k item) (apart k j item) lines in
        let e : Some (Ask r) ≡ Some (Ask q) = sym f.asks ∙ ap (verdict_of setup.design) (sym (f.there item) ∙ ap (λ n. slice_index_or items n item) met ∙ at item) ∙ is in
        cc;
  }
    where
      places : (j k : ℕ) → j < length items → k < length items → (j < k → k < length items → (slice_index_or items j item).line ≢ (slice_index_or items k item).line)
          → (k < j → j < length items → (slice_index_or items k item).line ≢ (slice_index_or items j item).line) → (slice_index_or items j item).line ≡ (slice_index_or items k item).line → j ≡ k
      places j k lj lk before behind lines = elim (compare j k) [
        | inl less ↦ absurd (before less lk lines)
        | inr more ↦ elim more [ inl same ↦ same | inr less ↦ absurd (behind less lj (sym lines)) ]
      ]
        where
          compare : (a b : ℕ) → (a < b) ⊎ ((a ≡ b) ⊎ (b < a))
          compare zero zero = inr (inl refl)
          compare zero (suc b) = inl (omega arith)
          compare (suc a) zero = inr (inr (omega arith))
          compare (suc a) (suc b) = elim (compare a b) [
            | inl less ↦ inl (omega (arith, less))
            | inr more ↦ elim more [ inl same ↦ inr (inl (ap suc same)) | inr less ↦ inr (inr (omega (arith, less))) ]
          ]

some-inj : (a b : List Run) → Some a ≡ Some b → a ≡ b
some-inj a b h = cc

none-some : {A : Type 0} (runs : Option (List Run)) (a : List Run) → runs ≡ None → runs ≡ Some a → A
none-some runs a none h = absurd cc

pub enough : EnoughBudgetIsServed
enough setup circuit now next items apart served room =
    zip-at (λ item reply. IsReply setup.design.circuit (of_batch served.lists) (verdict_of setup.design item) reply)
    (λ item reply. (q : Query) → verdict_of setup.design item ≡ Some (Ask q) → NeedsAtMost (batch_of setup items) q q.budget → reply ≡ replies.Window (Answer (wave setup.design.circuit q.signal q.from q.to)))
    items served.replies
    (λ k item reply l at right q is most. replied q reply (own setup items apart k item q l at is) most (subst (λ v. IsReply setup.design.circuit (of_batch served.lists) v reply) is right))
    served.right
  where
    answered : (q : Query) (answer : Option (List Run)) → IsOwnQuery (batch_of setup items) q → NeedsAtMost (batch_of setup items) q q.budget → IsAnswer setup.design.circuit (of_batch served.lists) q answer
        → answer ≡ Some (wave setup.design.circuit q.signal q.from q.to)
    answered q answer mine most h =
        enough-budget (batch_of setup items) circuit (λ shard. cells_after shard now.sections) served.lists (record { count = served.count; legal = served.legal }) room q mine most answer h

    replied : (q : Query) (reply : Reply) → IsOwnQuery (batch_of setup items) q → NeedsAtMost (batch_of setup items) q q.budget → IsReply setup.design.circuit (of_batch served.lists) (Some (Ask q)) reply
        → reply ≡ replies.Window (Answer (wave setup.design.circuit q.signal q.from q.to))
    replied q (replies.Window (Answer runs)) mine most h = ap (λ r. replies.Window (Answer r)) (some-inj runs _ (answered q (Some runs) mine most h))
    replied q (replies.Window (Budget budget)) mine most h = none-some None _ refl (answered q None mine most h.1)
    replied q (replies.Window outcomes.Unknown) mine most h = absurd h
    replied q (replies.Window outcomes.Past) mine most h = absurd h
    replied q replies.BadLine mine most h = absurd h

only-one : (query r : Query) → Contains (query ∷ []) r → r ≡ query
only-one query r (zero, l, is) = sym is
only-one query r (suc k, l, is) = absurd (omega (arith, l))

-- the one query of a batch
one-query : (b : Batch) (query : Query) → b.queries ≡ query ∷ [] → IsOwnQuery b query
one-query b query are = record {
  known = subst (λ qs. Contains qs query) (sym are) (0, omega arith, refl);
  single = λ r has same. only-one query r (subst (λ qs. Contains qs r) are has);
}

-- Of a question.
module _ (setup : Setup) (circuit : IsCircuit setup.design.circuit) (question : Question) where
  abbrev c : Circuit
  c = setup.design.circuit

  abbrev batch : Batch
  batch = question_batch setup question

  module _ (cells : ℕ → List SignalCell) (lists : List (List Entry)) (legal : IsLegalFrom batch cells lists) where
    -- no query of the batch is refused where its budget is at least its need
    unspent : {A : Type 0} → IsRoomy batch lists → (query : Query) → batch.queries ≡ query ∷ [] → NeedsAtMost batch query query.budget → IsSpent (of_batch lists) query → A
    unspent room query are most spent = none-some None _ refl (enough-budget batch circuit cells lists legal room query (one-query batch query are) most None spent)

    enough-first : (value : Value) → question.asks ≡ kinds.First value → (outcome : Outcome (Option ℕ)) → IsFirstOutcome c (of_batch lists) value (question_verdict setup.design question) outcome → IsAmpleFirst setup question value lists outcome
    enough-first value asks outcome right room query is most = by outcome (subst (λ v. IsFirstOutcome c (of_batch lists) value v outcome) is right)
      where
        queries : batch.queries ≡ up_to_first c query value ∷ []
        queries = ap (λ a. kind_queries setup.design a (asked_queries (question_verdict setup.design question))) asks ∙ ap (λ v. map (λ q. up_to_first c q value) (asked_queries v)) is

        by : (outcome : Outcome (Option ℕ)) → IsFirstOutcome c (of_batch lists) value (Ask query) outcome → outcome ≡ Answer (first_time c query.signal value query.from query.to)
        by (Answer found) right = ap (λ f. Answer f) (sym right.0)
        by (Budget budget) right = unspent room (up_to_first c query value) queries most right.1
        by outcomes.Unknown right = absurd right
        by outcomes.Past right = absurd right

    enough-why : question.asks ≡ kinds.Why → (outcome : Outcome Explanation) → IsWhyOutcome setup.design (of_batch lists) question.window (question_verdict setup.design question) outcome → IsAmpleWhy setup question lists outcome
    enough-why asks outcome right room query is most budget refused =
        unspent room query queries most (subst (IsWhyOutcome setup.design (of_batch lists) question.window (Ask query)) refused (subst (λ v. IsWhyOutcome setup.design (of_batch lists) question.window v outcome) is right)).1
      where
        queries : batch.queries ≡ query ∷ []
        queries = ap (λ a. kind_queries setup.design a (asked_queries (question_verdict setup.design question))) asks ∙ ap asked_queries is

    module _ (held : List (List Entry)) (own-memo : IsOwnMemo setup.design question held) (named : List ℕ) (value : Value) (asks : question.asks ≡ kinds.Stuck named value)
        (site : Site) (query : Query) (known : site_of setup.design question.asks ≡ Some site) (is : question_verdict setup.design question ≡ Ask query) where
      stuck-queries : batch.queries ≡ query ∷ []
      stuck-queries =
          ap (λ a. kind_queries setup.design a (asked_queries (question_verdict setup.design question))) asks
          ∙ ap (λ s. queries_at s (asked_queries (question_verdict setup.design question))) (ap (site_of setup.design) (sym asks) ∙ known) ∙ ap asked_queries is

      -- what is free and needed is needed
      fewer : NeedsAtMost (held_batch c site query) query query.budget → NeedsAtMost batch query query.budget
      fewer most points apart all = most points apart (λ k d l. (subst (λ (s : Option Site). NeedOf c s query (slice_index_or points k d)) known (all k d l)).0)

      memo : IsHeldMemo c (Some site) (Ask query) held
      memo = subst (λ s. IsHeldMemo c s (Ask query) held) known (subst (λ v. IsHeldMemo c (site_of setup.design question.asks) v held) is own-memo)

      own-legal : IsLegalFrom (held_batch c site query) (λ shard. []) held
      own-legal = subst (IsLegalFrom (held_batch c site query) (λ shard. [])) (sym memo.1) (record { count = refl; legal = λ shard l. one shard l })
        where
          one : (shard : ℕ) → shard < 1 → IsLegalBatch (held_batch c site query) shard [] (get_or (memo.0 ∷ []) shard [])
          one zero l = memo.2.legal
          one (suc n) l = absurd (omega (arith, l))

      stuck-served : IsRoomy batch lists → IsRoomy (held_batch c site query) held → NeedsAtMost (held_batch c site query) query query.budget
          → (reply : QuestionReply) → IsStuckReply c (of_batch lists) (of_batch held) (Ask query) (Some site) reply
          → reply ≡ told.Stuck (Answer (wave (stuck_circuit c site) query.signal query.from query.to))
      stuck-served room own_room most (told.Stuck (Answer runs)) right = ap (λ r. told.Stuck (Answer r)) right.0
      stuck-served room own_room most (told.Stuck (Budget budget)) right = elim right.1 [
        | inl spent ↦ unspent room query stuck-queries (fewer most) spent
        | inr spent ↦ none-some None _ refl (enough-budget (held_batch c site query) (held-fits c site.signal site.value circuit) (λ shard. []) held own-legal own_room query
            (one-query (held_batch c site query) query refl) most None spent)
      ]
      stuck-served room own_room most (told.Stuck outcomes.Unknown) right = absurd right
      stuck-served room own_room most (told.Stuck outcomes.Past) right = absurd right
      stuck-served room own_room most (told.First outcome) right = absurd right
      stuck-served room own_room most (told.Why outcome) right = absurd right
      stuck-served room own_room most told.UnknownSite right = absurd right

    enough-stuck : (held : List (List Entry)) → IsOwnMemo setup.design question held → (named : List ℕ) (value : Value) → question.asks ≡ kinds.Stuck named value → (reply : QuestionReply)
        → IsStuckReply c (of_batch lists) (of_batch held) (question_verdict setup.design question) (site_of setup.design (kinds.Stuck named value)) reply → IsAmpleStuck setup question lists held reply
    enough-stuck held own-memo named value asks reply right site query known is room own_room most =
        stuck-served held own-memo named value asks site query known is room own_room most reply
        (subst (λ s. IsStuckReply c (of_batch lists) (of_batch held) (Ask query) s reply) (ap (site_of setup.design) (sym asks) ∙ known)
        (subst (λ v. IsStuckReply c (of_batch lists) (of_batch held) v (site_of setup.design (kinds.Stuck named value)) reply) is right))

    -- of any kind
    enough-question : (held : List (List Entry)) (reply : QuestionReply) → IsOwnMemo setup.design question held → (asks : Asks) → question.asks ≡ asks
        → IsRightBy setup.design (of_batch lists) (of_batch held) question.window (question_verdict setup.design question) asks reply → IsAmpleBy setup question lists held asks reply
    enough-question held (told.First outcome) own-memo (kinds.First value) is right = enough-first value is outcome right
    enough-question held (told.Why outcome) own-memo (kinds.First value) is right = right
    enough-question held (told.Stuck outcome) own-memo (kinds.First value) is right = right
    enough-question held told.UnknownSite own-memo (kinds.First value) is right = right
    enough-question held (told.First outcome) own-memo kinds.Why is right = right
    enough-question held (told.Why outcome) own-memo kinds.Why is right = enough-why is outcome right
    enough-question held (told.Stuck outcome) own-memo kinds.Why is right = right
    enough-question held told.UnknownSite own-memo kinds.Why is right = right
    enough-question held (told.First outcome) own-memo (kinds.Stuck named value) is right = no-first c (of_batch lists) (of_batch held) (question_verdict setup.design question) (site_of setup.design (kinds.Stuck named value)) outcome right
    enough-question held (told.Why outcome) own-memo (kinds.Stuck named value) is right = no-why c (of_batch lists) (of_batch held) (question_verdict setup.design question) (site_of setup.design (kinds.Stuck named value)) outcome right
    enough-question held (told.Stuck outcome) own-memo (kinds.Stuck named value) is right = enough-stuck held own-memo named value is (told.Stuck outcome) right
    enough-question held told.UnknownSite own-memo (kinds.Stuck named value) is right = enough-stuck held own-memo named value is told.UnknownSite right

-- so it is in each unit of a session
unit-ample : (setup : Setup) → IsCircuit setup.design.circuit → (now next : Course) (unit : ScriptUnit) (served : IsServed setup now unit next) → HasOwnLines unit → IsAmpleUnit setup now next unit served
unit-ample setup circuit now next (units.Batch items) served own = enough setup circuit now next items own served
unit-ample setup circuit now next (units.Trim most) served own = tt
unit-ample setup circuit now next units.Stats served own = tt
unit-ample setup circuit now next (units.Question question) served own =
    enough-question setup circuit question (λ shard. cells_after shard now.sections) served.lists (record { count = served.count; legal = served.legal })
    served.own_lists served.reply served.memo question.asks refl served.right
unit-ample setup circuit now next (units.Vcd file) served own = tt

pub session-ample : (setup : Setup) → IsCircuit setup.design.circuit → (us : List ScriptUnit) (course : Course) → All HasOwnLines us → (session : Session setup us course) → IsAmple setup us course session
session-ample setup circuit us course own Opened = tt
session-ample setup circuit us course own (Served {units = before} {now = now} {next = next} unit session served) = (
  session-ample setup circuit before now (first-part HasOwnLines before (unit ∷ []) own) session,
  unit-ample setup circuit now next unit served (All-head HasOwnLines unit [] (later-part HasOwnLines before (unit ∷ []) own)),
)

-- and in the session of a script, whose items have lines of their own
pub script-ample : UnitsHaveOwnLines → EnoughBudgetsAreServed
script-ample own setup circuit script out journal dumps session = record {
  session = session;
  ample = session-ample setup circuit (script_units setup.design.circuit.horizon script) session.course (own setup.design.circuit.horizon script) session.served;
}
