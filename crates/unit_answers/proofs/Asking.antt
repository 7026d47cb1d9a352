-- What a question of each kind asks, and which replies to it are right.
use Rattle.std.proofs.Common.{◌≡◌, ℕ, List, [], ◌∷◌, map, sym, ap, subst, ◌∙◌, arith, ◌+◌, Some, Option, None, option_map, append-nil}
use Rattle.gate_values.specs.declared.Value.{Value}
use Rattle.valid_intervals.specs.declared.Cell.{Cell}
use Rattle.journal_meaning.specs.declared.batch.Query.{Query}
use Rattle.journal_meaning.specs.Batches.{Site}
use Rattle.journal_meaning.specs.Lawful.{IsLawful}
use Rattle.journal_meaning.specs.declared.Entry.{Entry}
use Rattle.query_lines.specs.declared.line.Asks.{Asks}
use Rattle.query_lines.specs.declared.line.Asks.TheVariants as kinds
use Rattle.query_lines.specs.declared.line.What.TheVariants as whats
use Rattle.query_lines.specs.declared.line.Tell.TheVariants.{Wave}
use Rattle.query_lines.specs.declared.line.Window.{Window}
use Rattle.query_lines.specs.declared.unit.Item.{Item}
use Rattle.query_lines.specs.declared.unit.Question.{Question}
use Rattle.query_lines.specs.Laws.{SuitsWindow}
use Rattle.design.specs.Joined.{IsDesign, Joined}
use Rattle.why_proofs.specs.Justified.{answer}
use Rattle.reply_lines.specs.declared.reply.Explanation.{Explanation}
use Rattle.reply_lines.specs.declared.reply.Outcome.{Outcome}
use Rattle.reply_lines.specs.declared.reply.Outcome.TheVariants as outcomes
use Rattle.reply_lines.specs.declared.reply.QuestionReply.{QuestionReply}
use Rattle.session_meaning.specs.declared.Verdict.{Verdict}
use Rattle.session_meaning.specs.declared.Verdict.TheVariants.{Ask, Unknown, Past}
use Rattle.session_meaning.specs.FirstTimes.{up_to_first}
use Rattle.session_meaning.specs.Verdicts.{asked_queries, verdict, question_verdict, site_of, verdict_of}
use Rattle.session_meaning.specs.Questions.{kind_queries, queries_at, IsRightBy, IsRightReply, IsOwnMemo}
use Rattle.session_meaning.specs.Session.{Setup, question_batch}
use Rattle.session_meaning.specs.Explanations.{IsExplained, IsWhyOutcome}
use Rattle.session_meaning.specs.StuckSignals.{IsHeldMemo}
use Rattle.session_meaning.proofs.Callers.{asks-within, asks-signal, window-asks}
use Rattle.query_answers.proofs.Callers.{first-lawful}
use Rattle.unit_answers.specs.Stores.{IsSized}
use Rattle.unit_answers.specs.inner.Runs.{asks, asks_at}
use Rattle.unit_answers.specs.inner.Asked.{IsSiteOf, IsAsked}
use Rattle.unit_answers.specs.declared.asked.Asked.{Asked}
use Rattle.unit_answers.proofs.Running.{lawful-items}
use Rattle.unit_answers.proofs.Windows.{query-times}

-- The reply is right by the verdict on the window.

module _ (d : Joined) (question : Question) (kind : Asks) (is : question.asks ≡ kind) (by : Verdict) (asked : question_verdict d question ≡ by) where
  pub right-by : (es own : List Entry) (reply : QuestionReply) → IsRightBy d es own question.window by kind reply → IsRightReply d question es own reply
  right-by es own reply right =
      subst (λ (a : Asks). IsRightBy d es own question.window (question_verdict d question) a reply) (sym is)
      (subst (λ (v : Verdict). IsRightBy d es own question.window v kind reply) (sym asked) right)

  pub memo-by : (lists : List (List Entry)) → IsHeldMemo d.circuit (site_of d kind) by lists → IsOwnMemo d question lists
  memo-by lists held =
      subst (λ (a : Asks). IsHeldMemo d.circuit (site_of d a) (question_verdict d question) lists) (sym is)
      (subst (λ (v : Verdict). IsHeldMemo d.circuit (site_of d kind) v lists) (sym asked) held)

-- The batch of a question is lawful where it asks.

-- the queries of one window are
window-lawful : (setup : Setup) (line : ℕ) (window : Window) → IsDesign setup.design → IsSized setup → IsLawful (asks setup (asked_queries (verdict setup.design line window)))
window-lawful setup line window design sized =
    let one = asked_queries (verdict setup.design line window) in
    subst (λ (qs : List Query). IsLawful (asks setup qs)) (append-nil one) (lawful-items setup (record { line = line; what = whats.Window window Wave } ∷ []) design sized (λ i j d l m. absurd (omega arith)))

-- also where a site is forced
lawful-at : (setup : Setup) (site : Option Site) (qs : List Query) → IsLawful (asks setup qs) → IsLawful (asks_at setup site qs)
lawful-at setup site qs h = record {
  circuit = h.circuit;
  horizon = h.horizon;
  numbers = h.numbers;
  signals = h.signals;
  windows = h.windows;
  some_shard = h.some_shard;
  some_cell = h.some_cell;
}

module _ (setup : Setup) (line : ℕ) (window : Window) (q : Query) (is : verdict setup.design line window ≡ Ask q) (design : IsDesign setup.design) (sized : IsSized setup) where
  first-batch : (value : Value) → IsLawful (asks setup (map (λ p. up_to_first setup.design.circuit p value) (asked_queries (verdict setup.design line window))))
  first-batch value =
      let c = setup.design.circuit in
      let item : Item = record { line = line; what = whats.Window window Wave } in
      let asked : verdict_of setup.design item ≡ Some (Ask q) = ap Some is in
      let one : IsLawful (asks setup (up_to_first c q value ∷ [])) = first-lawful c q value setup.shards setup.capacity design.circuit design.limits.horizon
      (asks-signal setup.design item q asked design.signals) (asks-within setup.design item q asked) (omega (arith, sized.some)) (omega (arith, sized.room)) in
      subst (λ (v : Verdict). IsLawful (asks setup (map (λ p. up_to_first c p value) (asked_queries v)))) (sym is) one

  kind-lawful : (kind : Asks) (site : Option ℕ) → IsSiteOf setup.design kind site → IsLawful (asks_at setup (site_of setup.design kind) (kind_queries setup.design kind (asked_queries (verdict setup.design line window))))
  kind-lawful (kinds.First value) site known = first-batch value
  kind-lawful kinds.Why site known = window-lawful setup line window design sized
  kind-lawful (kinds.Stuck name level) None known = absurd known
  kind-lawful (kinds.Stuck name level) (Some signal) known =
      let qs = asked_queries (verdict setup.design line window) in
      let at : Site = record { signal = signal; value = level } in
      let found : site_of setup.design (kinds.Stuck name level) ≡ Some at = ap (option_map (λ s. record { signal = s; value = level })) known in
      subst (λ (s : Option Site). IsLawful (asks_at setup s (queries_at s qs))) (sym found) (lawful-at setup (Some at) qs (window-lawful setup line window design sized))

pub question-lawful : (setup : Setup) (question : Question) (asked : Asked) → IsAsked setup.design question asked → IsDesign setup.design → IsSized setup → IsLawful (question_batch setup question)
question-lawful setup question asked is design sized = kind-lawful setup question.line question.window asked.query is.query design sized question.asks asked.site is.site

-- An explanation is a justified proof.

module _ (d : Joined) (question : Question) (q : Query) (is : question_verdict d question ≡ Ask q) where
  -- the query is for one time, where the window is
  pub one-time : question.asks ≡ kinds.Why → SuitsWindow question.asks question.window → q.to ≡ q.from + 1
  one-time why suits =
      let w = query-times d question.line question.window q is in
      let one : question.window.to ≡ question.window.from + 1 = subst (λ (a : Asks). SuitsWindow a question.window) why suits in
      w.to_is ∙ one ∙ ap (λ t. t + 1) (sym w.from_is)

  pub why-outcome : (es : List Entry) → q.to ≡ q.from + 1 → (outcome : Outcome Explanation) → IsExplained d.circuit es (Ask q) outcome → IsWhyOutcome d es question.window (Ask q) outcome
  why-outcome es one (outcomes.Answer found) h =
      let w = window-asks d question.line question.window q is in
      let at = (query-times d question.line question.window q is).from_is in
      let low = w.within in
      record {
        explains = h;
        justified = record {
          cells = h.justified;
          claim = record {
            name = w.signal_is;
            time = omega arith;
            value = subst (λ t. option_map (λ (x : Cell). x.value) (answer d.circuit found.cells q.signal t) ≡ Some found.value) at h.follows;
          };
        };
      }
  why-outcome es one (outcomes.Budget budget) h = h
  why-outcome es one outcomes.Unknown h = absurd h
  why-outcome es one outcomes.Past h = absurd h
