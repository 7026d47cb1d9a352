-- Ample budgets are served: if a query's budget is at least its need, the reply is its wave.
use Rattle.std.specs.Prelude.{◌≡◌, ◌≢◌, ⊤, ℕ, List, Option, Some}
use Rattle.std.specs.List.{AllZip}
use Rattle.texts.specs.Made.{Made}
use Rattle.circuit_meaning.specs.Forward.{wave}
use Rattle.journal_meaning.specs.declared.batch.Query.{Query}
use Rattle.journal_meaning.specs.declared.Entry.{Entry}
use Rattle.journal_meaning.specs.Laws.{IsRoomy, NeedsAtMost}
use Rattle.gate_values.specs.declared.Value.{Value}
use Rattle.query_lines.specs.declared.line.Asks.{Asks}
use Rattle.query_lines.specs.declared.line.Asks.TheVariants as kinds
use Rattle.query_lines.specs.declared.unit.Item.{Item}
use Rattle.query_lines.specs.declared.unit.Question.{Question}
use Rattle.query_lines.specs.declared.unit.Unit.{Unit as ScriptUnit}
use Rattle.query_lines.specs.declared.unit.Unit.TheVariants as units
use Rattle.query_lines.specs.Reading.{script_units}
use Rattle.journal_meaning.specs.Batches.{Site}
use Rattle.reply_lines.specs.declared.reply.Explanation.{Explanation}
use Rattle.reply_lines.specs.declared.reply.Outcome.{Outcome}
use Rattle.reply_lines.specs.declared.reply.Outcome.TheVariants.{Answer, Budget}
use Rattle.reply_lines.specs.declared.reply.QuestionReply.{QuestionReply}
use Rattle.reply_lines.specs.declared.reply.QuestionReply.TheVariants as told
use Rattle.reply_lines.specs.declared.reply.Reply.{Reply}
use Rattle.reply_lines.specs.declared.reply.Reply.TheVariants.{Window}
use Rattle.session_meaning.specs.declared.Verdict.TheVariants.{Ask}
use Rattle.session_meaning.specs.Verdicts.{verdict_of, question_verdict, site_of}
use Rattle.session_meaning.specs.StuckSignals.{stuck_circuit, held_batch}
use Rattle.session_meaning.specs.FirstTimes.{first_time, up_to_first}
use Rattle.session_meaning.specs.Session.{Setup, Course, batch_of, question_batch, IsServed, Session, Opened, Served, IsSessionOf}

-- In a batch in which nothing is evicted, or whose needed cells fit, every query whose budget is at least its need has its wave.
abbrev pub IsAmpleBatch : Setup → List Item → List (List Entry) → List Reply → Type 0
IsAmpleBatch setup items lists replies = IsRoomy (batch_of setup items) lists
    → AllZip (λ item reply. (query : Query) → verdict_of setup.design item ≡ Some (Ask query)
    → NeedsAtMost (batch_of setup items) query query.budget
    → reply ≡ Window (Answer (wave setup.design.circuit query.signal query.from query.to))) items replies

-- If the budget of a question for a first time is at least the need up to that time, the question has its answer.
abbrev pub IsAmpleFirst : Setup → Question → Value → List (List Entry) → Outcome (Option ℕ) → Type 0
IsAmpleFirst setup question value lists outcome = IsRoomy (question_batch setup question) lists
    → (query : Query) → question_verdict setup.design question ≡ Ask query
    → NeedsAtMost (question_batch setup question) (up_to_first setup.design.circuit query value) query.budget
    → outcome ≡ Answer (first_time setup.design.circuit query.signal value query.from query.to)

-- If the budget of a question for an explanation is at least its need, the question is not refused for its budget.
abbrev pub IsAmpleWhy : Setup → Question → List (List Entry) → Outcome Explanation → Type 0
IsAmpleWhy setup question lists outcome = IsRoomy (question_batch setup question) lists
    → (query : Query) → question_verdict setup.design question ≡ Ask query
    → NeedsAtMost (question_batch setup question) query query.budget
    → (budget : ℕ) → outcome ≢ Budget budget

-- If the budget of a question for a wave with a stuck signal is at least the need in the stuck circuit, and both memos have room, the
-- question has its wave.
abbrev pub IsAmpleStuck : Setup → Question → List (List Entry) → List (List Entry) → QuestionReply → Type 0
IsAmpleStuck setup question lists own reply = (site : Site) (query : Query)
    → site_of setup.design question.asks ≡ Some site → question_verdict setup.design question ≡ Ask query
    → IsRoomy (question_batch setup question) lists → IsRoomy (held_batch setup.design.circuit site query) own
    → NeedsAtMost (held_batch setup.design.circuit site query) query query.budget
    → reply ≡ told.Stuck (Answer (wave (stuck_circuit setup.design.circuit site) query.signal query.from query.to))

-- the same for a question, by what it asks
abbrev pub IsAmpleBy : Setup → Question → List (List Entry) → List (List Entry) → Asks → QuestionReply → Type 0
IsAmpleBy setup question lists own (kinds.First value) (told.First outcome) = IsAmpleFirst setup question value lists outcome
IsAmpleBy setup question lists own kinds.Why (told.Why outcome) = IsAmpleWhy setup question lists outcome
IsAmpleBy setup question lists own (kinds.Stuck site value) (told.Stuck outcome) = IsAmpleStuck setup question lists own (told.Stuck outcome)
IsAmpleBy setup question lists own (kinds.Stuck site value) told.UnknownSite = IsAmpleStuck setup question lists own told.UnknownSite
IsAmpleBy setup question lists own asks reply = ⊥

-- the same for a unit that asks
abbrev pub IsAmpleUnit : (setup : Setup) (now next : Course) (unit : ScriptUnit) → IsServed setup now unit next → Type 0
IsAmpleUnit setup now next (units.Batch items) served = IsAmpleBatch setup items served.lists served.replies
IsAmpleUnit setup now next (units.Trim most) served = ⊤
IsAmpleUnit setup now next units.Stats served = ⊤
IsAmpleUnit setup now next (units.Question question) served =
    IsAmpleBy setup question served.lists served.own_lists question.asks served.reply
IsAmpleUnit setup now next (units.Vcd file) served = ⊤

-- the same for every unit of a session
abbrev pub IsAmple : (setup : Setup) (all : List ScriptUnit) (course : Course) → Session setup all course → Type 0
IsAmple setup all course Opened = ⊤
IsAmple setup all course (Served {units = before} {now = now} {next = next} unit session served) =
    IsAmple setup before now session × IsAmpleUnit setup now next unit served

-- the session of a whole script, whose batches all have this property
pub record IsAmpleSession (setup : Setup) (script out journal : List ℕ) (dumps : List Made) : Type 0 where
  pub session : IsSessionOf setup script out journal dumps
  pub ample : IsAmple setup (script_units setup.design.circuit.horizon script) session.course session.served
