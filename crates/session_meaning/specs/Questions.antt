-- Questions, by what they ask: the queries of their batches, the right replies, and what a second memo records.
use Rattle.std.specs.Prelude.{List, [], map, Option, Some, None}
use Rattle.journal_meaning.specs.declared.batch.Query.{Query}
use Rattle.journal_meaning.specs.Batches.{Site}
use Rattle.journal_meaning.specs.declared.Entry.{Entry}
use Rattle.query_lines.specs.declared.line.Asks.{Asks}
use Rattle.query_lines.specs.declared.line.Asks.TheVariants as kinds
use Rattle.query_lines.specs.declared.line.Window.{Window}
use Rattle.query_lines.specs.declared.unit.Question.{Question}
use Rattle.reply_lines.specs.declared.reply.QuestionReply.{QuestionReply}
use Rattle.reply_lines.specs.declared.reply.QuestionReply.TheVariants as told
use Rattle.design.specs.Joined.{Joined}
use Rattle.session_meaning.specs.declared.Verdict.{Verdict}
use Rattle.session_meaning.specs.Verdicts.{question_verdict, site_of, asked_queries}
use Rattle.session_meaning.specs.FirstTimes.{up_to_first, IsFirstOutcome}
use Rattle.session_meaning.specs.Explanations.{IsWhyOutcome}
use Rattle.session_meaning.specs.StuckSignals.{IsStuckReply, IsHeldMemo}

-- none if the site is unknown
abbrev pub queries_at : Option Site → List Query → List Query
queries_at None queries = []
queries_at (Some site) queries = queries

-- The queries of the batch, given the query of the window: for a first time the query up to that time, and for a stuck signal none if the
-- site is unknown.
abbrev pub kind_queries : Joined → Asks → List Query → List Query
kind_queries d (kinds.First value) queries = map (λ query. up_to_first d.circuit query value) queries
kind_queries d kinds.Why queries = queries
kind_queries d (kinds.Stuck site value) queries = queries_at (site_of d (kinds.Stuck site value)) queries

abbrev pub question_queries : Joined → Question → List Query
question_queries d question = kind_queries d question.asks (asked_queries (question_verdict d question))

-- The reply, by the verdict on the window, is of the kind of what is asked, and right.
abbrev pub IsRightBy : Joined → List Entry → List Entry → Window → Verdict → Asks → QuestionReply → Type 0
IsRightBy d es own window verdict (kinds.First value) (told.First outcome) = IsFirstOutcome d.circuit es value verdict outcome
IsRightBy d es own window verdict kinds.Why (told.Why outcome) = IsWhyOutcome d es window verdict outcome
IsRightBy d es own window verdict (kinds.Stuck site value) reply =
    IsStuckReply d.circuit es own verdict (site_of d (kinds.Stuck site value)) reply
IsRightBy d es own window verdict asks reply = ⊥

-- the same of the reply to a question, over the entries of its batch and of a second memo
abbrev pub IsRightReply : Joined → Question → List Entry → List Entry → QuestionReply → Type 0
IsRightReply d question es own reply =
    IsRightBy d es own question.window (question_verdict d question) question.asks reply

-- The lists of a second memo: a question for a wave with a stuck signal has them, and other questions, which have no site, have none.
abbrev pub IsOwnMemo : Joined → Question → List (List Entry) → Type 0
IsOwnMemo d question own_lists = IsHeldMemo d.circuit (site_of d question.asks) (question_verdict d question) own_lists
