-- What a question comes to before it is asked.
use Rattle.std.specs.Prelude.{◌≡◌, ⊤, ℕ, [], Option, Some, None}
use Rattle.query_lines.specs.declared.line.Asks.{Asks}
use Rattle.query_lines.specs.declared.line.Asks.TheVariants as kinds
use Rattle.query_lines.specs.declared.unit.Question.{Question}
use Rattle.reply_lines.specs.declared.reply.QuestionReply.{QuestionReply}
use Rattle.reply_lines.specs.declared.reply.QuestionReply.TheVariants as told
use Rattle.design.specs.Join.{number}
use Rattle.design.specs.Joined.{Joined}
use Rattle.session_meaning.specs.declared.Verdict.{Verdict}
use Rattle.session_meaning.specs.declared.Verdict.TheVariants.{Ask}
use Rattle.session_meaning.specs.Verdicts.{question_verdict}
use Rattle.session_meaning.specs.Questions.{IsRightReply, IsOwnMemo}
use Rattle.unit_answers.specs.declared.asked.Asked.{Asked}
use Rattle.unit_answers.specs.declared.asked.Prepared.{Prepared}
use Rattle.unit_answers.specs.declared.asked.Prepared.TheVariants as prepared
use Rattle.unit_answers.specs.inner.Placed.{no_answer}

-- where a signal is stuck, it is one of the circuit, with this number
abbrev pub IsSiteOf : Joined → Asks → Option ℕ → Type 0
IsSiteOf d (kinds.First value) site = ⊤
IsSiteOf d kinds.Why site = ⊤
IsSiteOf d (kinds.Stuck name value) (Some signal) = number d.netlist name ≡ Some signal
IsSiteOf d (kinds.Stuck name value) None = ⊥

-- the question asks this query, with this stuck signal
pub record IsAsked (d : Joined) (question : Question) (asked : Asked) : Type 0 where
  pub query : question_verdict d question ≡ Ask asked.query
  pub site : IsSiteOf d question.asks asked.site

-- the reply to a question of this kind whose window has no answer
abbrev pub unasked_reply : Asks → Verdict → QuestionReply
unasked_reply (kinds.First value) verdict = told.First (no_answer verdict)
unasked_reply kinds.Why verdict = told.Why (no_answer verdict)
unasked_reply (kinds.Stuck name value) verdict = told.Stuck (no_answer verdict)

-- the question asks nothing, and this reply is right
pub record IsUnasked (d : Joined) (question : Question) (reply : QuestionReply) : Type 0 where
  pub right : IsRightReply d question [] [] reply
  pub memo : IsOwnMemo d question []

abbrev pub Prepares : Joined → Question → Prepared → Type 0
Prepares d question (prepared.Ask asked) = IsAsked d question asked
Prepares d question (prepared.Tell reply) = IsUnasked d question reply
