-- Which outcome of a window, and which reply to an item, is right.
use Rattle.std.specs.Prelude.{◌≡◌, ⊤, ℕ, List, [], ◌∷◌, ◌++◌, Option, Some, None}
use Rattle.circuit_meaning.specs.Circuit.{Circuit}
use Rattle.journal_meaning.specs.declared.batch.Query.{Query}
use Rattle.journal_meaning.specs.declared.Entry.{Entry}
use Rattle.journal_meaning.specs.Answers.{IsAnswer}
use Rattle.query_lines.specs.declared.unit.Item.{Item}
use Rattle.reply_lines.specs.declared.reply.Outcome.{Outcome}
use Rattle.reply_lines.specs.declared.reply.Outcome.TheVariants as outcomes
use Rattle.reply_lines.specs.declared.reply.Outcome.TheVariants.{Answer, Budget}
use Rattle.reply_lines.specs.declared.reply.Reply.{Reply}
use Rattle.reply_lines.specs.declared.reply.Reply.TheVariants.{Window, BadLine}
use Rattle.reply_lines.specs.Replies.{text_of}
use Rattle.session_meaning.specs.declared.Verdict.{Verdict}
use Rattle.session_meaning.specs.declared.Verdict.TheVariants.{Ask, Unknown, Past}

-- The outcome of a window, by its verdict. A query has a right answer; or its budget, and it is spent. Where none is asked, the outcome
-- says why.
abbrev pub IsOutcome : {T : Type 0} → (Query → T → Type 0) → (Query → Type 0) → Verdict → Outcome T → Type 0
IsOutcome right spent (Ask query) (Answer answer) = right query answer
IsOutcome right spent (Ask query) (Budget budget) = (budget ≡ query.budget) × spent query
IsOutcome right spent Unknown outcomes.Unknown = ⊤
IsOutcome right spent Past outcomes.Past = ⊤
IsOutcome right spent verdict outcome = ⊥

-- The reply, over the entries of the item's batch: a query has its wave, and is closed; or the entries hold the cause of its refusal.
abbrev pub IsReply : Circuit → List Entry → Option Verdict → Reply → Type 0
IsReply c es (Some verdict) (Window outcome) =
    IsOutcome (λ query runs. IsAnswer c es query (Some runs)) (λ query. IsAnswer c es query None) verdict outcome
IsReply c es None BadLine = ⊤
IsReply c es verdict reply = ⊥

-- the texts of the replies to items, in order
abbrev pub replies_text : List Item → List Reply → List ℕ
replies_text [] replies = []
replies_text (item ∷ items) [] = []
replies_text (item ∷ items) (reply ∷ replies) = text_of item reply ++ replies_text items replies
