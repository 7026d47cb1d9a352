-- The result of a unit over the stores.
use Rattle.std.specs.Prelude.{◌≡◌, ℕ, ◌<◌, List, [], length, slice_index_or, Result, IfOk}
use Rattle.std.specs.List.{AllZip}
use Rattle.cell_store.specs.Recency.{Contents}
use Rattle.journal_meaning.specs.declared.Entry.{Entry}
use Rattle.journal_meaning.specs.States.{fresh}
use Rattle.journal_meaning.specs.Replay.{IsLegalBatch, IsLegalTrim, replay}
use Rattle.journal_meaning.specs.Sections.{of_batch}
use Rattle.query_lines.specs.declared.unit.Item.{Item}
use Rattle.query_lines.specs.declared.unit.Question.{Question}
use Rattle.reply_lines.specs.declared.reply.QuestionReply.{QuestionReply}
use Rattle.reply_lines.specs.declared.reply.Reply.{Reply}
use Rattle.session_meaning.specs.Questions.{IsRightReply, IsOwnMemo}
use Rattle.session_meaning.specs.Verdicts.{verdict_of}
use Rattle.session_meaning.specs.Replies.{IsReply}
use Rattle.session_meaning.specs.Session.{Setup, batch_of, question_batch, trim_entries}
use Rattle.unit_answers.specs.Stores.{AreStores, cells_of}
use Rattle.unit_answers.specs.declared.question.QuestionDone.{QuestionDone}

-- A batch: journals that are legal from the cells in the stores, a right reply to each item, and the stores as the journals leave them.
pub record IsBatchDone (setup : Setup) (items : List Item) (opening : List Contents) (replies : List Reply) (lists : List (List Entry)) (left : List Contents) : Type 0 where
  pub count : length lists ≡ setup.shards
  pub legal : (shard : ℕ) → shard < setup.shards
      → IsLegalBatch (batch_of setup items) shard (cells_of opening shard) (slice_index_or lists shard [])
  pub right : AllZip (λ item reply. IsReply setup.design.circuit (of_batch lists) (verdict_of setup.design item) reply) items replies
  pub stores : AreStores setup left
  pub leaves : (shard : ℕ) → shard < setup.shards
      → cells_of left shard ≡ (replay (fresh (cells_of opening shard)) (slice_index_or lists shard [])).cells

-- A question: journals that are legal from the cells in the stores, the lists of a second memo, if there is one, a right reply, and the
-- stores as the journals leave them.
pub record IsQuestionDone (setup : Setup) (question : Question) (opening : List Contents) (reply : QuestionReply) (lists own_lists : List (List Entry)) (left : List Contents) : Type 0 where
  pub count : length lists ≡ setup.shards
  pub legal : (shard : ℕ) → shard < setup.shards
      → IsLegalBatch (question_batch setup question) shard (cells_of opening shard) (slice_index_or lists shard [])
  pub memo : IsOwnMemo setup.design question own_lists
  pub right : IsRightReply setup.design question (of_batch lists) (of_batch own_lists) reply
  pub stores : AreStores setup left
  pub leaves : (shard : ℕ) → shard < setup.shards
      → cells_of left shard ≡ (replay (fresh (cells_of opening shard)) (slice_index_or lists shard [])).cells

-- the same for a result, unless memory ran out
abbrev pub AnswersQuestion : {E : Type 0} → Setup → Question → List Contents → Result QuestionDone E → Type 0
AnswersQuestion setup question opening result = IfOk result (λ done.
    IsQuestionDone setup question opening done.reply done.lists.items done.own_lists.items done.stores.items)

-- A trim: in each shard the last cells are evicted until few enough are left, and the stores are as the lists leave them.
pub record IsTrimDone (setup : Setup) (most : ℕ) (opening : List Contents) (lists : List (List Entry)) (left : List Contents) : Type 0 where
  pub count : length lists ≡ setup.shards
  pub legal : (shard : ℕ) → shard < setup.shards → IsLegalTrim (fresh (cells_of opening shard)) (slice_index_or lists shard [])
  pub evicts : (shard : ℕ) → shard < setup.shards → slice_index_or lists shard [] ≡ trim_entries most (cells_of opening shard)
  pub stores : AreStores setup left
  pub leaves : (shard : ℕ) → shard < setup.shards
      → cells_of left shard ≡ (replay (fresh (cells_of opening shard)) (slice_index_or lists shard [])).cells
