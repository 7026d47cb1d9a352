-- What a question that is a batch of its own comes to.
use Rattle.std.proofs.Common.{◌≡◌, ℕ, ◌<◌, List, [], ◌∷◌, length, get_or, map, Option, refl, sym, ap, subst, ◌∙◌, arith}
use Rattle.std.proofs.lemmas.Simd.{map-map}
use Rattle.std.proofs.lemmas.List.{get_or-map, length-map}
use Rattle.valid_intervals.specs.declared.SignalCell.{SignalCell}
use Rattle.cell_store.specs.Recency.{Contents, contents}
use Rattle.journal_meaning.specs.declared.Entry.{Entry}
use Rattle.journal_meaning.specs.declared.batch.Query.{Query}
use Rattle.journal_meaning.specs.Batches.{Batch, Site}
use Rattle.journal_meaning.specs.States.{fresh}
use Rattle.journal_meaning.specs.Replay.{replay, IsLegalBatch}
use Rattle.journal_meaning.specs.Sections.{of_batch}
use Rattle.plan_machine.specs.Shards.{Shard}
use Rattle.plan_machine.specs.Sound.{IsFresh}
use Rattle.plan_machine.specs.Settle.{entries_in, journals_of}
use Rattle.memo_shards.specs.KeptShards.{KeptShard}
use Rattle.plan_core.specs.Parts.{shards_in}
use Rattle.query_lines.specs.declared.unit.Question.{Question}
use Rattle.reply_lines.specs.declared.reply.QuestionReply.{QuestionReply}
use Rattle.session_meaning.specs.Questions.{question_queries, IsRightReply, IsOwnMemo}
use Rattle.session_meaning.specs.Session.{Setup, question_batch}
use Rattle.session_meaning.specs.Verdicts.{site_of}
use Rattle.unit_answers.specs.Stores.{IsSized, AreStores, cells_of}
use Rattle.unit_answers.specs.Done.{IsQuestionDone}
use Rattle.unit_answers.specs.inner.Asked.{IsUnasked}
use Rattle.unit_answers.specs.inner.Runs.{asks_at, store_of, IsNamed, AreEnded}
use Rattle.unit_answers.proofs.Left.{lists-many, lists-legal, stores-left, stores-leave}

-- once its shards are closed, the question is done
pub question-done : (setup : Setup) (question : Question) (reply : QuestionReply) (held : List (List Entry)) (b : Batch) (cells : ℕ → List SignalCell) (opening : List Contents)
    → IsSized setup → IsNamed b cells (question_batch setup question) opening → (ms : List KeptShard) (lists : List (List Entry)) (left : List Contents) → IsFresh b cells (shards_in ms)
    → IsOwnMemo setup.design question held → IsRightReply setup.design question (entries_in (shards_in ms)) (of_batch held) reply
    → AreEnded b.capacity ms lists left → IsQuestionDone setup question opening reply lists held left
question-done setup question reply held b cells opening sized named ms lists left free memo right ended =
    let site : Option Site = site_of setup.design question.asks in
    let qs : List Query = question_queries setup.design question in
    let first : List Shard = shards_in ms in
    let begins : IsFresh (asks_at setup site qs) (cells_of opening) first =
    subst (λ (x : Batch). IsFresh x (cells_of opening) first) named.batch (subst (λ (o : ℕ → List SignalCell). IsFresh b o first) named.opens free) in
    let lists_are : lists ≡ journals_of first = ended.lists_are ∙ sym (map-map (λ (x : Shard). x.journal) (λ (m : KeptShard). m.shard) ms) in
    let stores_are : left ≡ map (store_of setup.capacity) first =
    ended.stores_are ∙ sym (map-map (store_of b.capacity) (λ (m : KeptShard). m.shard) ms) ∙ ap (λ (x : Batch). map (store_of x.capacity) first) named.batch in
    record {
      count = lists-many setup site qs opening first lists left begins lists_are stores_are;
      legal = lists-legal setup site qs opening first lists left begins lists_are stores_are;
      memo = memo;
      right = subst (λ (l : List (List Entry)). IsRightReply setup.design question (of_batch l) (of_batch held) reply) (sym lists_are) right;
      stores = stores-left setup site qs opening first lists left begins lists_are stores_are sized;
      leaves = stores-leave setup site qs opening first lists left begins lists_are stores_are;
    }

-- no entries for each store
abbrev pub none_for : Contents → List Entry
none_for store = []

nothing-told : (stores : List Contents) → of_batch (map none_for stores) ≡ []
nothing-told [] = refl
nothing-told (store ∷ stores) = nothing-told stores

-- where nothing is asked, the question is done with no entries and the stores as they were
pub unasked-done : (setup : Setup) (question : Question) (opening : List Contents) (reply : QuestionReply) (lists held : List (List Entry)) → AreStores setup opening
    → IsUnasked setup.design question reply → lists ≡ map none_for opening → held ≡ [] → IsQuestionDone setup question opening reply lists held opening
unasked-done setup question opening reply lists held stores told lists_are unheld =
    let d = setup.design in
    let count = stores.count in
    let list-at : (n : ℕ) → n < setup.shards → get_or lists n [] ≡ [] = λ n low.
    ap (λ l. get_or l n []) lists_are ∙ get_or-map none_for opening n (contents 0 []) [] (omega arith) in
    record {
      count = ap length lists_are ∙ length-map opening none_for ∙ stores.count;
      legal = λ n low. subst (IsLegalBatch (question_batch setup question) n (cells_of opening n)) (sym (list-at n low)) (record { legal = tt; ended = record { claims = refl; made = refl } });
      memo = subst (IsOwnMemo d question) (sym unheld) told.memo;
      right = subst (λ (l : List (List Entry)). IsRightReply d question (of_batch lists) (of_batch l) reply) (sym unheld)
          (subst (λ es. IsRightReply d question es [] reply) (sym (ap of_batch lists_are ∙ nothing-told opening)) told.right);
      stores = stores;
      leaves = λ n low. ap (λ es. (replay (fresh (cells_of opening n)) es).cells) (sym (list-at n low));
    }
