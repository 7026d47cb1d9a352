-- A question with a batch of its own, and perhaps a memo of its own, is a unit of the session.
use Rattle.std.proofs.Common.{◌≡◌, ℕ, ◌+◌, ◌<◌, ◌≤◌, List, [], ◌∷◌, ◌++◌, length, get_or, sum_by, Option, Some, None, Result, Ok, Err, refl, sym, ap, subst, ◌∙◌, append_assoc, append-nil, length-append, arith}
use Rattle.std.specs.Prelude.{IfSome, IsErrAnd}
use Rattle.std.proofs.lemmas.List.Sums.{fold-append}
use Rattle.cell_store.specs.Recency.{Contents}
use Rattle.texts.specs.Made.{Made}
use Rattle.backsim_io.specs.FilesInMemory.{FileGrows}
use Rattle.circuit_meaning.specs.Circuit.{Circuit}
use Rattle.journal_meaning.specs.declared.Entry.{Entry}
use Rattle.journal_meaning.specs.Batches.{Site, Batch as BatchRecord}
use Rattle.journal_meaning.specs.Counts.{count}
use Rattle.journal_meaning.specs.States.{fresh}
use Rattle.journal_meaning.specs.Replay.{replay, IsLegalBatch}
use Rattle.journal_meaning.specs.Sections.{Asks, Forces, SectionEntries, cells_left, cells_after}
use Rattle.journal_text.specs.Spelling.{section_lines}
use Rattle.journal_text.specs.declared.sections.SectionKind.TheVariants.{Batch, Held}
use Rattle.query_lines.specs.declared.unit.Question.{Question}
use Rattle.query_lines.specs.declared.unit.Unit.{Unit as ScriptUnit}
use Rattle.query_lines.specs.declared.unit.Unit.TheVariants as units
use Rattle.reply_lines.specs.declared.reply.QuestionReply.{QuestionReply}
use Rattle.reply_lines.specs.Replies.{question_lines}
use Rattle.design.specs.Joined.{Joined}
use Rattle.session_meaning.specs.declared.Verdict.{Verdict}
use Rattle.session_meaning.specs.declared.Verdict.TheVariants.{Ask, Unknown, Past}
use Rattle.session_meaning.specs.Verdicts.{question_verdict, site_of}
use Rattle.session_meaning.specs.Session.{Setup, Course, IsServed, question_batch, held_sections, own_sections, with_section, with_sections, is_fill, is_eviction}
use Rattle.session_meaning.specs.Questions.{IsOwnMemo}
use Rattle.session_meaning.specs.StuckSignals.{held_batch, IsHeldMemo}
use Rattle.session_meaning.specs.Broken.{journal_of}
use Rattle.session_meaning.proofs.Callers.{journal-more}
use Rattle.session_loop.specs.declared.desk.Counts.{Counts}
use Rattle.session_loop.specs.declared.desk.Desk.{Desk}
use Rattle.session_loop.specs.declared.desk.Dumps.{Dumps}
use Rattle.session_loop.specs.declared.service.Service.{Service}
use Rattle.session_loop.specs.declared.stop.UnitStop.{UnitStop}
use Rattle.session_loop.specs.declared.stop.UnitStop.TheVariants.{OutOfMemory}
use Rattle.unit_answers.specs.Stores.{cells_of}
use Rattle.unit_answers.specs.Done.{IsQuestionDone}
use Rattle.session_loop.specs.inner.Desks.{IsCount, IsCounted, IsHeldCounted, IsReady, Keeps}
use Rattle.session_loop.specs.Serving.{memo_of, session_of}
use Rattle.session_loop.specs.Outside.{Seen}
use Rattle.session_loop.specs.inner.Serving.{Serves, Stops, UnitsServed, UnitsStopped, held_text}
use Rattle.session_loop.specs.inner.Telling.{WritesAll, WritesPart, TellsAnswer}
use Rattle.session_loop.proofs.Growing.{file-none}
use Rattle.session_loop.proofs.Served.{nothing-told, counts-more, cells-more, kept-dumps, sections-served, sections-stopped, unit-served, kept-desk}

-- The section of a memo of its own, if there is one.

-- it is that of this batch
abbrev pub forced_sections : BatchRecord → List (List Entry) → List SectionEntries
forced_sections own [] = []
forced_sections own (es ∷ lists) = record { purpose = Forces own; lists = es ∷ lists } ∷ []

-- A question with a batch of its own was answered by this text and these lists, whatever was served before, and by those of a memo of its
-- own, if it had one. The stores are as the lists leave them.
pub record IsAnswered (setup : Setup) (desk : Desk) (unit : ScriptUnit) (batch own : BatchRecord) (text : List ℕ) (lists own_lists : List (List Entry)) (left : List Contents) : Type 0 where
  pub serves : (now : Course) → Keeps setup desk now → IsServed setup now unit (with_sections (with_section now (Asks batch) lists text) (forced_sections own own_lists))
  pub leaves : (shard : ℕ) → shard < setup.shards → cells_of left shard ≡ (replay (fresh (cells_of desk.stores.items shard)) (get_or lists shard [])).cells

-- where there is none, nothing is added
sections-none : (now : Course) → with_sections now [] ≡ now
sections-none now = ap (λ l. record now { sections = l }) (append-nil now.sections)

-- and nothing is written
pub held-unwritten : (made : List Made → Type 0) (number : ℕ) (held : List (List Entry)) → length held ≡ 0 → FileGrows made made 0 (held_text number held)
held-unwritten made number [] none = file-none made 0
held-unwritten made number (es ∷ lists) none = absurd (omega (arith, none))

-- where there is one, it is written as any section
pub held-text : (number : ℕ) (held : List (List Entry)) → 0 < length held → held_text number held ≡ section_lines (record { kind = Held; number = number; shards = held })
held-text number [] some = absurd (omega (arith, some))
held-text number (es ∷ lists) some = refl

-- the cells of the session's memo stay
held-cells : (shard : ℕ) (sections : List SectionEntries) (own : BatchRecord) (held : List (List Entry)) → cells_after shard (sections ++ forced_sections own held) ≡ cells_after shard sections
held-cells shard sections own [] = ap (cells_after shard) (append-nil sections)
held-cells shard sections own (es ∷ lists) = fold-append (cells_left shard) [] sections (forced_sections own (es ∷ lists))

-- the counts are those of one section more
held-counts : (counts later : Counts) (sections : List SectionEntries) (own : BatchRecord) (held : List (List Entry)) → IsCount counts sections → IsHeldCounted counts held later
    → IsCount later (sections ++ forced_sections own held)
held-counts counts later sections own [] c same = subst (IsCount later) (sym (append-nil sections)) (subst (λ k. IsCount k sections) (sym same) c)
held-counts counts later sections own (es ∷ lists) c more = counts-more counts later sections (record { purpose = Forces own; lists = es ∷ lists }) c more

module _ (setup : Setup) where
  -- the journal has its text more
  held-journal : (now : Course) (own : BatchRecord) (held : List (List Entry)) (number : ℕ) → number ≡ length now.sections + 1
      → journal_of setup (with_sections now (forced_sections own held)) ≡ journal_of setup now ++ held_text number held
  held-journal now own [] number is = ap (journal_of setup) (sections-none now) ∙ sym (append-nil (journal_of setup now))
  held-journal now own (es ∷ lists) number is = journal-more setup now (Forces own) (es ∷ lists) [] number is

  module _ (unit : ScriptUnit) (b own : BatchRecord) (desk : Desk) (text : List ℕ) (lists held : List (List Entry)) (left : List Contents) (done : IsAnswered setup desk unit b own text lists held left) (counts : Counts) (counted : IsCounted desk.counts Batch lists counts) (before after : Seen) where
    abbrev section : SectionEntries
    section = record { purpose = Asks b; lists = lists }

    -- what the journal has more
    abbrev pub question-text : List ℕ
    question-text = section_lines (record { kind = Batch; number = counts.sections; shards = lists }) ++ held_text (counts.sections + 1) held

    module _ (now : Course) (keeps : Keeps setup desk now) where
      -- with the section of the batch
      abbrev asks : Course
      asks = with_section now (Asks b) lists text

      numbers : counts.sections ≡ length now.sections + 1
      numbers = counted.sections ∙ ap (λ n. n + 1) keeps.counts.sections_are

      question-journal : journal_of setup (with_sections asks (forced_sections own held)) ≡ journal_of setup now ++ question-text
      question-journal =
          held-journal asks own held (counts.sections + 1) (ap (λ n. n + 1) (numbers ∙ sym (length-append now.sections (section ∷ []))))
          ∙ ap (λ l. l ++ held_text (counts.sections + 1) held) (journal-more setup now (Asks b) lists text counts.sections numbers)
          ∙ append_assoc (journal_of setup now) (section_lines (record { kind = Batch; number = counts.sections; shards = lists })) (held_text (counts.sections + 1) held)

      question-keeps : (later : Desk) → IsHeldCounted counts held later.counts → later.stores.items ≡ left → later.dumps ≡ desk.dumps → Keeps setup later (with_sections asks (forced_sections own held))
      question-keeps later same stores dumps = record {
        cells = λ shard h.
            cells-more shard (cells_of desk.stores.items shard) (cells_of later.stores.items shard) now.sections section (keeps.cells shard h) (ap (λ l. cells_of l shard) stores ∙ done.leaves shard h)
            ∙ sym (held-cells shard asks.sections own held);
        counts = held-counts counts later.counts asks.sections own held (counts-more desk.counts counts now.sections section keeps.counts counted) same;
        dumps = kept-dumps setup desk.dumps later.dumps now (with_sections asks (forced_sections own held)) dumps refl refl keeps.dumps;
      }

    -- all was written
    pub question-served : (later : Desk) → IsHeldCounted counts held later.counts → later.stores.items ≡ left → later.dumps ≡ desk.dumps → WritesAll before after text question-text
        → Serves setup desk later (unit ∷ []) before after
    question-served later same stores dumps wrote us now session keeps =
        sections-served setup us unit now desk session keeps before after ((now.sections ++ section ∷ []) ++ forced_sections own held) text now.waves question-text
        (done.serves now keeps) (question-journal now keeps) later (question-keeps now keeps later same stores dumps) wrote

    -- a part of the reply and a part of the sections
    pub question-stopped : (stop : UnitStop) → WritesPart before after text question-text stop → before.outputs.files.created ≡ length desk.dumps.made.items + 1 → Stops setup desk (unit ∷ []) before after stop
    question-stopped stop wrote many us now session keeps =
        sections-stopped setup us unit now desk session keeps before after ((now.sections ++ section ∷ []) ++ forced_sections own held) text now.waves question-text
        (done.serves now keeps) (question-journal now keeps) stop wrote many

  module _ (question : Question) where
    -- the batch of the memo of its own where a signal is stuck and a query is asked, and else any
    abbrev batch-by : Option Site → Verdict → BatchRecord
    batch-by (Some site) (Ask query) = held_batch setup.design.circuit site query
    batch-by site verdict = question_batch setup question

    abbrev pub own-batch : BatchRecord
    own-batch = batch-by (site_of setup.design question.asks) (question_verdict setup.design question)

    section-by : (site : Option Site) (verdict : Verdict) (held : List (List Entry)) → IsHeldMemo setup.design.circuit site verdict held
        → forced_sections (batch-by site verdict) held ≡ held_sections setup site verdict held
    section-by None verdict held memo = subst (λ l. forced_sections (batch-by None verdict) l ≡ []) (sym memo) refl
    section-by (Some site) (Ask query) held memo =
        let own = held_batch setup.design.circuit site query in
        subst (λ l. forced_sections own l ≡ record { purpose = Forces own; lists = l } ∷ []) (sym memo.1) refl
    section-by (Some site) Unknown held memo = subst (λ l. forced_sections (batch-by (Some site) Unknown) l ≡ []) (sym memo) refl
    section-by (Some site) Past held memo = subst (λ l. forced_sections (batch-by (Some site) Past) l ≡ []) (sym memo) refl

    own-section : (held : List (List Entry)) → IsOwnMemo setup.design question held → forced_sections own-batch held ≡ own_sections setup question held
    own-section held memo = section-by (site_of setup.design question.asks) (question_verdict setup.design question) held memo

-- what answers the question, by this text, is a unit of the session
pub question-answered : (service : Service) (names : List (List ℕ)) (question : Question) (desk : Desk) (text : List ℕ) (reply : QuestionReply) (lists held : List (List Entry)) (left : List Contents)
    → IsQuestionDone (memo_of service) question desk.stores.items reply lists held left → text ≡ question_lines question reply
    → (let setup = session_of service names in
    IsAnswered setup desk (units.Question question) (question_batch setup question) (own-batch setup question) text lists held left)
question-answered service names question desk text reply lists held left done is =
    let setup : Setup = session_of service names in
    let batch : BatchRecord = question_batch setup question in
    let own : BatchRecord = own-batch setup question in
    subst (λ (t : List ℕ). IsAnswered setup desk (units.Question question) batch own t lists held left) (sym is) (record {
      serves = λ now keeps. record {
        lists = lists;
        own_lists = held;
        reply = reply;
        count = done.count;
        legal = λ shard h. subst (λ cells. IsLegalBatch batch shard cells (get_or lists shard [])) (keeps.cells shard h) (done.legal shard h);
        memo = done.memo;
        right = done.right;
        leads = ap (with_sections (with_section now (Asks batch) lists (question_lines question reply))) (own-section setup question held done.memo);
      };
      leaves = done.leaves;
    })

-- The question with all that is promised of it.
module _ (service : Service) (desk : Desk) (before after : Seen) (ready : IsReady (memo_of service) desk before.outputs.files)
    (question : Question) (text : List ℕ) (reply : QuestionReply) (lists held : List (List Entry)) (left : List Contents)
    (done : IsQuestionDone (memo_of service) question desk.stores.items reply lists held left) (is : text ≡ question_lines question reply)
    (counts : Counts) (counted : IsCounted desk.counts Batch lists counts) where
  abbrev pub asked-lines : List ℕ
  asked-lines = section_lines (record { kind = Batch; number = counts.sections; shards = lists }) ++ held_text (counts.sections + 1) held

  pub asked-served : (later : Desk) → IsHeldCounted counts held later.counts → later.stores.items ≡ left → later.dumps ≡ desk.dumps → IfSome later.last_site (λ last. last ≡ service.design.now)
      → WritesAll before after text asked-lines → UnitsServed service desk later (units.Question question ∷ []) before after
  asked-served later same stores dumps site wrote =
      unit-served service desk before after ready later (units.Question question) text asked-lines
      (kept-desk service desk before after ready later left done.stores stores dumps site) (ap (λ (d : Dumps). d.made.items) dumps) wrote
      (λ names. let setup : Setup = session_of service names in
      question-served setup (units.Question question) (question_batch setup question) (own-batch setup question) desk text lists held left
      (question-answered service names question desk text reply lists held left done is) counts counted before after later same stores dumps wrote)

  pub asked-stopped : (stop : UnitStop) → WritesPart before after text asked-lines stop → UnitsStopped service desk (units.Question question ∷ []) before after stop
  asked-stopped stop wrote = record {
    stopped = λ names. let setup : Setup = session_of service names in
        question-stopped setup (units.Question question) (question_batch setup question) (own-batch setup question) desk text lists held left
        (question-answered service names question desk text reply lists held left done is) counts counted before after stop wrote ready.count;
    state = wrote.state;
  }

-- a memo of its own has one shard at most
few-by : (c : Circuit) (site : Option Site) (verdict : Verdict) (held : List (List Entry)) → IsHeldMemo c site verdict held → length held ≤ 1
few-by c None verdict held memo = subst (λ l. length l ≤ 1) (sym memo) (omega arith)
few-by c (Some site) (Ask query) held memo = subst (λ l. length l ≤ 1) (sym memo.1) (omega arith)
few-by c (Some site) Unknown held memo = subst (λ l. length l ≤ 1) (sym memo) (omega arith)
few-by c (Some site) Past held memo = subst (λ l. length l ≤ 1) (sym memo) (omega arith)

pub held-few : (d : Joined) (question : Question) (held : List (List Entry)) → IsOwnMemo d question held → length held ≤ 1
held-few d question held memo = few-by d.circuit (site_of d question.asks) (question_verdict d question) held memo

-- ---- what is told

-- where there is no memory, or the sections are too many to count, nothing is told
pub unanswered : (counts : Counts) (text : List ℕ) (lists held : List (List Entry)) (before : Seen) (result : Result Counts UnitStop) → IsErrAnd result (λ e. e ≡ OutOfMemory)
    → TellsAnswer counts text lists held result before before
unanswered counts text lists held before (Ok later) handed = absurd handed
unanswered counts text lists held before (Err stop) handed =
    let lines = section_lines (record { kind = Batch; number = counts.sections + 1; shards = lists }) ++ held_text (counts.sections + 1 + 1) held in
    record {
      counts = record {
        sections = counts.sections + 1;
        batches = counts.batches + 1;
        fills = counts.fills + sum_by (count is_fill) lists;
        evictions = counts.evictions + sum_by (count is_eviction) lists;
      };
      counted = record { sections = refl; batches = refl; fills = refl; evictions = refl };
      held_counted = tt;
      told = subst (WritesPart before before text lines) (sym handed)
          (nothing-told before text lines);
    }
