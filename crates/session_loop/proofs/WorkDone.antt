-- The journal of a session of one batch.
use Rattle.std.proofs.Common.{◌≡◌, ℕ, ◌<◌, List, [], ◌++◌, get_or, refl, sym, ap, subst, ◌∙◌, append-nil, inl, inr}
use Rattle.cell_store.specs.Recency.{Contents}
use Rattle.texts.specs.Made.{Made}
use Rattle.backsim_io.specs.FilesInMemory.{FileGrows}
use Rattle.journal_meaning.specs.declared.Entry.{Entry}
use Rattle.journal_meaning.specs.Replay.{IsLegalBatch}
use Rattle.journal_meaning.specs.Sections.{Asks}
use Rattle.journal_text.specs.declared.sections.SectionKind.TheVariants.{Batch}
use Rattle.journal_text.specs.Spelling.{head_line, section_lines}
use Rattle.query_lines.specs.declared.unit.Item.{Item}
use Rattle.query_lines.specs.declared.unit.Unit.TheVariants as units
use Rattle.reply_lines.specs.declared.reply.Reply.{Reply}
use Rattle.session_meaning.specs.Replies.{replies_text}
use Rattle.session_meaning.specs.Dumps.{wires_of}
use Rattle.session_meaning.specs.Session.{Setup, Course, Opened, first_course, batch_of, with_section, with_waves, IsBatchServed}
use Rattle.session_meaning.specs.Broken.{IsPrefix, journal_of}
use Rattle.session_meaning.proofs.Callers.{journal-more, prefix-behind}
use Rattle.unit_answers.specs.Stores.{cells_of}
use Rattle.unit_answers.specs.Done.{IsBatchDone}
use Rattle.session_loop.specs.declared.halt.JournalHalt.{JournalHalt}
use Rattle.session_loop.specs.declared.halt.JournalHalt.TheVariants.{Unmade, Stopped}
use Rattle.session_loop.specs.inner.Growing.{FileGrowsPart}
use Rattle.session_loop.specs.Halting.{Stands, WroteJournal, IsWork, IsWorkBegun, IsWorkHalted}
use Rattle.session_loop.specs.inner.Halting.{IsHeadHalted}
use Rattle.session_loop.proofs.Files.{stands-more}

module _ (setup : Setup) (items : List Item) (name : List ℕ) where
  -- the head at most was written
  pub work-unbegun : (part : List ℕ) (m0 m1 : List Made → Type 0) → IsPrefix part (head_line setup.shards setup.capacity) → Stands name part m0 m1 → WroteJournal (IsWorkBegun setup items) name m0 m1
  work-unbegun part m0 m1 prefix stands = record { journal = part; are = inl prefix; created = stands }

  pub work-head-halted : (m0 m1 : List Made → Type 0) (files new_files : ℕ) (halt : JournalHalt) → IsHeadHalted name (head_line setup.shards setup.capacity) m0 m1 files new_files halt → IsWorkHalted setup items name m0 m1 halt
  work-head-halted m0 m1 files new_files Unmade h = h.0
  work-head-halted m0 m1 files new_files (Stopped stop) h = work-unbegun h.0 m0 m1 h.1 h.2

  -- The batch was answered over empty stores.
  module _ (opening left : List Contents) (empty : (shard : ℕ) → shard < setup.shards → cells_of opening shard ≡ []) (replies : List Reply) (lists : List (List Entry)) (done : IsBatchDone setup items opening replies lists left) where
    abbrev next : Course
    next = with_waves (with_section first_course (Asks (batch_of setup items)) lists (replies_text items replies)) (wires_of setup.design items replies)

    abbrev pub work_text : List ℕ
    work_text = section_lines (record { kind = Batch; number = 1; shards = lists })

    served : IsBatchServed setup first_course next items
    served = record {
      lists = lists;
      replies = replies;
      count = done.count;
      legal = λ shard h. subst (λ cells. IsLegalBatch (batch_of setup items) shard cells (get_or lists shard [])) (empty shard h) (done.legal shard h);
      right = done.right;
      leads = refl;
    }

    whole : journal_of setup next ≡ head_line setup.shards setup.capacity ++ work_text
    whole =
        journal-more setup first_course (Asks (batch_of setup items)) lists (replies_text items replies) 1 refl
        ∙ ap (λ l. l ++ work_text) (append-nil (head_line setup.shards setup.capacity))

    -- its section was written
    pub worked : (m0 m1 m2 : List Made → Type 0) → Stands name (head_line setup.shards setup.capacity) m0 m1 → FileGrows m1 m2 0 work_text → WroteJournal (IsWork setup items replies) name m0 m2
    unfolding served
    worked m0 m1 m2 stands grows = record {
      journal = head_line setup.shards setup.capacity ++ work_text;
      are = record { next = next; served = served; replies_are = refl; journal_is = sym whole };
      created = stands-more name (head_line setup.shards setup.capacity) work_text m0 m1 m2 stands grows;
    }

    -- its section was begun
    pub work-stopped : (m0 m1 m2 : List Made → Type 0) → Stands name (head_line setup.shards setup.capacity) m0 m1 → FileGrowsPart m1 m2 0 work_text → WroteJournal (IsWorkBegun setup items) name m0 m2
    work-stopped m0 m1 m2 stands part =
        let head = head_line setup.shards setup.capacity in
        record {
          journal = head ++ part.0;
          are = inr (
            replies,
            record {
              unit = units.Batch items;
              rest = [];
              later_is = refl;
              now = first_course;
              served = Opened;
              next = next;
              answered = served;
              out_is = refl;
              dumps_are = refl;
              recorded = (part.0, ap (λ l. l ++ part.0) (sym (append-nil head)));
              begun = subst (IsPrefix (head ++ part.0)) (sym whole) (prefix-behind head part.0 work_text part.1);
            },
          );
          created = stands-more name head part.0 m0 m1 m2 stands part.2;
        }
