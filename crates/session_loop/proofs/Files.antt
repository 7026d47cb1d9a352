-- The file of a journal, and what a session comes to with it and with its dumps.
use Rattle.std.proofs.Common.{◌≡◌, ℕ, ◌+◌, List, [], ◌∷◌, ◌++◌, Result, Ok, Err, refl, sym, ap, subst, ◌∙◌, append-nil}
use Rattle.std.specs.Prelude.{Option, IsErrAnd}
use Rattle.backsim_io.specs.Counts.{Grows}
use Rattle.texts.specs.Made.{Made}
use Rattle.backsim_io.specs.FilesInMemory.{FileGrows, SameMade}
use Rattle.journal_text.specs.Spelling.{head_line}
use Rattle.session_meaning.specs.Session.{Setup}
use Rattle.session_meaning.specs.Broken.{IsPrefix}
use Rattle.session_loop.specs.declared.stop.JournalStop.{JournalStop}
use Rattle.session_loop.specs.declared.stop.ScriptStop.{ScriptStop}
use Rattle.session_loop.specs.declared.halt.JournalHalt.{JournalHalt}
use Rattle.session_loop.specs.declared.halt.JournalHalt.TheVariants as journals
use Rattle.session_loop.specs.declared.halt.Halt.{Halt}
use Rattle.session_loop.specs.declared.halt.Halt.TheVariants.{JournalUnmade, Unbegun, Stopped, JournalUnfinished}
use Rattle.session_loop.specs.Stops.{of_begin}
use Rattle.session_loop.specs.Outside.{Seen}
use Rattle.session_loop.specs.inner.Scripts.{Wrote}
use Rattle.session_loop.specs.Halting.{Stands, session_files, WroteFiles, IsUnbegun, IsHalted, IsUntouched, SessionHalted, ServesSession}
use Rattle.session_loop.specs.inner.Halting.{IsHeadHalted}
use Rattle.session_loop.proofs.Growing.{grows-none}

-- bytes come after those of the one file
pub stands-more : (name bytes more : List ℕ) (m0 m1 m2 : List Made → Type 0) → Stands name bytes m0 m1 → FileGrows m1 m2 0 more → Stands name (bytes ++ more) m0 m2
stands-more name bytes more m0 m1 m2 stands grows none = grows (record { name = name; bytes = bytes } ∷ []) (stands none)

-- the halt that a result hands on
pub handed-halt : {A : Type 0} {setup : Setup} {name : List ℕ} {first left : Option (List ℕ)} {before after : Seen} {halt : Halt} (result : Result A Halt) → IsErrAnd result (λ h. h ≡ halt)
    → SessionHalted setup name first left before after halt → ServesSession setup name first left result before after
handed-halt (Ok done) handed halted = absurd handed
handed-halt {A} {setup} {name} {first} {left} {before} {after} (Err halt) handed halted = subst (SessionHalted setup name first left before after) (sym handed) halted

-- a later halt is none before the journal
pub unbegun-later : (stop : JournalStop) → Unbegun stop ≡ JournalUnmade → ⊥
unbegun-later stop is = cc

pub stopped-later : (stop : ScriptStop) → Stopped stop ≡ JournalUnmade → ⊥
stopped-later stop is = cc

pub unfinished-later : JournalUnfinished ≡ JournalUnmade → ⊥
unfinished-later is = cc

pub head-untouched : (name head : List ℕ) (left : Option (List ℕ)) (w : List ℕ → Type 0) (m0 m1 : List Made → Type 0) (files new_files : ℕ) (halt : JournalHalt) → IsHeadHalted name head m0 m1 files new_files halt
    → of_begin halt ≡ JournalUnmade → IsUntouched left left w w m0 m1 files new_files
head-untouched name head left w m0 m1 files new_files journals.Unmade halted is = record { unread = refl; unreplied = λ before was. was; same_files = halted.0; no_file = halted.1 }
head-untouched name head left w m0 m1 files new_files (journals.Stopped stop) halted is = absurd (unbegun-later stop is)

module _ (setup : Setup) (name : List ℕ) where
  -- replies, a journal and dumps after the head
  pub wrote-files : (such : List ℕ → List ℕ → List Made → Type 0) (m0 : List Made → Type 0) (before after : Seen) → Stands name (head_line setup.shards setup.capacity) m0 before.made
      → Wrote setup such before after → WroteFiles such name before.written after.written m0 after.made after.outputs.files.created
  wrote-files such m0 before after stands wrote =
      let head = head_line setup.shards setup.capacity in
      record {
        replies = wrote.replies;
        journal = wrote.journal;
        dumps = wrote.dumps;
        are = wrote.are;
        replied = subst (Grows before.written after.written) (sym wrote.replied.1) wrote.replied.2;
        created = λ none. wrote.recorded name (subst (λ l. before.made (session_files name l [])) (sym (append-nil head)) (stands none));
        count = wrote.count;
      }

  pub wrote-same : (such : List ℕ → List ℕ → List Made → Type 0) (w w' : List ℕ → Type 0) (m0 m1 m2 : List Made → Type 0) (files new_files : ℕ) → WroteFiles such name w w' m0 m1 files → SameMade m1 m2 → new_files ≡ files
      → WroteFiles such name w w' m0 m2 new_files
  wrote-same such w w' m0 m1 m2 files new_files wrote same many = record {
    replies = wrote.replies;
    journal = wrote.journal;
    dumps = wrote.dumps;
    are = wrote.are;
    replied = wrote.replied;
    created = λ none. same (session_files name wrote.journal wrote.dumps) (wrote.created none);
    count = many ∙ wrote.count;
  }

  -- the head at most was written
  pub unbegun : (left : Option (List ℕ)) (part : List ℕ) (w : List ℕ → Type 0) (m0 m1 : List Made → Type 0) (files : ℕ) → IsPrefix part (head_line setup.shards setup.capacity) → Stands name part m0 m1
      → files ≡ 1 → WroteFiles (IsUnbegun setup left left) name w w m0 m1 files
  unbegun left part w m0 m1 files prefix stands one = record {
    replies = [];
    journal = part;
    dumps = [];
    are = record { unread = refl; head = record { out_is = refl; head = prefix; dumps_are = refl } };
    replied = grows-none w;
    created = stands;
    count = one;
  }

  pub head-halted : (script : List ℕ) (left : Option (List ℕ)) (w : List ℕ → Type 0) (m0 m1 : List Made → Type 0) (files new_files : ℕ) (halt : JournalHalt)
      → files ≡ 0 → IsHeadHalted name (head_line setup.shards setup.capacity) m0 m1 files new_files halt
      → IsHalted setup name script left left w w m0 m1 new_files (of_begin halt)
  head-halted script left w m0 m1 files new_files journals.Unmade none h = (λ before was. was, h.0, refl)
  head-halted script left w m0 m1 files new_files (journals.Stopped stop) none h = unbegun left h.0 w m0 m1 new_files h.1 h.2 (h.3 ∙ ap (λ n. n + 1) none)
