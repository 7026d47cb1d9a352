-- A session with its journal, from the creation of the file to its end.
use Rattle.std.specs.Prelude.{◌≡◌, ℕ, ◌+◌, ◌≤◌, ◌⊎◌, List, [], ◌∷◌, length, Option, Some, Result, Ok, Err}
use Rattle.std.specs.Io.KnownBytes.{IsAtEnd}
use Rattle.backsim_io.specs.Counts.{Grows, Stays}
use Rattle.texts.specs.Made.{Made}
use Rattle.backsim_io.specs.FilesInMemory.{SameMade}
use Rattle.journal_text.specs.Spelling.{head_line}
use Rattle.query_lines.specs.declared.unit.Item.{Item}
use Rattle.query_lines.specs.declared.unit.Unit.TheVariants.{Batch}
use Rattle.reply_lines.specs.declared.reply.Reply.{Reply}
use Rattle.session_meaning.specs.Replies.{replies_text}
use Rattle.session_meaning.specs.Session.{Setup, Course, first_course, IsBatchServed, IsSessionOf}
use Rattle.session_meaning.specs.Broken.{IsPrefix, journal_of, IsHeadBegun, IsBrokenInJournal}
use Rattle.session_loop.specs.declared.halt.JournalHalt.{JournalHalt}
use Rattle.session_loop.specs.declared.halt.JournalHalt.TheVariants as journals
use Rattle.session_loop.specs.declared.halt.Halt.{Halt}
use Rattle.session_loop.specs.declared.halt.Halt.TheVariants.{JournalUnmade, Unbegun, Stopped, JournalUnfinished}
use Rattle.session_loop.specs.Outside.{Seen}
use Rattle.session_loop.specs.Serving.{IsStopped}

-- The one file that was created has this name and these bytes, where none had been created before.
abbrev pub Stands : List ℕ → List ℕ → (List Made → Type 0) → (List Made → Type 0) → Type 0
Stands name bytes made new_made = made [] → new_made (record { name = name; bytes = bytes } ∷ [])

-- the files of a session: its journal under this name, and after it the dumps
abbrev pub session_files : List ℕ → List ℕ → List Made → List Made
session_files name journal dumps = record { name = name; bytes = journal } ∷ dumps

-- Replies, a journal and dumps of which `such` holds were written: the journal and the dumps are the files that were created, where none
-- had been created before.
pub record WroteFiles (such : List ℕ → List ℕ → List Made → Type 0) (name : List ℕ) (out new_out : List ℕ → Type 0) (made new_made : List Made → Type 0) (files : ℕ) : Type 0 where
  pub replies : List ℕ
  pub journal : List ℕ
  pub dumps : List Made
  pub are : such replies journal dumps
  pub replied : Grows out new_out replies
  pub created : made [] → new_made (session_files name journal dumps)
  pub count : files ≡ length dumps + 1

-- the source was not read, and a part of the head at most was written
pub record IsUnbegun (setup : Setup) (old_left left : Option (List ℕ)) (replies journal : List ℕ) (dumps : List Made) : Type 0 where
  pub unread : left ≡ old_left
  pub head : IsHeadBegun setup replies journal dumps

-- what stands where a session halts
abbrev pub IsHalted : Setup → List ℕ → List ℕ → Option (List ℕ) → Option (List ℕ) → (List ℕ → Type 0) → (List ℕ → Type 0) → (List Made → Type 0) → (List Made → Type 0) → ℕ → Halt → Type 0
IsHalted setup name script old_left left out new_out made new_made files JournalUnmade = Stays out new_out × SameMade made new_made × (left ≡ old_left)
IsHalted setup name script old_left left out new_out made new_made files (Unbegun stop) = WroteFiles (IsUnbegun setup old_left left) name out new_out made new_made files
IsHalted setup name script old_left left out new_out made new_made files (Stopped stop) = WroteFiles (IsStopped setup script left stop) name out new_out made new_made files
IsHalted setup name script old_left left out new_out made new_made files JournalUnfinished =
    (length script ≤ 16777216) × IsAtEnd left × WroteFiles (IsSessionOf setup script) name out new_out made new_made files

-- Where the journal was not created, nothing was replied, and the script and the created files are as they were.
pub record IsUntouched (old_left left : Option (List ℕ)) (out new_out : List ℕ → Type 0) (made new_made : List Made → Type 0) (files new_files : ℕ) : Type 0 where
  pub unread : left ≡ old_left
  pub unreplied : Stays out new_out
  pub same_files : SameMade made new_made
  pub no_file : new_files ≡ files

-- a known script was served to its end, and the journal finished
pub record SessionServed (setup : Setup) (name script : List ℕ) (left : Option (List ℕ)) (before after : Seen) : Type 0 where
  pub short : length script ≤ 16777216
  pub read : IsAtEnd left
  pub wrote : WroteFiles (IsSessionOf setup script) name before.written after.written before.made after.made after.outputs.files.created

-- The session halted. What stands is told of a known script.
pub record SessionHalted (setup : Setup) (name : List ℕ) (first left : Option (List ℕ)) (before after : Seen) (halt : Halt) : Type 0 where
  pub halted : (script : List ℕ) → first ≡ Some script
      → IsHalted setup name script first left before.written after.written before.made after.made after.outputs.files.created halt
  pub untouched : halt ≡ JournalUnmade → IsUntouched first left before.written after.written before.made after.made before.outputs.files.created after.outputs.files.created

-- what a session comes to, by the outcome
abbrev pub ServesSession : {A : Type 0} → Setup → List ℕ → Option (List ℕ) → Option (List ℕ) → Result A Halt → Seen → Seen → Type 0
ServesSession setup name first left (Ok done) before after = (script : List ℕ) → first ≡ Some script → SessionServed setup name script left before after
ServesSession setup name first left (Err halt) before after = SessionHalted setup name first left before after halt

-- A session without a script.

-- A journal of which `such` holds was written.
pub record WroteJournal (such : List ℕ → Type 0) (name : List ℕ) (made new_made : List Made → Type 0) : Type 0 where
  pub journal : List ℕ
  pub are : such journal
  pub created : Stands name journal made new_made

-- the journal of the session of one batch of these items, with these replies
pub record IsWork (setup : Setup) (items : List Item) (replies : List Reply) (journal : List ℕ) : Type 0 where
  pub next : Course
  pub served : IsBatchServed setup first_course next items
  pub replies_are : served.replies ≡ replies
  pub journal_is : journal ≡ journal_of setup next

-- the batch was answered, whatever the replies
abbrev pub IsWorkDone : Setup → List Item → List ℕ → Type 0
IsWorkDone setup items journal = (replies : List Reply) × IsWork setup items replies journal

-- a part of the head at most was written, or, its replies being known, a part of the batch's section
-- after it
abbrev pub IsWorkBegun : Setup → List Item → List ℕ → Type 0
IsWorkBegun setup items journal = IsPrefix journal (head_line setup.shards setup.capacity)
    ⊎ ((replies : List Reply) × IsBrokenInJournal setup [] (Batch items ∷ []) (replies_text items replies) journal [])

-- what stands where a session of one batch halts
abbrev pub IsWorkHalted : Setup → List Item → List ℕ → (List Made → Type 0) → (List Made → Type 0) → JournalHalt → Type 0
IsWorkHalted setup items name made new_made journals.Unmade = SameMade made new_made
IsWorkHalted setup items name made new_made (journals.Stopped stop) = WroteJournal (IsWorkBegun setup items) name made new_made
