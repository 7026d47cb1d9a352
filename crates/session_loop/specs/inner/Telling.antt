-- What a unit tells: its reply, and then, in the journal, its section; or a dump, and then its reply.
use Rattle.std.specs.Prelude.{◌≡◌, ℕ, ◌+◌, ◌⊎◌, List, [], ◌∷◌, ◌++◌, length, Result, Ok, Err, IfOk}
use Rattle.texts.specs.Made.{Made}
use Rattle.journal_meaning.specs.declared.Entry.{Entry}
use Rattle.journal_text.specs.Spelling.{section_lines}
use Rattle.journal_text.specs.declared.sections.SectionKind.TheVariants.{Batch}
use Rattle.backsim_io.specs.Counts.{Grows}
use Rattle.backsim_io.specs.FilesInMemory.{FileGrows}
use Rattle.session_loop.specs.declared.desk.Counts.{Counts}
use Rattle.session_loop.specs.declared.stop.DumpStop.{DumpStop}
use Rattle.session_loop.specs.declared.stop.JournalStop.{JournalStop}
use Rattle.session_loop.specs.declared.stop.RepliesStop.{RepliesStop}
use Rattle.session_loop.specs.declared.stop.UnitStop.{UnitStop}
use Rattle.session_loop.specs.Outside.{Seen, UnitsStop}
use Rattle.session_loop.specs.Stops.{of_replies, of_journal, of_dump}
use Rattle.session_loop.specs.inner.Desks.{IsCounted, IsHeldCounted}
use Rattle.session_loop.specs.inner.Growing.{Adds, GrowsPart, FileGrowsPart, IsDumpPart}
use Rattle.session_loop.specs.inner.Outside.{RepliesStops, DumpStops}
use Rattle.session_loop.specs.inner.Serving.{held_text}

-- a stop in the writing of replies, or of the journal
abbrev pub OfReplies : UnitStop → Type 0
OfReplies stop = (given : RepliesStop) × (stop ≡ of_replies given)

abbrev pub OfJournal : UnitStop → Type 0
OfJournal stop = (given : JournalStop) × (stop ≡ of_journal given)

-- All of a text was written, and all of the lines after it.
pub record WritesAll (before after : Seen) (text lines : List ℕ) : Type 0 where
  pub replied : Grows before.written after.written text
  pub recorded : FileGrows before.made after.made 0 lines
  pub calm : after.outputs ≡ before.outputs

-- A part of a text was written, and a part of the lines after it: of the lines only once all of the text was. The stop is one of the text,
-- or of the lines, behind all of the text.
pub record WritesPart (before after : Seen) (text lines : List ℕ) (stop : UnitStop) : Type 0 where
  pub replied : GrowsPart before.written after.written text
  pub recorded : FileGrowsPart before.made after.made 0 lines
  pub first : (replied.0 ≡ text) ⊎ (recorded.0 ≡ [])
  pub cause : OfReplies stop ⊎ (OfJournal stop × (replied.0 ≡ text))
  pub created : after.outputs.files.created ≡ before.outputs.files.created
  pub state : UnitsStop before.outputs after.outputs stop

-- what the writing of both comes to, by the outcome
abbrev pub Tells : {A : Type 0} → List ℕ → List ℕ → Result A UnitStop → Seen → Seen → Type 0
Tells text lines (Ok done) before after = WritesAll before after text lines
Tells text lines (Err stop) before after = WritesPart before after text lines stop

-- The section of a batch that was answered was counted, and its replies told with this section.
pub record TellsBatch (old : Counts) (text : List ℕ) (lists : List (List Entry)) (result : Result Counts UnitStop) (before after : Seen) : Type 0 where
  pub counts : Counts
  pub counted : IsCounted old Batch lists counts
  pub same : IfOk result (λ later. later ≡ counts)
  pub told : Tells text (section_lines (record { kind = Batch; number = counts.sections; shards = lists })) result before after

-- The section of a question that was answered was counted, and its reply told with this section, and with that of a memo of its own, if it
-- has one: that was counted too.
pub record TellsAnswer (old : Counts) (text : List ℕ) (lists held : List (List Entry)) (result : Result Counts UnitStop) (before after : Seen) : Type 0 where
  pub counts : Counts
  pub counted : IsCounted old Batch lists counts
  pub held_counted : IfOk result (IsHeldCounted counts held)
  pub told : Tells text (section_lines (record { kind = Batch; number = counts.sections; shards = lists }) ++ held_text (counts.sections + 1) held) result before after

-- A file of this name and text was created, written and finished.
pub record MakesFile (before after : Seen) (file text : List ℕ) : Type 0 where
  pub added : Adds before.made after.made before.outputs.files.created (record { name = file; bytes = text } ∷ [])
  pub files : after.outputs.files ≡ record before.outputs.files { created = before.outputs.files.created + 1 }

-- The file of a dump was made, and all of its reply was written.
pub record WritesDump (before after : Seen) (file text reply : List ℕ) : Type 0 where
  pub makes : MakesFile before after file text
  pub replied : Grows before.written after.written reply
  pub calm : after.outputs.replies ≡ before.outputs.replies

-- The file was made, and a part of the reply was written.
pub record WritesDumpReplyPart (before after : Seen) (file text reply : List ℕ) (stop : UnitStop) : Type 0 where
  pub makes : MakesFile before after file text
  pub replied : GrowsPart before.written after.written reply
  pub given : RepliesStop
  pub is : stop ≡ of_replies given
  pub state : RepliesStops before.outputs.replies after.outputs.replies given

-- A beginning of the file stands, if anything, and nothing of the reply was written.
pub record WritesDumpPart (before after : Seen) (file text : List ℕ) (stop : UnitStop) : Type 0 where
  pub more : List Made
  pub begun : IsDumpPart file text more
  pub added : Adds before.made after.made before.outputs.files.created more
  pub created : after.outputs.files.created ≡ before.outputs.files.created + length more
  pub given : DumpStop
  pub is : stop ≡ of_dump given
  pub state : DumpStops before.outputs.files after.outputs.files given
  pub unreplied : Grows before.written after.written []
  pub calm : after.outputs.replies ≡ before.outputs.replies

-- what the telling of a dump comes to, by the outcome
abbrev pub TellsDump : {A : Type 0} → List ℕ → List ℕ → List ℕ → Result A UnitStop → Seen → Seen → Type 0
TellsDump file text reply (Ok done) before after = WritesDump before after file text reply
TellsDump file text reply (Err stop) before after = WritesDumpPart before after file text stop ⊎ WritesDumpReplyPart before after file text reply stop
