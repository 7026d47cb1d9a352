-- What a session changes of the outside: of its files, of its script's source and of the sink of its
-- replies. The bytes that it writes are told elsewhere.
use Rattle.std.specs.Prelude.{◌≡◌, ◌≤◌, ℕ, ◌+◌, List, [], ◌∷◌, ◌++◌, Result, Ok, Err}
use Rattle.texts.specs.Made.{Made}
use Rattle.backsim_io.specs.FilesInMemory.{list_without}
use Rattle.backsim_io.specs.State.{FilesState, SourceState, FileFault, WriteFault, Rises}
use Rattle.session_loop.specs.declared.stop.JournalStop.{JournalStop}
use Rattle.session_loop.specs.declared.stop.JournalStop.TheVariants as journal
use Rattle.session_loop.specs.declared.stop.UnitStop.{UnitStop}
use Rattle.session_loop.specs.declared.stop.UnitStop.TheVariants.{RepliesUnwritten, JournalUnwritten, DumpUnmade, DumpUnwritten, DumpUnfinished, OutOfMemory}
use Rattle.session_loop.specs.declared.stop.ScriptStop.{ScriptStop}
use Rattle.session_loop.specs.declared.stop.ScriptStop.TheVariants.{Unread, TooLong, Unit}
use Rattle.session_loop.specs.declared.halt.JournalHalt.{JournalHalt}
use Rattle.session_loop.specs.declared.halt.JournalHalt.TheVariants as journals
use Rattle.session_loop.specs.declared.halt.Halt.{Halt}
use Rattle.session_loop.specs.declared.halt.Halt.TheVariants.{JournalUnmade, Unbegun, Stopped, JournalUnfinished}

-- what a session writes to: files, and a sink of replies, of which the faults are counted
pub record Outputs : Type 0 where
  pub files : FilesState
  pub replies : ℕ

-- What is seen at one time of what a session writes to: its state, the bytes that the sink may have taken, and what the created files may be.
pub record Seen : Type 1 where
  pub outputs : Outputs
  pub written : List ℕ → Type 0
  pub made : List Made → Type 0

-- what is seen of files and of a sink
abbrev pub seen : FilesState → (List Made → Type 0) → ℕ → (List ℕ → Type 0) → Seen
seen files made replies written = record { outputs = record { files = files; replies = replies }; written = written; made = made }

-- what a session writes to, and the source of its script
pub record Outside : Type 0 where
  pub outputs : Outputs
  pub script : SourceState

-- files, the faults of a sink, and a source
abbrev pub outside : FilesState → ℕ → SourceState → Outside
outside files replies script = record { outputs = record { files = files; replies = replies }; script = script }

-- nothing but the count of the replies' faults changed, and it rose
pub record RepliesFault (old new : Outputs) : Type 0 where
  pub same : new ≡ record old { replies = new.replies }
  pub rises : Rises old.replies new.replies

-- nothing but the files changed, and they in this way
pub record OfFiles (way : FilesState → FilesState → Type 0) (old new : Outputs) : Type 0 where
  pub same : new ≡ record old { files = new.files }
  pub changed : way old.files new.files

-- Files.

-- a further file was created
abbrev pub with_file : FilesState → FilesState
with_file files = record files {
  created = files.created + 1;
  unfinished = files.unfinished ++ files.created ∷ [];
}

-- dumps were created and finished, if any
pub record Dumped (old new : FilesState) : Type 0 where
  pub same : new ≡ record old { created = new.created }
  pub grows : old.created ≤ new.created

-- a dump was created, and could not be written
abbrev pub LeavesUnwritten : FilesState → FilesState → Type 0
LeavesUnwritten old new = WriteFault (with_file old) new

-- a dump was created, and could not be finished
abbrev pub LeavesUnfinished : FilesState → FilesState → Type 0
LeavesUnfinished old new = FileFault (with_file old) new

-- dumps were created and finished, if any, and then the journal could not be finished
pub record DumpedThenFault (old new : FilesState) : Type 0 where
  pub same : new ≡ record old { created = new.created; file_faults = new.file_faults }
  pub grows : old.created ≤ new.created
  pub rises : Rises old.file_faults new.file_faults

-- Stops.

-- a stop in the writing of the journal
abbrev pub JournalStops : FilesState → FilesState → JournalStop → Type 0
JournalStops old new journal.Unwritten = WriteFault old new
JournalStops old new journal.OutOfMemory = new ≡ old

-- a stop within a unit, once the dumps before it were finished
abbrev pub StopsAt : Outputs → Outputs → UnitStop → Type 0
StopsAt old new RepliesUnwritten = RepliesFault old new
StopsAt old new JournalUnwritten = OfFiles WriteFault old new
StopsAt old new DumpUnmade = OfFiles FileFault old new
StopsAt old new DumpUnwritten = OfFiles LeavesUnwritten old new
StopsAt old new DumpUnfinished = OfFiles LeavesUnfinished old new
StopsAt old new OutOfMemory = new ≡ old

-- a stop within units: dumps were finished, if any, and then it stopped
pub record UnitsStop (old new : Outputs) (stop : UnitStop) : Type 0 where
  pub files : FilesState
  pub dumped : Dumped old.files files
  pub stops : StopsAt (record old { files = files }) new stop

-- the script was read without a fault, and of the files this changed
pub record ServedIn (way : FilesState → FilesState → Type 0) (old new : Outside) : Type 0 where
  pub read : new.script.faults ≡ old.script.faults
  pub outputs : OfFiles way old.outputs new.outputs

-- the script was read without a fault, and of the files only dumps are new
abbrev pub Served : Outside → Outside → Type 0
Served = ServedIn Dumped

-- the script was read without a fault, and a unit of it stopped
pub record ServedThenStop (old new : Outside) (stop : UnitStop) : Type 0 where
  pub read : new.script.faults ≡ old.script.faults
  pub outputs : UnitsStop old.outputs new.outputs stop

-- a read of the script failed
pub record ServedThenUnread (old new : Outside) : Type 0 where
  pub rises : Rises old.script.faults new.script.faults
  pub outputs : OfFiles Dumped old.outputs new.outputs

-- a stop of a script
abbrev pub ScriptStops : Outside → Outside → ScriptStop → Type 0
ScriptStops old new Unread = ServedThenUnread old new
ScriptStops old new TooLong = Served old new
ScriptStops old new (Unit stop) = ServedThenStop old new stop

-- What a session changes, by its outcome.

-- the outside with the journal created
abbrev pub with_journal : Outside → Outside
with_journal old = record old { outputs = record old.outputs { files = with_file old.outputs.files } }

-- nothing was read, and of the files this changed
pub record UnreadIn (way : FilesState → FilesState → Type 0) (old new : Outside) : Type 0 where
  pub unread : new.script ≡ old.script
  pub outputs : OfFiles way old.outputs new.outputs

abbrev pub SessionHalts : Outside → Outside → Halt → Type 0
SessionHalts old new JournalUnmade = UnreadIn FileFault old new
SessionHalts old new (Unbegun stop) = UnreadIn (λ files later. JournalStops (with_file files) later stop) old new
SessionHalts old new (Stopped stop) = ScriptStops (with_journal old) new stop
SessionHalts old new JournalUnfinished = ServedIn DumpedThenFault (with_journal old) new

abbrev pub SessionChanges : {A : Type 0} → Outside → Outside → Result A Halt → Type 0
SessionChanges old new (Ok done) = Served old new
SessionChanges old new (Err halt) = SessionHalts old new halt

-- What a session of one batch changes of files, by its outcome, and the beginning of a journal. The journal is left to be finished.
abbrev pub JournalHalts : FilesState → FilesState → JournalHalt → Type 0
JournalHalts old new journals.Unmade = FileFault old new
JournalHalts old new (journals.Stopped stop) = JournalStops (with_file old) new stop

abbrev pub JournalChanges : {A : Type 0} → FilesState → FilesState → Result A JournalHalt → Type 0
JournalChanges old new (Ok done) = new ≡ with_file old
JournalChanges old new (Err halt) = JournalHalts old new halt

-- what the end of a journal changes of files, by its outcome
abbrev pub FinishChanges : {A E : Type 0} → FilesState → FilesState → Result A E → Type 0
FinishChanges old new (Ok done) = new ≡ record old { unfinished = list_without old.unfinished 0 }
FinishChanges old new (Err unfinished) = FileFault old new
