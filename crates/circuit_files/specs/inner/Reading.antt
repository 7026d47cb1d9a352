-- Definitions for proofs and private functions.
use Rattle.std.specs.Prelude.{◌≡◌, ◌+◌, ◌≤◌, ⊤, List, ℕ, Some, Result, Ok, Err, IfErr}
use Rattle.backsim_io.specs.State.{FilesState, FileFault}
use Rattle.circuit_files.specs.Changes.{Opened, OpenedThenUnread}
use Rattle.circuit_files.specs.Stops.{before, IsAnswerOf}
use Rattle.circuit_files.specs.declared.refusal.CircuitFile.{CircuitFile}
use Rattle.circuit_files.specs.declared.refusal.FileRefusal.{FileRefusal}
use Rattle.circuit_files.specs.declared.stop.FilesStop.{FilesStop}
use Rattle.circuit_files.specs.declared.stop.FilesStop.TheVariants.{Refused, NotOpened, Unread, OutOfMemory}

-- the result for a text, whose model is its bytes
abbrev pub AnswersText : {T : Type 0} → (T → List ℕ) → Result T FilesStop → Result (List ℕ) FileRefusal → Type 0
AnswersText bytes (Ok text) said = said ≡ Ok (bytes text)
AnswersText bytes (Err stop) said = IsAnswerOf (Err stop) said

-- a fault is one of this file
abbrev pub IsAt : CircuitFile → FilesStop → Type 0
IsAt file (Refused refusal) = ⊤
IsAt file (NotOpened met) = met ≡ file
IsAt file (Unread met) = met ≡ file
IsAt file OutOfMemory = ⊤

-- the changes by reading one of the files
abbrev pub TextStops : CircuitFile → FilesState → FilesState → FilesStop → Type 0
TextStops file old new (Refused refusal) = Opened (before file + 1) old new
TextStops file old new (NotOpened met) = FileFault old new
TextStops file old new (Unread met) = OpenedThenUnread (before file + 1) old new
TextStops file old new OutOfMemory = Opened (before file + 1) old new

abbrev pub TextChanges : {T : Type 0} → CircuitFile → FilesState → FilesState → Result T FilesStop → Type 0
TextChanges file old new (Ok text) = Opened (before file + 1) old new
TextChanges file old new (Err stop) = TextStops file old new stop

-- What reading one of the files and parsing it comes to: its content, or its refusal, unless a fault at this file or a lack of memory came
-- before.
pub record ReadsContent {A : Type 0} (file : CircuitFile) (name : List ℕ) (content_of : List ℕ → Result A FileRefusal) (old new : FilesState) (result : Result A FilesStop) : Type 0 where
  pub content : (bytes : List ℕ) → old.bytes name ≡ Some bytes → IsAnswerOf result (content_of bytes)
  pub place : IfErr result (IsAt file)
  pub started : new.started ≤ before file + 1
  pub state : TextChanges file old new result
