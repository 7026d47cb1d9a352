-- What reading the three files changes, by its outcome.
use Rattle.std.specs.Prelude.{ℕ, ◌+◌, ◌≤◌, ◌≡◌, Result, Ok, Err}
use Rattle.backsim_io.specs.State.{FilesState, Rises}
use Rattle.circuit_files.specs.declared.stop.FilesStop.{FilesStop}
use Rattle.circuit_files.specs.declared.stop.FilesStop.TheVariants.{Refused, NotOpened, Unread, OutOfMemory}
use Rattle.circuit_files.specs.Stops.{before}

-- this many files were opened, and some of their bytes were read
abbrev pub Opened : ℕ → FilesState → FilesState → Type 0
Opened n old new = new ≡ record old { started = n; left = new.left }

-- the same, and then one more file could not be opened
pub record OpenedThenMissing (n : ℕ) (old new : FilesState) : Type 0 where
  pub same : new ≡ record old { started = n; left = new.left; file_faults = new.file_faults }
  pub rises : Rises old.file_faults new.file_faults

-- the same, and then a read failed
pub record OpenedThenUnread (n : ℕ) (old new : FilesState) : Type 0 where
  pub same : new ≡ record old { started = n; left = new.left; read_faults = new.read_faults }
  pub rises : Rises old.read_faults new.read_faults

-- at most this many files were opened, and some of their bytes were read
pub record OpenedUpTo (most : ℕ) (old new : FilesState) : Type 0 where
  pub many : ℕ
  pub within : many ≤ most
  pub opened : Opened many old new

-- A stop comes only with its cause. The number of opened files tells which file had the fault.
abbrev pub StopChanges : FilesState → FilesState → FilesStop → Type 0
StopChanges old new (Refused refusal) = OpenedUpTo 3 old new
StopChanges old new (NotOpened file) = OpenedThenMissing (before file) old new
StopChanges old new (Unread file) = OpenedThenUnread (before file + 1) old new
StopChanges old new OutOfMemory = OpenedUpTo 3 old new

abbrev pub DesignChanges : {T : Type 0} → FilesState → FilesState → Result T FilesStop → Type 0
DesignChanges old new (Ok design) = Opened 3 old new
DesignChanges old new (Err stop) = StopChanges old new stop
