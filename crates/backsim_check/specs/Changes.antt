-- What a call changes of the files and of the sink's count of faults, by its status.
use Rattle.std.specs.Prelude.{ℕ, ◌≡◌, ◌≤◌, ◌<◌}
use Rattle.backsim_io.specs.State.{FilesState, Rises}
use Rattle.circuit_files.specs.Changes.{Opened, OpenedUpTo, OpenedThenMissing, OpenedThenUnread}
use Rattle.backsim_check.specs.Seen.{Output}
use Rattle.backsim_check.specs.declared.status.CheckStatus.{CheckStatus}
use Rattle.backsim_check.specs.declared.status.CheckStatus.TheVariants.{Yes, ReadFault, WriteFault, FileFault, No}

-- one of this many files could not be opened; those before it were
pub record MissingOf (all : ℕ) (old new : FilesState) : Type 0 where
  pub many : ℕ
  pub within : many < all
  pub missing : OpenedThenMissing many old new

-- one of this many files could not be read, the last that was opened
pub record UnreadOf (all : ℕ) (old new : FilesState) : Type 0 where
  pub many : ℕ
  pub within : many ≤ all
  pub unread : OpenedThenUnread many old new

-- a status comes only with its cause, and nothing else of the files changes
abbrev pub ChangesFiles : FilesState → FilesState → CheckStatus → Type 0
ChangesFiles old new Yes = Opened 4 old new
ChangesFiles old new No = Opened 4 old new
ChangesFiles old new ReadFault = UnreadOf 4 old new
ChangesFiles old new FileFault = MissingOf 4 old new
ChangesFiles old new _ = OpenedUpTo 4 old new

-- the count of the sink's faults rose, or stands at its greatest value, only if the line could not be written
abbrev pub CountsFaults : Output → Output → CheckStatus → Type 0
CountsFaults out new_out WriteFault = Rises out.faults new_out.faults
CountsFaults out new_out _ = new_out.faults ≡ out.faults
