-- What reading a file changes of files, by its outcome.
use Rattle.std.specs.Prelude.{◌+◌, ◌≡◌, Result, Ok, Err}
use Rattle.backsim_io.specs.State.{FilesState, FileFault, Rises}
use Rattle.backsim_io.specs.declared.transfer.ReadFile.{ReadFile}
use Rattle.backsim_io.specs.declared.transfer.ReadFile.TheVariants.{NotOpened, Failed, TooLong, OutOfMemory}

-- a file was opened, and some of it was read
abbrev pub Opened : FilesState → FilesState → Type 0
Opened old new = new ≡ record old { started = old.started + 1; left = new.left }

-- the same, and then the count of read faults rose
pub record OpenedThenFault (old new : FilesState) : Type 0 where
  pub same : new ≡ record old { started = old.started + 1; left = new.left; read_faults = new.read_faults }
  pub rises : Rises old.read_faults new.read_faults

-- what reading a file changes
abbrev pub ReadFileChanges : {A : Type 0} → FilesState → FilesState → Result A ReadFile → Type 0
ReadFileChanges old new (Ok bytes) = Opened old new
ReadFileChanges old new (Err NotOpened) = FileFault old new
ReadFileChanges old new (Err Failed) = OpenedThenFault old new
ReadFileChanges old new (Err TooLong) = Opened old new
ReadFileChanges old new (Err OutOfMemory) = Opened old new

-- some of a file was read
abbrev pub ReadSome : FilesState → FilesState → Type 0
ReadSome old new = new ≡ record old { left = new.left }

-- the same, and then the count of read faults rose
pub record ReadThenFault (old new : FilesState) : Type 0 where
  pub same : new ≡ record old { left = new.left; read_faults = new.read_faults }
  pub rises : Rises old.read_faults new.read_faults

-- what reading the rest of a file changes
abbrev pub ReadRestChanges : {A : Type 0} → FilesState → FilesState → Result A ReadFile → Type 0
ReadRestChanges old new (Ok bytes) = ReadSome old new
ReadRestChanges old new (Err NotOpened) = ⊥
ReadRestChanges old new (Err Failed) = ReadThenFault old new
ReadRestChanges old new (Err TooLong) = ReadSome old new
ReadRestChanges old new (Err OutOfMemory) = ReadSome old new
