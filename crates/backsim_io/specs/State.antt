-- The state of files and of a source, and what a call may change of it.
use Rattle.std.specs.Prelude.{ℕ, ◌≡◌, ◌≤◌, List, [], Option}
use Rattle.std.specs.Io.KnownBytes.{Consumes}
use Rattle.backsim_io.specs.Counts.{Rose}

-- the state of files
pub record FilesState : Type 0 where
  -- the bytes under a name, if they are known
  pub bytes : List ℕ → Option (List ℕ)
  -- the rest of the file that is being read, if it is known
  pub left : Option (List ℕ)
  -- how many files were opened for reading
  pub started : ℕ
  -- how many files were created
  pub created : ℕ
  -- the places of the unfinished created files
  pub unfinished : List ℕ
  -- how often a file could not be opened, created or finished
  pub file_faults : ℕ
  -- how often a read failed
  pub read_faults : ℕ
  -- how often a write failed
  pub write_faults : ℕ

-- files of which none was opened or created, with what is known of their bytes
abbrev pub fresh_files : (List ℕ → Option (List ℕ)) → Option (List ℕ) → FilesState
fresh_files bytes left = record { bytes = bytes; left = left; started = 0; created = 0; unfinished = []; file_faults = 0; read_faults = 0; write_faults = 0 }

-- the state of a source
pub record SourceState : Type 0 where
  -- the bytes still to come, if they are known
  pub left : Option (List ℕ)
  -- how often it has failed
  pub faults : ℕ

-- a count of faults rose, or stands at its greatest value
abbrev pub Rises : ℕ → ℕ → Type 0
Rises old new = (old ≤ new) × Rose old new

-- only the count of file faults changed, and it rose
pub record FileFault (old new : FilesState) : Type 0 where
  pub same : new ≡ record old { file_faults = new.file_faults }
  pub rises : Rises old.file_faults new.file_faults

-- only the count of read faults changed, and it rose
pub record ReadFault (old new : FilesState) : Type 0 where
  pub same : new ≡ record old { read_faults = new.read_faults }
  pub rises : Rises old.read_faults new.read_faults

-- only the count of write faults changed, and it rose
pub record WriteFault (old new : FilesState) : Type 0 where
  pub same : new ≡ record old { write_faults = new.write_faults }
  pub rises : Rises old.write_faults new.write_faults

-- only the count of faults changed, and it rose
pub record SourceFault (old new : SourceState) : Type 0 where
  pub same : new ≡ record old { faults = new.faults }
  pub rises : Rises old.faults new.faults

-- only the rest of the file changed: it lost these bytes at its front
abbrev pub Reads : FilesState → FilesState → List ℕ → Type 0
Reads old new bytes = (new ≡ record old { left = new.left }) × Consumes old.left new.left bytes

-- only the rest of the source changed: it lost these bytes at its front
abbrev pub Gives : SourceState → SourceState → List ℕ → Type 0
Gives old new bytes = (new ≡ record old { left = new.left }) × Consumes old.left new.left bytes
