-- What is seen of the outside at one time.
use Rattle.std.specs.Prelude.{◌≡◌, ℕ, List, Option}
use Rattle.texts.specs.Made.{Made}
use Rattle.backsim_io.specs.Counts.{Stays}
use Rattle.backsim_io.specs.FilesInMemory.{SameMade}
use Rattle.backsim_io.specs.State.{FilesState, SourceState}
use Rattle.session_loop.specs.Outside.{Outside, outside}

-- what the files, the script's source and the sink of the replies tell as values; what may have been
-- written to the sink; and what the files that were created may be
pub record Seen : Type 1 where
  pub outside : Outside
  pub written : List ℕ → Type 0
  pub made : List Made → Type 0

-- of these files, this source and this sink
abbrev pub seen_of : FilesState → (List Made → Type 0) → SourceState → (faults : ℕ) → (List ℕ → Type 0) → Seen
seen_of files made script faults written = record { outside = outside files faults script; written = written; made = made }

abbrev pub files_in : Seen → FilesState
files_in seen = seen.outside.outputs.files

-- the bytes under a name, where they are told
abbrev pub bytes_in : Seen → List ℕ → Option (List ℕ)
bytes_in seen name = (files_in seen).bytes name

-- the rest of the script, where it is told
abbrev pub left_in : Seen → Option (List ℕ)
left_in seen = seen.outside.script.left

-- how many files were created
abbrev pub created_in : Seen → ℕ
created_in seen = (files_in seen).created

-- nothing was replied, and the script and the created files are as they were
pub record IsUntouched (before after : Seen) : Type 0 where
  pub unread : left_in after ≡ left_in before
  pub unreplied : Stays before.written after.written
  pub same_files : SameMade before.made after.made
  pub no_file : created_in after ≡ created_in before
