-- What only the proofs and the private functions of this crate speak of, beside `Work`.
use Rattle.std.specs.Prelude.{◌≡◌, ◌⊎◌, ℕ, List, Result, Ok, Err}
use Rattle.backsim_io.specs.Counts.{Rose, Grows, GrowsByPrefix, Stays}
use Rattle.backsim_io.specs.FilesInMemory.{list_without}
use Rattle.backsim_io.specs.State.{FilesState, FileFault}
use Rattle.backsim.specs.declared.work.LineStop.{LineStop}
use Rattle.backsim.specs.declared.work.LineStop.TheVariants.{Unwritten, OutOfMemory}
use Rattle.backsim.specs.declared.status.Output.TheVariants as outputs
use Rattle.backsim.specs.declared.status.NamedFile.TheVariants as named
use Rattle.backsim.specs.declared.status.Status.{Status}
use Rattle.backsim.specs.declared.status.Status.TheVariants as statuses

abbrev pub of_line : LineStop → Status
of_line Unwritten = statuses.WriteFault outputs.Replies
of_line OutOfMemory = statuses.OutOfMemory

-- the line was not written, or not wholly
abbrev pub IsLineCut : List ℕ → LineStop → ℕ → (List ℕ → Type 0) → ℕ → (List ℕ → Type 0) → Type 0
IsLineCut line Unwritten faults out new_faults new_out = Rose faults new_faults × GrowsByPrefix out new_out line
IsLineCut line OutOfMemory faults out new_faults new_out = (new_faults ≡ faults) × Stays out new_out

-- what was written of it, by the outcome
abbrev pub IsLineTold : {A : Type 0} → List ℕ → Result A LineStop → ℕ → (List ℕ → Type 0) → ℕ → (List ℕ → Type 0) → Type 0
IsLineTold line (Ok done) faults out new_faults new_out = (new_faults ≡ faults) × Grows out new_out line
IsLineTold line (Err stop) faults out new_faults new_out = IsLineCut line stop faults out new_faults new_out

-- The journal was finished, or it could not be.
abbrev pub EndsJournal : FilesState → FilesState → Status → Type 0
EndsJournal old new status =
    ((status ≡ statuses.Ended) × (new ≡ record old { unfinished = list_without old.unfinished 0 }))
    ⊎ ((status ≡ statuses.FileFault named.Journal) × FileFault old new)

-- How a run ends whose batch was answered: its line was not written, or not wholly; or it was, and then the journal ends.
abbrev pub EndsWork : List ℕ → FilesState → FilesState → ℕ → (List ℕ → Type 0) → ℕ → (List ℕ → Type 0) → Status → Type 0
EndsWork line old new faults out new_faults new_out status =
    ((stop : LineStop) × (status ≡ of_line stop) × (new ≡ old) × IsLineCut line stop faults out new_faults new_out)
    ⊎ ((new_faults ≡ faults) × Grows out new_out line × EndsJournal old new status)
