-- How a session ends that stopped, and what is written of it.
use Rattle.std.specs.Prelude.{ℕ, ◌≡◌, ◌⊎◌, List}
use Rattle.backsim_io.specs.Counts.{Rose, Grows, GrowsByPrefix, Stays}
use Rattle.session_loop.specs.declared.halt.Halt.{Halt}
use Rattle.session_loop.specs.declared.halt.Halt.TheVariants.{JournalUnmade, Unbegun, Stopped, JournalUnfinished}
use Rattle.session_loop.specs.declared.stop.ScriptStop.TheVariants.{Unread, TooLong, Unit}
use Rattle.circuit_files.specs.Texts.{refusal_text}
use Rattle.circuit_files.specs.declared.stop.FilesStop.{FilesStop}
use Rattle.circuit_files.specs.declared.stop.FilesStop.TheVariants as files
use Rattle.backsim.specs.Texts.{too_long}
use Rattle.backsim.specs.declared.status.Input.TheVariants as inputs
use Rattle.backsim.specs.declared.status.Output.TheVariants as outputs
use Rattle.backsim.specs.declared.status.NamedFile.TheVariants as named
use Rattle.backsim.specs.declared.status.Status.{Status}
use Rattle.backsim.specs.declared.status.Status.TheVariants.{Refused, ReadFault, WriteFault, FileFault, OutOfMemory}
use Rattle.backsim.specs.inner.Statuses.{of_journal, of_unit}

-- A text was written, which this status tells of, or not wholly, or there was no memory to make it.
abbrev pub Tells : List ℕ → Status → ℕ → (List ℕ → Type 0) → ℕ → (List ℕ → Type 0) → Status → Type 0
Tells text told faults out new_faults new_out status =
    ((status ≡ told) × (new_faults ≡ faults) × Grows out new_out text)
    ⊎ (((status ≡ WriteFault outputs.Replies) × Rose faults new_faults × GrowsByPrefix out new_out text)
    ⊎ ((status ≡ OutOfMemory) × (new_faults ≡ faults) × Stays out new_out))

-- the status tells of it, and nothing was written
abbrev pub EndsAs : Status → ℕ → (List ℕ → Type 0) → ℕ → (List ℕ → Type 0) → Status → Type 0
EndsAs met faults out new_faults new_out status = (status ≡ met) × (new_faults ≡ faults) × Stays out new_out

-- the files make no design
abbrev pub EndsByFiles : FilesStop → ℕ → (List ℕ → Type 0) → ℕ → (List ℕ → Type 0) → Status → Type 0
EndsByFiles (files.Refused refusal) = Tells (refusal_text refusal) Refused
EndsByFiles (files.NotOpened file) = EndsAs (FileFault (named.Circuit file))
EndsByFiles (files.Unread file) = EndsAs (ReadFault (inputs.Circuit file))
EndsByFiles files.OutOfMemory = EndsAs OutOfMemory

-- the session's loop halted
abbrev pub EndsByHalt : Halt → ℕ → (List ℕ → Type 0) → ℕ → (List ℕ → Type 0) → Status → Type 0
EndsByHalt JournalUnmade = EndsAs (FileFault named.Journal)
EndsByHalt (Unbegun stop) = EndsAs (of_journal stop)
EndsByHalt (Stopped Unread) = EndsAs (ReadFault inputs.Script)
EndsByHalt (Stopped TooLong) = Tells too_long Refused
EndsByHalt (Stopped (Unit stop)) = EndsAs (of_unit stop)
EndsByHalt JournalUnfinished = EndsAs (FileFault named.Journal)
