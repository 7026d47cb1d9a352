-- What only the proofs and the private functions of this crate speak of, beside `Halting`.
use Rattle.std.specs.Prelude.{◌≡◌, ℕ, ◌+◌, List}
use Rattle.texts.specs.Made.{Made}
use Rattle.backsim_io.specs.FilesInMemory.{SameMade}
use Rattle.session_meaning.specs.Broken.{IsPrefix}
use Rattle.session_loop.specs.declared.halt.JournalHalt.{JournalHalt}
use Rattle.session_loop.specs.declared.halt.JournalHalt.TheVariants.{Unmade, Stopped}
use Rattle.session_loop.specs.Halting.{Stands}

-- what stands where a journal isn't begun: nothing, or a part of its head
abbrev pub IsHeadHalted : List ℕ → List ℕ → (List Made → Type 0) → (List Made → Type 0) → ℕ → ℕ → JournalHalt → Type 0
IsHeadHalted name head made new_made files new_files Unmade = SameMade made new_made × (new_files ≡ files)
IsHeadHalted name head made new_made files new_files (Stopped stop) = (part : List ℕ) × IsPrefix part head × Stands name part made new_made × (new_files ≡ files + 1)
