-- Two places that texts are written to: a sink, and a created file.
use Rattle.std.specs.Prelude.{◌≡◌, ℕ, ◌⊎◌, List, [], ◌∷◌, ◌++◌, length, codes}
use Rattle.texts.specs.fields.Spelling.{field}
use Rattle.journal_text.specs.Spelling.{line_feed}
use Rattle.backsim_io.specs.Counts.{Grows}
use Rattle.texts.specs.Made.{Made}
use Rattle.backsim_io.specs.FilesInMemory.{FileGrows}
use Rattle.session_meaning.specs.Broken.{IsPrefix}
use Rattle.session_loop.specs.Halting.{session_files}

-- the bytes taken so far went on as a text did
abbrev pub GoesOn : (List ℕ → Type 0) → (List ℕ → Type 0) → List ℕ → List ℕ → Type 0
GoesOn old new before after = (more : List ℕ) × (after ≡ before ++ more) × Grows old new more

-- the files of a session went on: its journal, whatever its name, and its dumps
abbrev pub FilesGoOn : (List Made → Type 0) → (List Made → Type 0) → List ℕ → List Made → List ℕ → List Made → Type 0
FilesGoOn old new journal dumps later_journal later_dumps = (name : List ℕ) → old (session_files name journal dumps) → new (session_files name later_journal later_dumps)

-- whatever so many files were created before, these were created after them
abbrev pub Adds : (List Made → Type 0) → (List Made → Type 0) → ℕ → List Made → Type 0
Adds old new count more = (before : List Made) → length before ≡ count → old before → new (before ++ more)

-- of a dump nothing was created, or a file with a part of its text
abbrev pub IsDumpPart : List ℕ → List ℕ → List Made → Type 0
IsDumpPart name text more = (more ≡ []) ⊎ ((part : List ℕ) × IsPrefix part text × (more ≡ record { name = name; bytes = part } ∷ []))

-- a part at the front of a text was written
abbrev pub GrowsPart : (List ℕ → Type 0) → (List ℕ → Type 0) → List ℕ → Type 0
GrowsPart old new whole = (part : List ℕ) × IsPrefix part whole × Grows old new part

abbrev pub FileGrowsPart : (List Made → Type 0) → (List Made → Type 0) → ℕ → List ℕ → Type 0
FileGrowsPart old new slot whole = (part : List ℕ) × IsPrefix part whole × FileGrows old new slot part

-- A text comes after what was kept back. The first part of both grew what is written, and the rest is kept back.
pub record KeepsBack (Growth : List ℕ → Type 0) (before more after : List ℕ) : Type 0 where
  pub written : List ℕ
  pub grows : Growth written
  pub same : written ++ after ≡ before ++ more

-- the line of a shard
abbrev pub shard_line : ℕ → List ℕ
shard_line number = codes "shard" ++ (field number ++ line_feed)
