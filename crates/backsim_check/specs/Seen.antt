-- What is seen of the outside at one time.
use Rattle.std.specs.Prelude.{ℕ, List}
use Rattle.texts.specs.Made.{Made}
use Rattle.backsim_io.specs.State.{FilesState}

-- what may have been written to the sink, and how often it failed
pub record Output : Type 1 where
  pub written : List ℕ → Type 0
  pub faults : ℕ

abbrev pub output_of : (List ℕ → Type 0) → ℕ → Output
output_of written faults = record { written = written; faults = faults }

-- the same, what the files tell as values, and what those that were created may be
pub record Seen : Type 1 where
  pub files : FilesState
  pub made : List Made → Type 0
  pub out : Output

abbrev pub seen_of : FilesState → (List Made → Type 0) → (List ℕ → Type 0) → ℕ → Seen
seen_of files made written faults = record { files = files; made = made; out = output_of written faults }
