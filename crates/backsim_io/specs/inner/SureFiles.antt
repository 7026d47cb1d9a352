-- Definitions for proofs and private functions, beside `SureFiles`.
use Rattle.std.specs.Prelude.{ℕ, ◌≡◌, List, [], take}
use Rattle.texts.specs.Made.{Made}
use Rattle.backsim_io.specs.KeptBytes.{KeptBytes}

-- the first 255 bytes of a file's name, and the first bytes of the file that the room allows
abbrev pub front_of : ℕ → Made → Made
front_of room file = record { name = take 255 file.name; bytes = take room file.bytes }

-- the kept part of a created file
pub record KeptFile : Type 0 where
  pub name : List ℕ
  pub bytes : KeptBytes

-- the kept part, as a file
abbrev pub kept_file : KeptFile → Made
kept_file file = record { name = file.name; bytes = file.bytes.bytes }

-- room for a file, still empty
abbrev pub IsBlank : ℕ → KeptFile → Type 0
IsBlank room file = (file.name ≡ []) × (file.bytes.room ≡ room) × (file.bytes.bytes ≡ [])
