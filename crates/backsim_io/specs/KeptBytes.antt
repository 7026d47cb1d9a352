-- What an object with limited room keeps of its bytes.
use Rattle.std.specs.Prelude.{ℕ, List, ◌++◌, take}

-- the room in bytes, and the kept bytes
pub record KeptBytes : Type 0 where
  pub room : ℕ
  pub bytes : List ℕ

-- further bytes are kept while there is room
abbrev pub kept_more : KeptBytes → List ℕ → KeptBytes
kept_more kept more = record kept { bytes = take kept.room (kept.bytes ++ more) }
