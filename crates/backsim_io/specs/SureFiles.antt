-- Created files, of which only the first bytes are kept.
use Rattle.std.specs.Prelude.{ℕ, List, [], Option, Some, unwrap_or, Vec}
use Rattle.std.specs.Global.{Global}
use Rattle.backsim_io.specs.FilesInMemory.{bytes_under}

-- the bytes under a name; a name that is not listed has an empty file
abbrev pub bytes_or_empty : List (List ℕ × Vec ℕ Global) → List ℕ → Option (List ℕ)
bytes_or_empty files name = Some (unwrap_or (bytes_under files name) [])
