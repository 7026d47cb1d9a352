-- Definitions for proofs and private functions, beside `FilesInMemory`.
use Rattle.std.specs.Prelude.{ℕ, List, Option, Some, None, [], map, slice_get, option_map, unwrap_or, Vec, ◌+◌, ◌≤◌, IfSome, vec_len, vec_capacity}
use Rattle.std.specs.Global.{Global}
use Rattle.texts.specs.Made.{Made}

-- the bytes of the file at this place; none if there is no file
abbrev pub bytes_at : List (List ℕ × Vec ℕ Global) → Option ℕ → List ℕ
bytes_at files None = []
bytes_at files (Some place) = unwrap_or (option_map (λ file. file.1.items) (slice_get files place)) []

-- named files, as created files
abbrev pub files_of : List (List ℕ × Vec ℕ Global) → List Made
files_of files = map (λ file. record { name = file.0; bytes = file.1.items }) files

-- the file at this place has memory for this many more bytes
abbrev pub HasRoomAt : List (List ℕ × Vec ℕ Global) → ℕ → ℕ → Type 0
HasRoomAt files slot more = IfSome (slice_get files slot) (λ file. vec_len file.1 + more ≤ vec_capacity file.1)
