-- Which signals are outputs.
use Rattle.std.specs.Prelude.{◌≡◌, ℕ, Bool, false, nat_eq, List, slice_index_or}
use Rattle.std.specs.List.{list_any}

-- the flags tell which numbers are among these
abbrev pub AreFlags : List ℕ → List Bool → Type 0
AreFlags numbers flags = (n : ℕ) → slice_index_or flags n false ≡ list_any (nat_eq n) numbers
