-- How a file begins that may be replaced.
use Rattle.std.specs.Prelude.{◌≡◌, ◌⊎◌, ℕ, List, [], take, length}

-- there are no bytes, or they begin with these
abbrev pub IsEmptyOr : List ℕ → List ℕ → Type 0
IsEmptyOr head bytes = (bytes ≡ []) ⊎ (take (length head) bytes ≡ head)
