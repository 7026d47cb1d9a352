-- What the lines of a file give.
use Rattle.std.specs.Prelude.{ℕ, ◌+◌, List, [], ◌∷◌, ◌++◌}

-- what each line gives by its number, of which the first is n, in the order of the lines
abbrev pub rows_from : {L X : Type 0} → (ℕ → L → List X) → ℕ → List L → List X
rows_from row_of n [] = []
rows_from row_of n (line ∷ more) = row_of n line ++ rows_from row_of (n + 1) more
