-- What only the proofs and the private functions of this crate speak of, beside `Views`.
use Rattle.std.specs.Prelude.{ℕ, Bool, true, false, List, [], ◌∷◌, Option, Some, None}
use Rattle.std.specs.Borrow.{Bor}
use Rattle.bench_reader.specs.Lines.{is_the, closing}
use Rattle.bench_reader.specs.Views.{each_now}

-- the names that were read, where their list has ended
abbrev pub names_if : Bool → List (Bor (List ℕ)) → Option (List (List ℕ))
names_if true names = Some (each_now names)
names_if false names = None

-- `)` is the only token
abbrev pub is_close : List (List ℕ) → Bool
is_close [] = false
is_close (t ∷ []) = is_the closing t
is_close (t ∷ u ∷ more) = false
