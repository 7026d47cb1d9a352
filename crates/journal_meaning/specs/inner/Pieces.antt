-- Definitions for proofs and private functions, beside `Pieces`.
use Rattle.std.specs.Prelude.{◌≡◌, ℕ, ◌+◌, ◌*◌, ◌/◌, ◌%◌, ◌≤◌, ◌<◌, if◌then◌else◌, [], ◌∷◌}
use Rattle.journal_meaning.specs.Pieces.{Start, next_cut}

-- a multiple of 65,536 in a piece is its start
abbrev pub IsUncut : Start → Type 0
IsUncut a = a.stop ≤ next_cut a.start
