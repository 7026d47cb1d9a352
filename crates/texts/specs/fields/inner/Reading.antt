-- What only the proofs and the private functions of `fields` speak of, beside `Reading`.
use Rattle.std.specs.Prelude.{ℕ, ◌-◌, List, [], ◌∷◌, Option, Some, None, if◌then◌else◌}
use Rattle.std.specs.Char.{is_ascii_digit}

abbrev pub digit_at : List ℕ → Option (ℕ × List ℕ)
digit_at [] = None
digit_at (c ∷ text) = if is_ascii_digit c then Some (c - 48, text) else None
