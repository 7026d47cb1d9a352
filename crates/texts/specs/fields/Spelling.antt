-- How a number is written.
use Rattle.std.specs.Prelude.{ℕ, ◌<◌, ◌^◌, List, ◌∷◌, decimal}

-- a number after a blank, with no leading zero
abbrev pub field : ℕ → List ℕ
field n = 32 ∷ decimal n

-- at most 4,294,967,295
abbrev pub IsNumber : ℕ → Type 0
IsNumber n = n < 2 ^ 32
