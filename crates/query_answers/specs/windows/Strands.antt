-- Strands in order.
use Rattle.std.specs.Prelude.{◌≡◌, ℕ, ◌<◌, List, length, slice_index_or}
use Rattle.demand_points.specs.Demands.{Demand}

-- the strand at each place has its number
abbrev pub IsInOrder : List Demand → Type 0
IsInOrder xs = (n : ℕ) (d : Demand) → n < length xs → (slice_index_or xs n d).number ≡ n
