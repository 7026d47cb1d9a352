-- The points that each query filled, under the query's number.
use Rattle.std.specs.Prelude.{ℕ, nat_eq, List, [], ◌∷◌, Option, Some, None, if◌then◌else◌}
use Rattle.std.specs.Global.{Vec}
use Rattle.valid_intervals.specs.declared.Point.{Point}

-- the points under a number
abbrev pub points_in : Option (Vec Point) → List Point
points_in None = []
points_in (Some points) = points.items

-- what a point that the query q filled adds to the points under the number n
abbrev pub added_for : ℕ → Point → ℕ → List Point
added_for q p n = if nat_eq q n then p ∷ [] else []
