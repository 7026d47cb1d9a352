use Rattle.std.specs.Prelude.{ℕ, zero, suc, Bool, true, false, List, [], ◌∷◌, map, Option, Some, None, IsSome, if◌then◌else◌}
use Rattle.std.specs.Ordering.{is_gt}
use Rattle.std.specs.BTreeMap.{is_at}
use Rattle.std.specs.List.Sorted.{IsStrictlySortedBy}
use Rattle.std.specs.Map.{keys_of, lookup}
use Rattle.claim_waiters.specs.Claims.{Claims}
use Rattle.valid_intervals.specs.declared.Point.{Point}
use Rattle.valid_intervals.specs.Cells.{point_cmp}

-- the value at a point
abbrev pub at : {X : Type 0} → List (Point × X) → Point → Option X
at es p = lookup (is_at (point_cmp p)) es

-- how many points of a list stand before the point, up to the first that does not
abbrev pub place_in : {X : Type 0} → List (Point × X) → Point → ℕ
place_in [] p = zero
place_in (e ∷ es) p = if is_gt (point_cmp p e.0) then suc (place_in es p) else zero

-- the claims of the list, or of the map where they are many
abbrev pub held_in : Bool → List (Point × ℕ) → List (Point × ℕ) → List (Point × ℕ)
held_in true few many = many
held_in false few many = few

-- the points are in order, and each that has a room is claimed
abbrev pub IsClaimTable : {R : Type 0} → List (Point × ℕ) → List (Point × R) → Type 0
IsClaimTable holders rooms = IsStrictlySortedBy point_cmp (keys_of holders) × ((p : Point) → IsSome (at rooms p) → IsSome (at holders p))

-- the waiters in a room; none if there is no room
abbrev pub those_in : {W R : Type 0} → (R → List W) → Option R → List W
those_in items None = []
those_in items (Some room) = items room

-- the claims, where those that wait at each point are known
abbrev pub claims_with : {W : Type 0} → (Point → List W) → List (Point × ℕ) → Claims W
claims_with waiting holders = map (λ e. (e.0, record { q = e.1; waiters = waiting e.0 })) holders

abbrev pub claims_of : {W R : Type 0} → (R → List W) → List (Point × ℕ) → List (Point × R) → Claims W
claims_of items holders rooms = claims_with (λ p. those_in items (at rooms p)) holders
