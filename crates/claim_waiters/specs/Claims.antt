-- A table of claims: the claimed points in order, each with its query and its waiters.
use Rattle.std.specs.Prelude.{ℕ, ◌≡◌, ◌<◌, ◌≤◌, ◌⊎◌, Bool, List, [], ◌∷◌, ◌++◌, Option, Some, None, option_map, if◌then◌else◌}
use Rattle.std.specs.BTreeMap.{insert_entry, is_at}
use Rattle.std.specs.List.Sorted.{IsStrictlySortedBy}
use Rattle.std.specs.Map.{keys_of, lookup, remove_entry}
use Rattle.valid_intervals.specs.declared.Point.{Point}
use Rattle.valid_intervals.specs.Cells.{point_cmp}

pub record WaitedClaim (W : Type 0) : Type 0 where
  pub q : ℕ
  pub waiters : List W

abbrev pub Claims : Type 0 → Type 0
Claims W = List (Point × WaitedClaim W)

-- a has a lower signal, or the same signal and no later time
abbrev pub IsAtMost : Point → Point → Type 0
IsAtMost a b = (a.signal < b.signal) ⊎ ((a.signal ≡ b.signal) × (a.time ≤ b.time))

module _ {W : Type 0} where
  -- each claimed point comes before all later ones, so none is claimed twice
  abbrev pub IsInOrder : Claims W → Type 0
  IsInOrder claims = IsStrictlySortedBy point_cmp (keys_of claims)

  -- the claim of a point
  abbrev pub claim_at : Claims W → Point → Option (WaitedClaim W)
  claim_at claims p = lookup (is_at (point_cmp p)) claims

  abbrev pub holder_in : Claims W → Point → Option ℕ
  holder_in claims p = option_map (λ c. c.q) (claim_at claims p)

  abbrev pub waiters_of : Claims W → Point → Option (List W)
  waiters_of claims p = option_map (λ c. c.waiters) (claim_at claims p)

  -- the waiters at a point; none if it is not claimed
  abbrev pub waiting_in : Option (WaitedClaim W) → List W
  waiting_in None = []
  waiting_in (Some c) = c.waiters

  abbrev pub waiters_at : Claims W → Point → List W
  waiters_at claims p = waiting_in (claim_at claims p)

  -- the first claimed point, with its query
  abbrev pub first_of : Claims W → Option (ℕ × Point)
  first_of [] = None
  first_of (e ∷ claims) = Some (e.1.q, e.0)

  -- a claim without waiters is added, at its place in the order
  abbrev pub with_claim : Claims W → ℕ → Point → Claims W
  with_claim claims q p = insert_entry point_cmp claims p (record { q = q; waiters = [] })

  abbrev pub without_claim : Claims W → Point → Claims W
  without_claim claims p = remove_entry (is_at (point_cmp p)) claims

  -- a waiter is appended to the claim whose point passes the test
  abbrev pub add_waiter : (Point → Bool) → Claims W → W → Claims W
  add_waiter test [] w = []
  add_waiter test (e ∷ claims) w = if test e.0 then (e.0, record { q = e.1.q; waiters = e.1.waiters ++ w ∷ [] }) ∷ claims else (e ∷ add_waiter test claims w)

  abbrev pub with_waiter : Claims W → Point → W → Claims W
  with_waiter claims p w = add_waiter (is_at (point_cmp p)) claims w
