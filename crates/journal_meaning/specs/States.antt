-- The state of one shard of the memo.
use Rattle.std.specs.Prelude.{◌≡◌, ℕ, Bool, false, not, List, [], ◌∷◌, ◌++◌, filter, find, Option, option_map}
use Rattle.std.specs.List.{list_any}
use Rattle.valid_intervals.specs.declared.Point.{Point}
use Rattle.valid_intervals.specs.declared.SignalCell.{SignalCell}
use Rattle.valid_intervals.specs.Cells.{same_point, covers, all_but_last}

-- a point that the query with this number is evaluating
pub record Claim : Type 0 where
  pub query : ℕ
  pub point : Point

-- the stored cells, the most recent first; the claims, the latest first; whether an eviction just made place
pub record State : Type 0 where
  pub cells : List SignalCell
  pub claims : List Claim
  pub made : Bool

-- the state at the start of a section
abbrev pub fresh : List SignalCell → State
fresh cells = record { cells = cells; claims = []; made = false }

-- whether a stored cell covers the point
abbrev pub is_covered : State → Point → Bool
is_covered s p = list_any (covers p) s.cells

-- the number of the query that has claimed the point
abbrev pub holder : List Claim → Point → Option ℕ
holder claims p = option_map (λ c. c.query) (find (λ c. same_point p c.point) claims)

-- all claims except that of the point
abbrev pub without_point : List Claim → Point → List Claim
without_point claims p = filter (λ c. not (same_point p c.point)) claims

-- the least recent of the cells has this signal and start
abbrev pub IsLeastRecent : List SignalCell → ℕ → ℕ → Type 0
IsLeastRecent cells signal start = (x : SignalCell) × (cells ≡ all_but_last cells ++ x ∷ []) × (x.signal ≡ signal) × (x.cell.span.start ≡ start)
