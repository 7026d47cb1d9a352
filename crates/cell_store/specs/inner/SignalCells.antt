-- The cells of one signal: the place of each by its start, in the order of time.
use Rattle.std.specs.Prelude.{◌≡◌, ℕ, ◌<◌, ◌≤◌, Bool, true, false, List, length, Option, Some, None, IsSome}
use Rattle.std.specs.BTreeMap.{is_at}
use Rattle.std.specs.List.{AllWithin}
use Rattle.std.specs.List.Sorted.{IsStrictlySortedBy}
use Rattle.std.specs.Map.{keys_of, lookup}
use Rattle.std.specs.Ordering.{nat_cmp}
use Rattle.cell_store.specs.declared.index.Place.{Place}

-- the place of the cell that begins at this time
abbrev pub kept_at : List (ℕ × Place) → ℕ → Option Place
kept_at cells start = lookup (is_at (nat_cmp start)) cells

-- each cell begins before those behind it
abbrev pub AreInOrder : List (ℕ × Place) → Type 0
AreInOrder cells = IsStrictlySortedBy nat_cmp (keys_of cells)

-- the cells of the list, or of the map where they are many
abbrev pub few_or_many : Bool → List (ℕ × Place) → List (ℕ × Place) → List (ℕ × Place)
few_or_many true few many = many
few_or_many false few many = few

-- the first n cells begin no later than a time, and the others later
pub record HaveBegun (cells : List (ℕ × Place)) (time n : ℕ) : Type 0 where
  pub within : n ≤ length cells
  pub begun : AllWithin (λ e. e.0 ≤ time) cells 0 n
  pub later : AllWithin (λ e. time < e.0) cells n (length cells)

-- the last cell that begins no later than a time
pub record IsLastBegun (cells : List (ℕ × Place)) (time start : ℕ) (place : Place) : Type 0 where
  pub at : kept_at cells start ≡ Some place
  pub early : start ≤ time
  pub last : (t : ℕ) → t ≤ time → IsSome (kept_at cells t) → t ≤ start

-- none begins so early
abbrev pub NoneHasBegun : List (ℕ × Place) → ℕ → Type 0
NoneHasBegun cells time = (t : ℕ) → t ≤ time → kept_at cells t ≡ None
