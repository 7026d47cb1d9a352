-- A walk from signal to signal: which signals are marked, which of them are still to be visited, and which signals read which.
use Rattle.std.specs.Prelude.{◌≡◌, ℕ, ◌+◌, ◌<◌, Bool, false, not, ◌&&◌, ◌||◌, nat_eq, nat_lt, List, [], length, slice_index_or, count_by, All}
use Rattle.std.specs.List.{list_any}
use Rattle.circuit_meaning.specs.Circuit.{Circuit, driver, read_by}

abbrev pub has : List ℕ → ℕ → Bool
has signals x = list_any (nat_eq x) signals

abbrev pub is_marked : List Bool → ℕ → Bool
is_marked marks x = slice_index_or marks x false

-- These signals are marked, and those that were not are to be visited.
pub record Marks (signals : List ℕ) (marks marks' : List Bool) (ahead ahead' : List ℕ) : Type 0 where
  pub long : length marks' ≡ length marks
  pub marked : (x : ℕ) → is_marked marks' x ≡ (is_marked marks x || has signals x)
  pub waits : (x : ℕ) → has ahead' x ≡ (has ahead x || has signals x && not (is_marked marks x))
  pub fewer : count_by not marks' + length ahead' ≡ count_by not marks + length ahead

-- the list at a place
abbrev pub list_at : List (List ℕ) → ℕ → List ℕ
list_at lists u = slice_index_or lists u []

-- The reader is added to the lists of these signals.
pub record AddsReader (reader : ℕ) (reads : List ℕ) (lists lists' : List (List ℕ)) : Type 0 where
  pub long : length lists' ≡ length lists
  pub each : (u x : ℕ) → u < length lists → has (list_at lists' u) x ≡ (has (list_at lists u) x || nat_eq x reader && has reads u)

-- Each signal has a list of its readers among the first n signals.
pub record HaveReaders (c : Circuit) (n : ℕ) (lists : List (List ℕ)) : Type 0 where
  pub long : length lists ≡ length c.drivers
  pub each : (u x : ℕ) → u < length c.drivers → has (list_at lists u) x ≡ (nat_lt x n && has (read_by (driver c x)) u)

-- each signal has a list of all its readers
pub record AreReaders (c : Circuit) (lists : List (List ℕ)) : Type 0 where
  pub long : length lists ≡ length c.drivers
  pub each : (u x : ℕ) → u < length c.drivers → has (list_at lists u) x ≡ has (read_by (driver c x)) u

-- These are the readers of the signal u.
pub record ReadIt (c : Circuit) (u : ℕ) (readers : List ℕ) : Type 0 where
  pub each : (x : ℕ) → has readers x ≡ has (read_by (driver c x)) u
  pub within : All (λ x. x < length c.drivers) readers
