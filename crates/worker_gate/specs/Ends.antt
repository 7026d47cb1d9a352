-- Strands that have ended, at their places.
use Rattle.std.specs.Prelude.{◌≡◌, ◌≢◌, ℕ, ◌+◌, ◌<◌, true, false, List, [], length, sum_by, Option, Some, None, slice_get, slice_index}
use Rattle.demand_points.specs.declared.strand.Task.{Task}
use Rattle.demand_points.specs.Demands.{Demand}
use Rattle.plan_machine.specs.Strands.{next}
use Rattle.plan_machine.specs.declared.strand.Next.TheVariants.{Done}
use Rattle.plan_core.specs.InTurn.{made_by, task_of}

-- The strand has ended, with this number and this task; it is spent only at its full budget, and it has claimed and filled so often.
abbrev pub IsEnd : Demand → ℕ → Task → ℕ → Type 0
IsEnd s number task count = (next s.strand ≡ Done) × (s.number ≡ number) × (task_of s ≡ task) × (s.strand.spent ≡ true → s.strand.charged ≡ s.strand.budget) × (count ≡ made_by s)

-- each place is empty, or has such a strand
abbrev pub AreEnds : List (Option Demand) → List Task → List ℕ → Type 0
AreEnds places tasks counts = (i : ℕ) (s : Demand) (t : Task) → slice_get places i ≡ Some (Some s) → slice_get tasks i ≡ Some t → IsEnd s i t (slice_index counts i)

-- what the board knows of it, which is all but the count
abbrev pub HasEnded : Demand → ℕ → Task → Type 0
HasEnded s number task = (next s.strand ≡ Done) × (s.number ≡ number) × (task_of s ≡ task) × (s.strand.spent ≡ true → s.strand.charged ≡ s.strand.budget)

-- each place is empty, or has a strand of which this is known
abbrev pub HaveEnded : List (Option Demand) → List Task → Type 0
HaveEnded places tasks = (i : ℕ) (s : Demand) (t : Task) → slice_get places i ≡ Some (Some s) → slice_get tasks i ≡ Some t → HasEnded s i t

-- each strand at its place has claimed and filled as often as its count says
abbrev pub AreCounted : List (Option Demand) → List ℕ → Type 0
AreCounted places counts = (i : ℕ) (s : Demand) → slice_get places i ≡ Some (Some s) → slice_index counts i ≡ made_by s

abbrev pub one_if_empty : Option Demand → ℕ
one_if_empty None = 1
one_if_empty (Some s) = 0

-- how many places are empty
abbrev pub empty_in : List (Option Demand) → ℕ
empty_in places = sum_by one_if_empty places

-- no place is empty
abbrev pub AreFilled : List (Option Demand) → Type 0
AreFilled places = (i : ℕ) → i < length places → slice_get places i ≢ Some None

-- The strand has this number, has neither claimed nor filled a point, and was refused none.
pub record IsNew (n : ℕ) (s : Demand) : Type 0 where
  pub number : s.number ≡ n
  pub charged : s.strand.charged ≡ 0
  pub free : s.strand.stack ≡ []
  pub filled : s.strand.filled ≡ 0
  pub unspent : s.strand.spent ≡ false

abbrev pub AreNew : List Demand → Type 0
AreNew strands = (i : ℕ) (s : Demand) → slice_get strands i ≡ Some s → IsNew i s

-- each strand has the number of its place
abbrev pub AreNumbered : List Demand → Type 0
AreNumbered strands = (i : ℕ) (s : Demand) → slice_get strands i ≡ Some s → s.number ≡ i

-- the same of the strand at a place
abbrev pub booked_at : Option Demand → ℕ
booked_at None = 0
booked_at (Some s) = made_by s
