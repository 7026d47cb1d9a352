-- What a crew left of the strands and journals of a batch, before settlement.
use Rattle.std.specs.Prelude.{◌≡◌, ◌≢◌, ℕ, ◌+◌, ◌<◌, Bool, true, List, length, sum, sum_by, Option, Some, None, slice_get, slice_index}
use Rattle.journal_meaning.specs.declared.Entry.{Entry}
use Rattle.journal_meaning.specs.Counts.{booked_count}
use Rattle.journal_meaning.specs.Grown.{AreAdded}
use Rattle.journal_meaning.specs.Pieces.{Start}
use Rattle.plan_machine.specs.Strands.{Strand, next}
use Rattle.plan_machine.specs.declared.strand.Next.TheVariants.{Done}
use Rattle.demand_points.specs.Demands.{Demand}

-- A strand with this start has ended. It is spent only at its full budget, and the count is the number of its claims and fills.
pub record IsEndOf (a : Start) (s : Strand) (count : ℕ) : Type 0 where
  pub query : s.query ≡ a.query
  pub budget : s.budget ≡ a.budget
  pub ended : next s ≡ Done
  pub spent : s.spent ≡ true → s.charged ≡ s.budget
  pub amount : count ≡ s.charged + s.filled

-- A crew ran a strand for each piece, and left journals to which settlement added entries. The counts of the strands add up to the claims
-- and fills in the crew's journals. Each strand that came back has ended, with its count. With an open gate all came back.
pub record HasCrewed (pieces : List Start) (is_open : Bool) (lists : List (List Entry)) : Type 0 where
  pub left : List (List Entry)
  pub added : List Entry
  pub journals : AreAdded left added lists
  pub counts : List ℕ
  pub strands : List (Option Demand)
  pub counted : sum counts ≡ sum_by booked_count left
  pub places : length strands ≡ length pieces
  pub amounts : length counts ≡ length pieces
  pub ends : (i : ℕ) (a : Start) (s : Demand) → slice_get pieces i ≡ Some a → slice_get strands i ≡ Some (Some s) → IsEndOf a s.strand (slice_index counts i)
  pub all : is_open ≡ true → (i : ℕ) → i < length pieces → slice_get strands i ≢ Some None
