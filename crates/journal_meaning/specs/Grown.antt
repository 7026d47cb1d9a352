-- Journals that grow: what the entries of a batch say, count and name after more of them are recorded.
use Rattle.std.specs.Prelude.{◌≡◌, ◌≢◌, ◌++◌, ◌+◌, ◌%◌, ◌<◌, ◌≤◌, ◌⊎◌, ℕ, Bool, nat_eq, false, List, [], length, slice_index_or, Contains}
use Rattle.std.specs.Option.{option_or}
use Rattle.valid_intervals.specs.declared.Point.{Point}
use Rattle.journal_meaning.specs.declared.Entry.{Entry}
use Rattle.journal_meaning.specs.declared.Entry.TheVariants.{Told, Claimed, Filled, Evicted, Dropped, Spent}
use Rattle.journal_meaning.specs.Answers.{Says, last_of}
use Rattle.journal_meaning.specs.Sections.{of_batch}
use Rattle.journal_meaning.specs.Counts.{count}

-- an entry says the cell of the point
abbrev pub IsSaid : List Entry → Point → Type 0
IsSaid es p = (e : Entry) × Contains es e × Says p e

-- the entry is for the query with this number, or is an eviction, which is for none
abbrev pub IsFor : ℕ → Entry → Type 0
IsFor q (Told r p x) = r ≡ q
IsFor q (Claimed r p) = r ≡ q
IsFor q (Filled r p x) = r ≡ q
IsFor q (Evicted signal start) = Unit {0}
IsFor q (Dropped r p) = r ≡ q
IsFor q (Spent r p claims) = r ≡ q

abbrev pub is_spent_of : ℕ → Entry → Bool
is_spent_of number (Spent q p claims) = nat_eq q number
is_spent_of number e = false

-- how often the query was refused
abbrev pub refusals : List Entry → ℕ → ℕ
refusals es q = count (is_spent_of q) es

-- The new entries are the old ones and the added ones. If a query has an added entry at a point, its last entry there is an added
-- one.
pub record GrowsBy (old added new : List Entry) : Type 0 where
  pub old_stay : (e : Entry) → Contains old e → Contains new e
  pub now : (e : Entry) → Contains added e → Contains new e
  pub only : (e : Entry) → Contains new e → Contains old e ⊎ Contains added e
  pub counts : (test : Entry → Bool) → count test new ≡ count test old + count test added
  pub last : (q : ℕ) (p : Point) → last_of new q p ≡ option_or (last_of added q p) (last_of old q p)

-- the new entries are the old ones, followed by some of the added entries
pub record IsLonger (old added new : List Entry) : Type 0 where
  pub more : List Entry
  pub longer : new ≡ old ++ more
  pub from : (e : Entry) → Contains more e → Contains added e

-- The journals of all shards after entries were added in this order, each at the end of its shard's list.
pub record AreAdded (old : List (List Entry)) (added : List Entry) (new : List (List Entry)) : Type 0 where
  pub shards : length new ≡ length old
  pub lists : (k : ℕ) → IsLonger (slice_index_or old k []) added (slice_index_or new k [])
  pub together : GrowsBy (of_batch old) added (of_batch new)
