-- How many points each query filled, under the query's number.
use Rattle.std.specs.Prelude.{◌≡◌, ℕ, ◌+◌, min, nat_eq, List, [], ◌∷◌, Option, Some, None, if◌then◌else◌}
use Rattle.std.specs.BTreeMap.{get}
use Rattle.std.specs.Ordering.{nat_cmp}
use Rattle.journal_meaning.specs.declared.Entry.{Entry}
use Rattle.journal_meaning.specs.Answers.{fill_count}
use Rattle.plan_core.specs.declared.asked.fill_counts.FillCounts.{FillCounts}

-- the count under a number
abbrev pub count_in : Option ℕ → ℕ
count_in None = 0
count_in (Some count) = count

-- how many points the query n filled, as it was counted
abbrev pub fills_in : FillCounts → ℕ → ℕ
fills_in counts n = if nat_eq n counts.number then min (count_in (get nat_cmp counts.by_query n) + counts.count) 4294967295 else count_in (get nat_cmp counts.by_query n)

-- what a fill for the query q adds to the count of the query n
abbrev pub one_more_for : ℕ → ℕ → ℕ
one_more_for q n = if nat_eq q n then 1 else 0

-- the fills among these entries are counted, at most 4,294,967,295 for each query
abbrev pub HasCounted : List Entry → FillCounts → Type 0
HasCounted es counts = (n : ℕ) → fills_in counts n ≡ min (fill_count es n) 4294967295

-- how many points the query n filled, as it was counted in parts
abbrev pub fills_in_all : List FillCounts → ℕ → ℕ
fills_in_all [] n = 0
fills_in_all (part ∷ parts) n = min (fills_in part n + fills_in_all parts n) 4294967295

-- the fills among these entries are counted in parts, at most 4,294,967,295 for each query
abbrev pub HaveCounted : List Entry → List FillCounts → Type 0
HaveCounted es parts = (n : ℕ) → fills_in_all parts n ≡ min (fill_count es n) 4294967295
