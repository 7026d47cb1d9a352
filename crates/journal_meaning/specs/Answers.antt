-- When a query is closed, when its budget is spent, and what its answer is.
use Rattle.std.specs.Prelude.{◌≡◌, ℕ, ◌+◌, ◌≤◌, Bool, ◌&&◌, true, false, nat_eq, List, [], ◌∷◌, length, filter, Contains, All, AllPairs, ◌≢◌, ◌⊎◌, Option, Some, None, if◌then◌else◌}
use Rattle.std.specs.Option.{option_or}
use Rattle.valid_intervals.specs.declared.Cell.{Cell}
use Rattle.valid_intervals.specs.declared.Point.{Point}
use Rattle.circuit_meaning.specs.Circuit.{Circuit}
use Rattle.circuit_meaning.specs.Forward.{wave}
use Rattle.circuit_meaning.specs.declared.Run.{Run}
use Rattle.circuit_meaning.specs.Need.{IsRoot, IsEvaluable, children}
use Rattle.journal_meaning.specs.declared.batch.Query.{Query}
use Rattle.journal_meaning.specs.declared.Entry.{Entry}
use Rattle.journal_meaning.specs.declared.Entry.TheVariants.{Told, Claimed, Filled, Evicted, Dropped, Spent}
use Rattle.valid_intervals.specs.Cells.{same_point, covers, cell_for}
use Rattle.journal_meaning.specs.Batches.{window_of}

-- the entry says the cell of the point
abbrev pub Says : Point → Entry → Type 0
Says p (Told q x cell) = covers p (cell_for x cell) ≡ true
Says p (Filled q x cell) = covers p (cell_for x cell) ≡ true
Says p e = ⊥

-- the point has a base answer, or an entry says its cell
abbrev pub IsCovered : Circuit → List Entry → Point → Type 0
IsCovered c es p = (IsEvaluable c p.signal p.time → ⊥) ⊎ ((e : Entry) × Contains es e × Says p e)

-- the children of each point that the query evaluated are covered
abbrev pub ChildrenCovered : Circuit → List Entry → ℕ → Type 0
ChildrenCovered c es q = (p : Point) (x : Cell) → Contains es (Filled q p x) → All (IsCovered c es) (children c p.signal p.time)

pub record IsClosed (c : Circuit) (es : List Entry) (q : Query) : Type 0 where
  pub roots : (t : ℕ) → IsRoot c (window_of q) t → IsCovered c es (record { signal = q.signal; time = t })
  pub children : ChildrenCovered c es q.number

-- whether the entry is one of this query at this point
abbrev pub is_of : ℕ → Point → Entry → Bool
is_of number p (Told q x cell) = nat_eq q number && same_point p x
is_of number p (Claimed q x) = nat_eq q number && same_point p x
is_of number p (Filled q x cell) = nat_eq q number && same_point p x
is_of number p (Evicted signal start) = false
is_of number p (Dropped q x) = nat_eq q number && same_point p x
is_of number p (Spent q x claims) = nat_eq q number && same_point p x

-- the last entry of this query at this point
abbrev pub last_of : List Entry → ℕ → Point → Option Entry
last_of [] q p = None
last_of (e ∷ es) q p = option_or (last_of es q p) (if is_of q p e then Some e else None)

abbrev pub is_fill_of : ℕ → Entry → Bool
is_fill_of number (Filled q p x) = nat_eq q number
is_fill_of number e = false

abbrev pub fill_count : List Entry → ℕ → ℕ
fill_count es q = length (filter (is_fill_of q) es)

-- Why a query is refused: it was refused a point while it held a number of claims (`claims`). Its evaluations and these claims are at least
-- its budget (`budget`). Later it gave up at least as many different points (`enough`).
pub record IsSpent (es : List Entry) (q : Query) : Type 0 where
  pub point : Point
  pub claims : ℕ
  pub last : last_of es q.number point ≡ Some (Spent q.number point claims)
  pub given_up : List Point
  pub different : AllPairs (λ a b. a ≢ b) given_up
  pub dropped : All (λ p. last_of es q.number p ≡ Some (Dropped q.number p)) given_up
  pub enough : claims ≤ length given_up
  pub budget : q.budget ≤ fill_count es q.number + claims

-- the answer to a query, over the entries of its batch: its wave, or none if its budget was spent
abbrev pub IsAnswer : Circuit → List Entry → Query → Option (List Run) → Type 0
IsAnswer c es q (Some runs) = (runs ≡ wave c q.signal q.from q.to) × IsClosed c es q
IsAnswer c es q None = IsSpent es q
