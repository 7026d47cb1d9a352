-- Laws of the journal.
use Rattle.std.specs.Prelude.{◌≡◌, ℕ, ◌+◌, ◌≤◌, ◌<◌, List, [], ◌∷◌, ◌++◌, length, All, AllPairs, Contains, ◌≢◌, ◌⊎◌, slice_index_or, Option, Some}
use Rattle.valid_intervals.specs.declared.Point.{Point}
use Rattle.circuit_meaning.specs.Circuit.{Circuit, IsCircuit}
use Rattle.valid_intervals.specs.declared.Cell.{Cell}
use Rattle.journal_meaning.specs.declared.batch.Query.{Query}
use Rattle.journal_meaning.specs.declared.Entry.{Entry}
use Rattle.journal_meaning.specs.declared.Entry.TheVariants.{Filled, Evicted}
use Rattle.valid_intervals.specs.Cells.{cell_for}
use Rattle.valid_intervals.specs.declared.SignalCell.{SignalCell}
use Rattle.journal_meaning.specs.Batches.{Batch, IsNeededBy}
use Rattle.circuit_meaning.specs.Cells.{cell_at}
use Rattle.journal_meaning.specs.Allowed.{IsAt}
use Rattle.journal_meaning.specs.Replay.{IsLegal, IsLegalBatch}
use Rattle.journal_meaning.specs.Sections.{of_batch, SectionEntries, AreLegal, joined_entries, Asks}
use Rattle.journal_meaning.specs.Counts.{evaluations, distinct, again, fills_at, evictions_of}
use Rattle.journal_meaning.specs.Answers.{IsSpent, IsAnswer}
use Rattle.journal_meaning.specs.States.{fresh}
use Rattle.circuit_meaning.specs.Forward.{wave}
use Rattle.circuit_meaning.specs.declared.Run.{Run}

-- every evaluation is the first of its point or a repeated one
abbrev pub CountsAdd : Type 0
CountsAdd = (es : List Entry) → evaluations es ≡ distinct es + again es

-- the batches of a section's memo are about this circuit
abbrev pub OfCircuit : Circuit → SectionEntries → Type 0
OfCircuit c section = (b : Batch) → section.purpose ≡ Asks b → b.circuit ≡ c

-- between two evaluations of a point its cell was evicted
abbrev pub AgainAfterEviction : Type 0
AgainAfterEviction = (c : Circuit) → IsCircuit c → (shard : ℕ) (sections : List SectionEntries) → All (OfCircuit c) sections → AreLegal shard [] sections
    → (q r : ℕ) (p : Point) (x y : Cell) (before between behind : List Entry)
    → joined_entries shard sections ≡ before ++ Filled q p x ∷ between ++ Filled r p y ∷ behind
    → Contains between (Evicted p.signal y.span.start)

-- in a shard of a batch a point is evaluated at most once more than its cell is evicted
abbrev pub OneFillPerEviction : Type 0
OneFillPerEviction = (b : Batch) → IsCircuit b.circuit → (shard : ℕ) (cells : List SignalCell) (es : List Entry) → IsLegal b shard (fresh cells) es
    → (p : Point) → fills_at es p ≤ evictions_of es p.signal (cell_at b.circuit p).span.start + 1

-- no entry evicts
abbrev pub NoEviction : List Entry → Type 0
NoEviction es = (signal start : ℕ) → Contains es (Evicted signal start) → ⊥

-- the point belongs to the shard, and a query of the batch needs it
abbrev pub IsWanted : Batch → ℕ → Point → Type 0
IsWanted b shard p = IsAt b shard p × ((q : Query) × Contains b.queries q × IsNeededBy b q p)

-- the points of the shard that the batch needs have at most as many different cells as the shard can hold
abbrev pub HasRoom : Batch → ℕ → Type 0
HasRoom b shard = (points : List Point) → All (IsWanted b shard) points
    → AllPairs (λ p r. cell_for p (cell_at b.circuit p) ≢ cell_for r (cell_at b.circuit r)) points
    → length points ≤ b.capacity

-- the journals of a batch, one for each shard, are legal from the cells that the shards held before
pub record IsLegalFrom (b : Batch) (opening : ℕ → List SignalCell) (lists : List (List Entry)) : Type 0 where
  pub count : length lists ≡ b.shards
  pub legal : (shard : ℕ) → shard < b.shards → IsLegalBatch b shard (opening shard) (slice_index_or lists shard [])

-- nothing was evicted, or the cells that the batch needs fit each shard
abbrev pub IsRoomy : Batch → List (List Entry) → Type 0
IsRoomy b lists = NoEviction (of_batch lists) ⊎ ((shard : ℕ) → shard < b.shards → HasRoom b shard)

-- the query is in the batch, and no other has its number
pub record IsOwnQuery (b : Batch) (q : Query) : Type 0 where
  pub known : Contains b.queries q
  pub single : (r : Query) → Contains b.queries r → r.number ≡ q.number → r ≡ q

-- the query needs more points than this number, or at most this number
abbrev pub NeedsMoreThan : Batch → Query → ℕ → Type 0
NeedsMoreThan b q n = (points : List Point) × (n + 1 ≤ length points) × AllPairs (λ p r. p ≢ r) points × All (IsNeededBy b q) points

abbrev pub NeedsAtMost : Batch → Query → ℕ → Type 0
NeedsAtMost b q n = (points : List Point) → AllPairs (λ p r. p ≢ r) points → All (IsNeededBy b q) points → length points ≤ n

-- a query whose budget was spent needs more points than its budget, whatever the shards held before
abbrev pub SpentNeedsMore : Type 0
SpentNeedsMore = (b : Batch) → IsCircuit b.circuit → (opening : ℕ → List SignalCell) (lists : List (List Entry)) → IsLegalFrom b opening lists → IsRoomy b lists
    → (q : Query) → IsOwnQuery b q → IsSpent (of_batch lists) q → NeedsMoreThan b q q.budget

-- a query whose budget is at least its need is answered by its wave
abbrev pub EnoughBudget : Type 0
EnoughBudget = (b : Batch) → IsCircuit b.circuit → (opening : ℕ → List SignalCell) (lists : List (List Entry)) → IsLegalFrom b opening lists → IsRoomy b lists
    → (q : Query) → IsOwnQuery b q → NeedsAtMost b q q.budget
    → (answer : Option (List Run)) → IsAnswer b.circuit (of_batch lists) q answer → answer ≡ Some (wave b.circuit q.signal q.from q.to)
