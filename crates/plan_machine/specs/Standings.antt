-- How settlement stands on its way: what a strand alone left, which points are visited, and what was added since a query was reached.
use Rattle.std.specs.Prelude.{◌≡◌, ◌≢◌, ℕ, ◌+◌, ◌≤◌, ◌<◌, Bool, true, false, List, [], ◌∷◌, All, Contains, Option}
use Rattle.std.specs.List.{AllByRecursion}
use Rattle.valid_intervals.specs.declared.Cell.{Cell}
use Rattle.valid_intervals.specs.declared.Point.{Point}
use Rattle.valid_intervals.specs.declared.SignalCell.{SignalCell}
use Rattle.circuit_meaning.specs.Circuit.{Circuit}
use Rattle.circuit_meaning.specs.Need.{children}
use Rattle.journal_meaning.specs.declared.Entry.{Entry}
use Rattle.journal_meaning.specs.declared.Entry.TheVariants.{Filled, Dropped}
use Rattle.journal_meaning.specs.declared.batch.Query.{Query}
use Rattle.journal_meaning.specs.Batches.{Batch}
use Rattle.journal_meaning.specs.Answers.{IsCovered, fill_count, IsSpent}
use Rattle.journal_meaning.specs.Grown.{IsFor, refusals, GrowsBy, AreAdded}
use Rattle.journal_meaning.specs.Listed.{AreTimesCovered}
use Rattle.journal_meaning.specs.Pieces.{Start}
use Rattle.plan_machine.specs.Shards.{Shard}
use Rattle.plan_machine.specs.Sound.{IsFresh}
use Rattle.plan_machine.specs.Alone.{IsOutcome}
use Rattle.plan_machine.specs.Settle.{AreAllSettled, IsSettled, Standing, entries_in, journals_of}

-- A strand with this start ran alone over the shards, from the old ones to the new ones. No claim is left.
pub record AskedAlone (b : Batch) (opening : ℕ → List SignalCell) (a : Start) (old new : List Shard) (spent : Option Point) : Type 0 where
  pub fresh : IsFresh b opening new
  pub added : List Entry
  pub journals : AreAdded (journals_of old) added (journals_of new)
  pub own : AllByRecursion (IsFor a.query.number) added
  pub children : (q : ℕ) (p : Point) (x : Cell) → Contains added (Filled q p x) → All (IsCovered b.circuit (entries_in new)) (children b.circuit p.signal p.time)
  pub outcome : IsOutcome b.circuit a added (entries_in new) spent

-- the children of an evaluated point are covered
abbrev pub IsVisited : Circuit → List Entry → Point → Type 0
IsVisited c es p = All (IsCovered c es) (children c p.signal p.time)

-- A query that settlement did not refuse: the children of what it evaluated during settlement are covered.
pub record IsOpen (c : Circuit) (q : Query) (start now : List Entry) : Type 0 where
  pub added : List Entry
  pub grows : GrowsBy start added now
  pub fed : (p : Point) (x : Cell) → Contains added (Filled q.number p x) → IsVisited c now p
  pub refusals : refusals now q.number ≡ refusals start q.number

-- each point that the query evaluated before settlement is visited
abbrev pub AreVisited : Circuit → Query → List Entry → List Entry → Type 0
AreVisited c q start now = (p : Point) (x : Cell) → Contains start (Filled q.number p x) → IsVisited c now p

-- the start asks for this one point, for the query, with its budget and a charge of at most its fills
pub record IsAskedFor (q : Query) (es : List Entry) (x : Point) (a : Start) : Type 0 where
  pub point : record { signal = a.query.signal; time = a.start } ≡ x
  pub number : a.query.number ≡ q.number
  pub budget : a.budget ≡ q.budget
  pub charged : a.charged ≤ fill_count es q.number
  pub stop : a.stop ≡ a.start + 1

abbrev pub StandsAs : Circuit → Query → List Entry → List Entry → Bool → Type 0
StandsAs c q start now false = IsOpen c q start now
StandsAs c q start now true = IsSpent now q × (refusals now q.number ≡ refusals start q.number + 1)

-- since settlement reached the query, with these first shards, only entries for it were added; it is open, or was refused
pub record IsStanding (b : Batch) (opening : ℕ → List SignalCell) (q : Query) (start : List Entry) (first : List Shard) (s : Standing) : Type 0 where
  pub fresh : IsFresh b opening s.shards
  pub added : List Entry
  pub journals : AreAdded (journals_of first) added (journals_of s.shards)
  pub own : AllByRecursion (IsFor q.number) added
  pub state : StandsAs b.circuit q start (entries_in s.shards) s.refused

-- from one standing to the next: what is covered stays covered, and a refused query stays refused
pub record Advances (b : Batch) (opening : ℕ → List SignalCell) (q : Query) (start : List Entry) (first : List Shard) (s t : Standing) : Type 0 where
  pub stands : IsStanding b opening q start first t
  pub kept : (p : Point) → IsCovered b.circuit (entries_in s.shards) p → IsCovered b.circuit (entries_in t.shards) p
  pub live : t.refused ≡ false → s.refused ≡ false

-- the step also covers the point, unless the query is refused
abbrev pub Reaches : Batch → (ℕ → List SignalCell) → Query → List Entry → List Shard → Standing → Point → Standing → Type 0
Reaches b opening q start first s p t = Advances b opening q start first s t × (t.refused ≡ false → IsCovered b.circuit (entries_in t.shards) p)

-- the window is covered up to a time, unless the query is refused
abbrev pub IsCoveredTo : Circuit → Query → Standing → ℕ → Type 0
IsCoveredTo c q s u = s.refused ≡ false → AreTimesCovered c (entries_in s.shards) q.signal q.from u

-- the query is settled by shards that came from the first ones
pub record SettlesQuery (b : Batch) (opening : ℕ → List SignalCell) (q : Query) (start : List Entry) (first : List Shard) (t : Standing) : Type 0 where
  pub fresh : IsFresh b opening t.shards
  pub added : List Entry
  pub journals : AreAdded (journals_of first) added (journals_of t.shards)
  pub own : AllByRecursion (IsFor q.number) added
  pub settled : IsSettled b.circuit q start (entries_in t.shards) t.refused

-- Between two queries: some are settled, each with its flag, and the others are open.
pub record IsSettling (b : Batch) (opening : ℕ → List SignalCell) (start : List Entry) (first now : List Shard) (done : List Query) (refused : List Bool) (left : List Query) : Type 0 where
  pub fresh : IsFresh b opening now
  pub added : List Entry
  pub journals : AreAdded (journals_of first) added (journals_of now)
  pub settled : AreAllSettled b.circuit start (entries_in now) done refused
  pub opens : AllByRecursion (λ q. IsOpen b.circuit q start (entries_in now)) left

abbrev pub IsDrop : Entry → Type 0
IsDrop (Dropped q p) = Unit {0}
IsDrop e = ⊥
