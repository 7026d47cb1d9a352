-- What is left of asking for one time.
use Rattle.std.specs.Prelude.{◌≡◌, ℕ, Bool, false, List, All, Contains, is_some, Option}
use Rattle.std.specs.List.{AllByRecursion}
use Rattle.valid_intervals.specs.declared.Cell.{Cell}
use Rattle.valid_intervals.specs.declared.Point.{Point}
use Rattle.valid_intervals.specs.declared.SignalCell.{SignalCell}
use Rattle.circuit_meaning.specs.Need.{IsEvaluable, children}
use Rattle.journal_meaning.specs.declared.Entry.{Entry}
use Rattle.journal_meaning.specs.declared.Entry.TheVariants.{Filled}
use Rattle.journal_meaning.specs.Answers.{IsCovered}
use Rattle.journal_meaning.specs.Grown.{IsFor, AreAdded}
use Rattle.journal_meaning.specs.declared.batch.Query.{Query}
use Rattle.journal_meaning.specs.Batches.{Batch, IsNeededBy}
use Rattle.journal_meaning.specs.Pieces.{Start}
use Rattle.plan_machine.specs.Shards.{Shard}
use Rattle.plan_machine.specs.Sound.{IsFresh}
use Rattle.plan_machine.specs.Alone.{IsOutcome}
use Rattle.plan_machine.specs.Settle.{journals_of, entries_in, charge_of, child_start, AreFreed}

-- Entries for the query were added to the shards, or none where the time was covered before, and no claim is left. What was filled has
-- its children covered. If the query was not refused, its root is covered, and otherwise its refusal has its cause.
pub record HasAsked (b : Batch) (opening : ℕ → List SignalCell) (a : Start) (old new : List Shard) (refused : Bool) : Type 0 where
  pub fresh : IsFresh b opening new
  pub added : List Entry
  pub journals : AreAdded (journals_of old) added (journals_of new)
  pub own : AllByRecursion (IsFor a.query.number) added
  pub children : (q : ℕ) (p : Point) (x : Cell) → Contains added (Filled q p x) → All (IsCovered b.circuit (entries_in new)) (children b.circuit p.signal p.time)
  pub refused_at : Option Point
  pub flag : refused ≡ is_some refused_at
  pub outcome : IsOutcome b.circuit a added (entries_in new) refused_at

-- What is asked for a query, one point after another, by sub-queries, and nothing more once it is refused: points that it needs or that
-- have base answers. Each time it is charged what it has filled in this batch so far, at most its budget.
pub data AsksOn (b : Batch) (opening : ℕ → List SignalCell) (q : Query) (old : List Shard) (was : Bool) : List Shard → Bool → Type 0 where
  Nothing : AsksOn b opening q old was old was
  Needed : {now next : List Shard} {refused : Bool} → AsksOn b opening q old was now false → (x : Point) → (IsEvaluable b.circuit x.signal x.time → IsNeededBy b q x)
      → HasAsked b opening (child_start q x (charge_of (entries_in now) q)) now next refused → AsksOn b opening q old was next refused

-- Claims that are left are freed. Then the query is asked for, and nothing more once it is refused.
pub record AsksFreed (b : Batch) (opening : ℕ → List SignalCell) (q : Query) (old new : List Shard) (refused : Bool) : Type 0 where
  pub freed : List Shard
  pub frees : AreFreed old freed
  pub asks : AsksOn b opening q freed false new refused
