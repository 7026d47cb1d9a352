-- Lines that are gathered: what was asked for, which lines were taken, and which cells wait.
use Rattle.std.specs.Prelude.{◌≡◌, ◌+◌, ◌*◌, ◌⊎◌, ℕ, List, [], ◌∷◌, length, slice_index_or, All, Contains, AllPairs, Option, Some, None, option_map}
use Rattle.std.specs.List.{AllByRecursion}
use Rattle.valid_intervals.specs.Spans.{IsIn}
use Rattle.valid_intervals.specs.declared.Point.{Point}
use Rattle.valid_intervals.specs.declared.SignalCell.{SignalCell}
use Rattle.circuit_meaning.specs.Circuit.{Circuit}
use Rattle.circuit_meaning.specs.Forward.{value}
use Rattle.circuit_meaning.specs.Cells.{cell_at}
use Rattle.circuit_meaning.specs.Need.{IsEvaluable}
use Rattle.circuit_meaning.specs.Looks.{looked_points}
use Rattle.journal_meaning.specs.declared.batch.Query.{Query}
use Rattle.journal_meaning.specs.Batches.{Batch, IsNeededBy}
use Rattle.journal_meaning.specs.declared.Entry.{Entry}
use Rattle.why_proofs.specs.Justified.{answer, AreJustified}
use Rattle.session_meaning.specs.Explanations.{Tells, IsBefore}
use Rattle.query_answers.specs.declared.explanations.waiting.LinePlace.{LinePlace}
use Rattle.query_answers.specs.declared.explanations.waiting.Asked.{Asked}
use Rattle.query_answers.specs.explanations.inner.Waiting.{line_of, point_of, place_of, Places}

-- the cell of a point without a base answer, which an entry tells or fills
pub record IsTold (c : Circuit) (es : List Entry) (a : Asked) : Type 0 where
  pub evaluable : IsEvaluable c a.signal a.time
  pub right : a.cell ≡ cell_at c (point_of a)
  pub told : (e : Entry) × Contains es e × Tells (line_of a) e

-- and the query needs the point
pub record IsWanted (b : Batch) (q : Query) (es : List Entry) (a : Asked) : Type 0 where
  pub told : IsTold b.circuit es a
  pub needed : IsNeededBy b q (point_of a)

-- the source of a pin, where there is one: it has a base answer, or something waits in the place of its cell
abbrev pub IsSourceAdded : Circuit → Places → Option Point → Type 0
IsSourceAdded c now None = Unit {0}
IsSourceAdded c now (Some p) = (IsEvaluable c p.signal p.time → ⊥) ⊎ ((a : Asked) × (now (place_of (record { signal = p.signal; cell = cell_at c p })) ≡ Some a))

-- a cell that waits is of one of the sources
pub record IsOfSource (c : Circuit) (es : List Entry) (os : List (Option Point)) (k : LinePlace) (a : Asked) : Type 0 where
  pub place : k ≡ place_of (line_of a)
  pub told : IsTold c es a
  pub source : Contains os (Some (point_of a))

-- Sources of pins were noted: their cells wait, and nothing else was added.
pub record Notes (c : Circuit) (es : List Entry) (old new : Places) (os : List (Option Point)) : Type 0 where
  pub kept : (k : LinePlace) (a : Asked) → old k ≡ Some a → new k ≡ Some a
  pub only : (k : LinePlace) (a : Asked) → new k ≡ Some a → (old k ≡ Some a) ⊎ IsOfSource c es os k a
  pub sources : AllByRecursion (IsSourceAdded c new) os

-- a line was taken, or its cell waits
abbrev pub IsKept : List SignalCell → Places → SignalCell → Type 0
IsKept lines now x = Contains lines x ⊎ ((k : LinePlace) × (a : Asked) × (now k ≡ Some a) × (line_of a ≡ x))

-- the source of a pin, where there is one: it has a base answer, or its cell is such a line
abbrev pub IsSourceKept : Circuit → List SignalCell → Places → Option Point → Type 0
IsSourceKept c lines now None = Unit {0}
IsSourceKept c lines now (Some p) = (IsEvaluable c p.signal p.time → ⊥) ⊎ ((x : SignalCell) × IsKept lines now x × (x.signal ≡ p.signal) × IsIn x.cell.span p.time)

-- so are all sources that a line looks at where it begins
abbrev pub AreSourcesKept : Circuit → List SignalCell → Places → SignalCell → Type 0
AreSourcesKept c lines now x = (n : ℕ) → IsSourceKept c lines now (slice_index_or (looked_points c x.signal x.cell.span.start) n None)

-- While lines are gathered, the last taken first: what was asked for is a line or waits, and each that waits comes before each line.
pub record AreGathered (b : Batch) (q : Query) (es : List Entry) (lines : List SignalCell) (now : Places) : Type 0 where
  pub root : IsSourceKept b.circuit lines now (Some (record { signal = q.signal; time = q.from }))
  pub taken : (x : SignalCell) → Contains lines x → (t : ℕ) × IsWanted b q es (record { signal = x.signal; time = t; cell = x.cell })
  pub places : (k : LinePlace) (a : Asked) → now k ≡ Some a → k ≡ place_of (line_of a)
  pub waiting : (k : LinePlace) (a : Asked) → now k ≡ Some a → IsWanted b q es a
  pub order : AllPairs IsBefore lines
  pub below : (k : LinePlace) (a : Asked) → now k ≡ Some a → (x : SignalCell) → Contains lines x → IsBefore (line_of a) x

-- a number that gets less with each line that is taken
abbrev pub rank : ℕ → List SignalCell → ℕ
rank horizon [] = (horizon + 1) * 1048576
rank horizon (x ∷ lines) = x.cell.span.start * 1048576 + x.signal

-- Lines that explain why the query's signal has its value. That the query is closed is said elsewhere.
pub record AreExplained (c : Circuit) (es : List Entry) (q : Query) (lines : List SignalCell) : Type 0 where
  pub justified : AreJustified c lines (length lines)
  pub follows : option_map (λ x. x.value) (answer c lines q.signal q.from) ≡ Some (value c q.signal q.from)
  pub ordered : AllPairs IsBefore lines
  pub told : All (λ x. (e : Entry) × Contains es e × Tells x e) lines
