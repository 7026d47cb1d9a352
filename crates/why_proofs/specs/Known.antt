-- The cells of accepted lines, found by their signals and first times, and the cells that they answer for.
use Rattle.std.specs.Prelude.{◌≡◌, ℕ, ◌≤◌, ◌<◌, Bool, true, false, List, [], ◌∷◌, ◌++◌, slice_index_or, Contains, Option, Some, None, IsSome, MatchOption}
use Rattle.valid_intervals.specs.declared.Cell.{Cell}
use Rattle.valid_intervals.specs.declared.Point.{Point}
use Rattle.valid_intervals.specs.declared.SignalCell.{SignalCell}
use Rattle.circuit_meaning.specs.Circuit.{Circuit, driver}
use Rattle.circuit_meaning.specs.Cells.{cell_at}
use Rattle.design.specs.declared.pin_walk.PinWalk.{PinWalk}
use Rattle.design.specs.PinWalks.{looked_at, next_point}
use Rattle.why_proofs.specs.Justified.{Answers, AreAnswered, IsJustified}

-- where a line's cell stands
abbrev pub place_of : SignalCell → Point
place_of x = record { signal = x.signal; time = x.cell.span.start }

-- each cell that stands there is the one of its place, where it begins
pub record IsTrueCell (c : Circuit) (k : Point) (cell : Cell) : Type 0 where
  pub right : cell ≡ cell_at c k
  pub start : cell.span.start ≡ k.time
  pub within : k.time ≤ c.horizon

abbrev pub AreTrueCells : Circuit → (Point → Option Cell) → Type 0
AreTrueCells c index = (k : Point) (cell : Cell) → index k ≡ Some cell → IsTrueCell c k cell

-- one of the lines states the cell that stands there
pub record IsStated (lines : List SignalCell) (k : Point) (cell : Cell) : Type 0 where
  pub line : SignalCell
  pub known : Contains lines line
  pub cell_is : line.cell ≡ cell
  pub place : place_of line ≡ k

-- the cells are those of the lines
pub record IsIndexOf (lines : List SignalCell) (index : Point → Option Cell) : Type 0 where
  pub has : (x : SignalCell) → Contains lines x → index (place_of x) ≡ Some x.cell
  pub only : (k : Point) (cell : Cell) → index k ≡ Some cell → IsStated lines k cell

-- a source before time 0 needs no answer
abbrev pub IsKnown : Answers → Option Point → Type 0
IsKnown a None = Unit {0}
IsKnown a (Some p) = IsSome (a p.signal p.time)

-- the first n pins that are looked at have answers
abbrev pub AreKnown : Circuit → Answers → Point → ℕ → Type 0
AreKnown c a p n = (k : ℕ) → k < n → IsKnown a (slice_index_or (looked_at c p) k None)

-- the next pin is heard exactly where its source has an answer
abbrev pub Hears : Circuit → Answers → PinWalk → Option PinWalk → Type 0
Hears c a w result = MatchOption result (IsKnown a (next_point c w) → ⊥) (λ next. IsKnown a (next_point c w))

-- where all children of the point have answers, its cell is answered
pub record IsRuled (c : Circuit) (a : Answers) (p : Point) (cell : Cell) : Type 0 where
  pub answered : AreAnswered a p.time (driver c p.signal)
  pub right : cell ≡ cell_at c p

abbrev pub Rules : Circuit → Answers → Point → Option Cell → Type 0
Rules c a p result = MatchOption result (AreAnswered a p.time (driver c p.signal) → ⊥) (IsRuled c a p)

-- a line is justified by the lines above it exactly where its cell is answered
abbrev pub Judges : Circuit → List SignalCell → SignalCell → Option Cell → Type 0
Judges c lines x result = MatchOption result (IsJustified c lines x → ⊥) (λ cell. IsJustified c lines x)

-- the line was accepted, and its cell added, exactly where it is justified
abbrev pub Accepts : Circuit → List SignalCell → SignalCell → (Point → Option Cell) → Bool → Type 0
Accepts c lines x index true = IsJustified c lines x × IsIndexOf (lines ++ x ∷ []) index
Accepts c lines x index false = IsJustified c lines x → ⊥
