-- The cells that are still to be lines, by their places.
use Rattle.std.specs.Prelude.{◌≡◌, ◌<◌, ◌⊎◌, Option, Some}
use Rattle.std.specs.declared.cmp.Ordering.{Ordering}
use Rattle.std.specs.Ordering.{ordering_then, nat_cmp}
use Rattle.valid_intervals.specs.declared.Point.{Point}
use Rattle.valid_intervals.specs.declared.SignalCell.{SignalCell}
use Rattle.query_answers.specs.declared.explanations.waiting.LinePlace.{LinePlace}
use Rattle.query_answers.specs.declared.explanations.waiting.Asked.{Asked}

-- by first times, and then by signals
abbrev pub place_cmp : LinePlace → LinePlace → Ordering
place_cmp a b = ordering_then (nat_cmp a.start b.start) (nat_cmp a.signal b.signal)

abbrev pub IsBelow : LinePlace → LinePlace → Type 0
IsBelow a b = (a.start < b.start) ⊎ ((a.start ≡ b.start) × (a.signal < b.signal))

-- where a line stands, and the line and the point of a cell that was asked for
abbrev pub place_of : SignalCell → LinePlace
place_of x = record { start = x.cell.span.start; signal = x.signal }

abbrev pub line_of : Asked → SignalCell
line_of a = record { signal = a.signal; cell = a.cell }

abbrev pub point_of : Asked → Point
point_of a = record { signal = a.signal; time = a.time }

-- what waits at each place
abbrev pub Places : Type 0
Places = LinePlace → Option Asked

-- the cell was added, unless one stood in its place
pub record Adds (old : Places) (a : Asked) (new : Places) : Type 0 where
  pub kept : (k : LinePlace) (x : Asked) → old k ≡ Some x → new k ≡ Some x
  pub there : (x : Asked) × (new (place_of (line_of a)) ≡ Some x)
  pub only : (k : LinePlace) (x : Asked) → new k ≡ Some x → (old k ≡ Some x) ⊎ ((k ≡ place_of (line_of a)) × (x ≡ a))

-- the cell stood in the last place, and was taken
pub record TakesLast (old : Places) (a : Asked) (new : Places) : Type 0 where
  pub place : LinePlace
  pub was : old place ≡ Some a
  pub last : (k : LinePlace) (x : Asked) → new k ≡ Some x → IsBelow k place
  pub left : (k : LinePlace) (x : Asked) → new k ≡ Some x → old k ≡ Some x
  pub kept : (k : LinePlace) (x : Asked) → old k ≡ Some x → (k ≡ place) ⊎ (new k ≡ Some x)
