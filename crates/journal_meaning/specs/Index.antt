-- The cells that entries say, and an index of them.
use Rattle.std.specs.Prelude.{◌≡◌, ◌≤◌, List, All, Contains, filter_map, Option, Some}
use Rattle.valid_intervals.specs.Spans.{IsIn}
use Rattle.valid_intervals.specs.declared.Cell.{Cell}
use Rattle.valid_intervals.specs.declared.Point.{Point}
use Rattle.circuit_meaning.specs.Circuit.{Circuit}
use Rattle.journal_meaning.specs.declared.Entry.{Entry}
use Rattle.circuit_meaning.specs.Cells.{cell_at}
use Rattle.journal_meaning.specs.Entries.{SaidCell, cell_said}

-- what the entries say
abbrev pub cells_said : List Entry → List SaidCell
cells_said es = filter_map cell_said es

-- the cell covers the point
pub record Covers (f : SaidCell) (p : Point) : Type 0 where
  pub signal : f.point.signal ≡ p.signal
  pub time : IsIn f.cell.span p.time

abbrev pub IsFound : List SaidCell → Point → Type 0
IsFound cells p = (f : SaidCell) × Contains cells f × Covers f p

-- the place of a cell in an index: its signal and first time
abbrev pub place_of : SaidCell → Point
place_of f = record { signal = f.point.signal; time = f.cell.span.start }

-- the cell stands at this place
pub record StandsAt (cells : List SaidCell) (k : Point) (cell : Cell) : Type 0 where
  pub of : SaidCell
  pub known : Contains cells of
  pub cell_is : of.cell ≡ cell
  pub place : place_of of ≡ k

-- the index has exactly these cells, and each is the cell of its point
pub record IsCellIndex (c : Circuit) (cells : List SaidCell) (index : Point → Option Cell) : Type 0 where
  pub right : All (λ f. f.cell ≡ cell_at c f.point) cells
  pub within : All (λ f. f.point.time ≤ c.horizon) cells
  pub has : All (λ f. index (place_of f) ≡ Some f.cell) cells
  pub only : (k : Point) (cell : Cell) → index k ≡ Some cell → StandsAt cells k cell
