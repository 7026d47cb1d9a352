-- What a single entry says.
use Rattle.std.specs.Prelude.{Option, Some, None}
use Rattle.valid_intervals.specs.declared.Cell.{Cell}
use Rattle.valid_intervals.specs.declared.Point.{Point}
use Rattle.journal_meaning.specs.declared.Entry.{Entry}
use Rattle.journal_meaning.specs.declared.Entry.TheVariants.{Told, Filled}

-- a point with the cell that an entry says there
pub record SaidCell : Type 0 where
  pub point : Point
  pub cell : Cell

abbrev pub cell_said : Entry → Option SaidCell
cell_said (Told q p x) = Some (record { point = p; cell = x })
cell_said (Filled q p x) = Some (record { point = p; cell = x })
cell_said e = None
