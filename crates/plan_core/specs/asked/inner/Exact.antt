-- What an entry says of the very point for which it was recorded.
use Rattle.std.specs.Prelude.{◌≡◌, List, Contains, Some}
use Rattle.valid_intervals.specs.declared.Cell.{Cell}
use Rattle.valid_intervals.specs.declared.Point.{Point}
use Rattle.journal_meaning.specs.declared.Entry.{Entry}
use Rattle.journal_meaning.specs.Entries.{cell_said}

-- one of the entries was recorded for the point, and says this cell
abbrev pub IsSaidFor : List Entry → Point → Cell → Type 0
IsSaidFor es p cell = (e : Entry) × Contains es e × (cell_said e ≡ Some (record { point = p; cell = cell }))
