-- Points, cells, and lists of cells, the most recent first.
use Rattle.std.specs.Prelude.{◌-◌, nat_le, nat_lt, nat_eq, Bool, not, ◌&&◌, List, ◌∷◌, length, take, filter, find, slice_get, Option}
use Rattle.std.specs.List.{list_any}
use Rattle.std.specs.declared.cmp.Ordering.{Ordering}
use Rattle.std.specs.Ordering.{ordering_then, nat_cmp}
use Rattle.gate_values.specs.Gates.{same_value}
use Rattle.valid_intervals.specs.declared.Point.{Point}
use Rattle.valid_intervals.specs.declared.Cell.{Cell}
use Rattle.valid_intervals.specs.declared.SignalCell.{SignalCell}

abbrev pub same_point : Point → Point → Bool
same_point a b = nat_eq a.signal b.signal && nat_eq a.time b.time

-- the order of points: by signal, then by time
abbrev pub point_cmp : Point → Point → Ordering
point_cmp a b = ordering_then (nat_cmp a.signal b.signal) (nat_cmp a.time b.time)

abbrev pub same_cell : Cell → Cell → Bool
same_cell a b = nat_eq a.span.start b.span.start && nat_eq a.span.stop b.span.stop && same_value a.value b.value

abbrev pub same_stored : SignalCell → SignalCell → Bool
same_stored a b = nat_eq a.signal b.signal && same_cell a.cell b.cell

-- the cell, as a cell of the point's signal
abbrev pub cell_for : Point → Cell → SignalCell
cell_for p x = record { signal = p.signal; cell = x }

-- whether this is a cell of the point's signal that contains its time
abbrev pub covers : Point → SignalCell → Bool
covers p x = nat_eq x.signal p.signal && nat_le x.cell.span.start p.time && nat_lt p.time x.cell.span.stop

-- whether the cell is among the stored ones
abbrev pub is_stored : SignalCell → List SignalCell → Bool
is_stored x cells = list_any (same_stored x) cells

-- the stored cell that covers the point
abbrev pub stored_at : List SignalCell → Point → Option SignalCell
stored_at cells p = find (covers p) cells

-- the cell is put at the front, or moved there
abbrev pub to_front : SignalCell → List SignalCell → List SignalCell
to_front x cells = x ∷ filter (λ y. not (same_stored x y)) cells

-- the least recent cell
abbrev pub last_cell : List SignalCell → Option SignalCell
last_cell cells = slice_get cells (length cells - 1)

abbrev pub all_but_last : List SignalCell → List SignalCell
all_but_last cells = take (length cells - 1) cells
