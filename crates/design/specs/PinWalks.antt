-- A walk over the pins of a point: how many of them were looked at, and what these come to.
use Rattle.std.specs.Prelude.{◌≡◌, ◌≤◌, ◌<◌, ◌+◌, List, length, map, take, slice_index_or, nat_eq, Option, None, option_map, IfSome}
use Rattle.gate_values.specs.declared.Kind.{Kind}
use Rattle.gate_values.specs.Gates.{gate_value}
use Rattle.valid_intervals.specs.declared.Cell.{Cell}
use Rattle.valid_intervals.specs.declared.Point.{Point}
use Rattle.circuit_meaning.specs.Circuit.{Circuit, driver}
use Rattle.circuit_meaning.specs.Need.{IsEvaluable}
use Rattle.circuit_meaning.specs.Looks.{kind_of, pin_points, looked_points, sees, met_interval}
use Rattle.circuit_meaning.specs.Cells.{cell_at}
use Rattle.design.specs.declared.pin_walk.PinWalk.{PinWalk}

abbrev pub kind_at : Circuit → Point → Kind
kind_at c p = kind_of (driver c p.signal)

-- the sources of all pins of a point, and of those that are looked at
abbrev pub all_points : Circuit → Point → List (Option Point)
all_points c p = pin_points c p.signal p.time

abbrev pub looked_at : Circuit → Point → List (Option Point)
looked_at c p = looked_points c p.signal p.time

-- the source of the pin that comes next
abbrev pub next_point : Circuit → PinWalk → Option Point
next_point c w = slice_index_or (looked_at c w.point) w.looked None

pub record IsPoint (c : Circuit) (p : Point) : Type 0 where
  pub signal : p.signal < length c.drivers
  pub time : p.time ≤ c.horizon

-- The walk is right about the pins that it has looked at, and about the next one.
pub record IsPinWalk (c : Circuit) (w : PinWalk) : Type 0 where
  pub point : IsPoint c w.point
  pub evaluable : IsEvaluable c w.point.signal w.point.time
  pub looked : w.looked ≤ length (looked_at c w.point)
  pub kind : w.evaluation.kind ≡ kind_at c w.point
  pub value : w.evaluation.value ≡ gate_value (kind_at c w.point) (map (sees c) (take w.looked (all_points c w.point)))
  pub interval : w.interval ≡ met_interval c w.point.signal w.point.time w.looked
  pub done : w.done ≡ nat_eq w.looked (length (looked_at c w.point))
  pub source : w.source ≡ next_point c w
  pub reads : IfSome w.source (IsPoint c)

-- it has a pin more to look at
abbrev pub IsLooking : Circuit → PinWalk → Type 0
IsLooking c w = w.looked < length (looked_at c w.point)

-- the cell that is heard of a source
abbrev pub cell_there : Circuit → Option Point → Option Cell
cell_there c o = option_map (cell_at c) o

-- the walk has looked at one pin more
pub record LooksOn (c : Circuit) (old new : PinWalk) : Type 0 where
  pub walk : IsPinWalk c new
  pub point : new.point ≡ old.point
  pub looked : new.looked ≡ old.looked + 1
