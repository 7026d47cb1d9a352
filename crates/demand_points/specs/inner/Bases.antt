-- What a claimed point still waits for, and the base answers that it hears by itself.
use Rattle.std.specs.Prelude.{◌≡◌, ℕ, ◌⊎◌, List, length, filter, drop, Some}
use Rattle.valid_intervals.specs.declared.Cell.{Cell}
use Rattle.valid_intervals.specs.declared.Point.{Point}
use Rattle.circuit_meaning.specs.Circuit.{Circuit}
use Rattle.circuit_meaning.specs.Need.{IsEvaluable}
use Rattle.circuit_meaning.specs.Looks.{somes}
use Rattle.plan_machine.specs.Strands as strands
use Rattle.plan_machine.specs.Strands.{is_evaluable}
use Rattle.design.specs.declared.pin_walk.PinWalk.{PinWalk}
use Rattle.design.specs.PinWalks.{IsPinWalk, IsLooking, LooksOn, cell_there, looked_at, next_point}

-- the children that a point still waits for, once its first n pins were looked at
abbrev pub left_after : Circuit → Point → ℕ → List Point
left_after c p n = filter (is_evaluable c) (somes (drop n (looked_at c p)))

-- as contracts see it: a claimed point, and the children that it still waits for
abbrev pub shown_frame : Circuit → PinWalk → strands.Frame
shown_frame c w = record { point = w.point; left = left_after c w.point w.looked }

-- it has looked at all that it looks at, or asks for a point that has no base answer
abbrev pub IsReady : Circuit → PinWalk → Type 0
IsReady c w = (w.looked ≡ length (looked_at c w.point)) ⊎ (IsLooking c w × ((p : Point) × (next_point c w ≡ Some p) × IsEvaluable c p.signal p.time))

-- the walk has looked at one pin more, which has a base answer
pub record HearsBase (c : Circuit) (old new : PinWalk) : Type 0 where
  pub looks : LooksOn c old new
  pub left : left_after c new.point new.looked ≡ left_after c old.point old.looked

-- the walk has heard base answers since, and nothing else
pub record HearsBases (c : Circuit) (old new : PinWalk) : Type 0 where
  pub walk : IsPinWalk c new
  pub point : new.point ≡ old.point
  pub left : left_after c new.point new.looked ≡ left_after c old.point old.looked

-- the walk has heard base answers, up to the next pin that has none
abbrev pub HearsAllBases : Circuit → PinWalk → PinWalk → Type 0
HearsAllBases c old new = HearsBases c old new × IsReady c new

-- the cell is that of the walk's next pin
pub record IsHearing (c : Circuit) (cell : Cell) (w : PinWalk) : Type 0 where
  pub walk : IsPinWalk c w
  pub looking : IsLooking c w
  pub heard : Some cell ≡ cell_there c (next_point c w)
