-- A strand that runs alone.
use Rattle.std.specs.Prelude.{◌≡◌, ◌⊎◌, ℕ, List, Option, Some, None}
use Rattle.valid_intervals.specs.declared.Point.{Point}
use Rattle.valid_intervals.specs.declared.SignalCell.{SignalCell}
use Rattle.journal_meaning.specs.Batches.{Batch}
use Rattle.journal_meaning.specs.Pieces.{Start}
use Rattle.plan_machine.specs.declared.Turned.TheVariants as comes
use Rattle.plan_machine.specs.Plans.{Plan}
use Rattle.plan_machine.specs.Steps.{turn_outcome}
use Rattle.plan_machine.specs.Turns.{turn}
use Rattle.plan_machine.specs.Alone.{RunsAlone}
use Rattle.plan_core.specs.declared.alone.Alone.{Alone}
use Rattle.plan_core.specs.declared.alone.Alone.TheVariants.{Ended, Spent}

-- the point that the strand was refused
abbrev pub point_of : Alone → Option Point
point_of Ended = None
point_of (Spent p) = Some p

-- When memory ran out: turns of strand n alone, started as a, led from the old plan to the new one. Or they led to the plan before the
-- last turn, in which the strand was spent, and the refusal is not recorded.
pub record StopsAlone (b : Batch) (opening : ℕ → List SignalCell) (n : ℕ) (a : Start) (old new : Plan) : Type 0 where
  pub before : Plan
  pub refused_at : Option Point
  pub runs : RunsAlone b opening n a old before refused_at
  pub last : (new ≡ before) ⊎ ((turn_outcome before n ≡ comes.Spent) × (new ≡ turn b before n))
