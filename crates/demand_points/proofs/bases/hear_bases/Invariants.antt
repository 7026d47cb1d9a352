use Rattle.std.proofs.Common.{◌-◌, length}
use Rattle.design.specs.PinWalks.{looked_at}
use Rattle.demand_points.specs.inner.Bases.{HearsBases}
use Rattle.demand_points.proofs.bases.hear_bases.Given as goal

abbrev pub invariant-looks : goal.invariant-looks
invariant-looks l = HearsBases l.design.circuit l.initial.walk l.walk

abbrev pub decreases-looks : goal.decreases-looks
decreases-looks l = length (looked_at l.design.circuit l.walk.point) - l.walk.looked
