use Rattle.std.proofs.Common.{◌-◌}
use Rattle.demand_points.proofs.PartLemmas.{SkipsRoots}
use Rattle.demand_points.proofs.parts.Parts.skip_roots.Given as goal

abbrev pub invariant-roots : goal.invariant-roots
invariant-roots l = SkipsRoots l.design.circuit l.initial.self l.self

abbrev pub decreases-roots : goal.decreases-roots
decreases-roots l = l.self.to - l.self.root
