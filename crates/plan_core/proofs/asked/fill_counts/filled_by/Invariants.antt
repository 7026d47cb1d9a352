use Rattle.std.proofs.Common.{◌≡◌, take}
use Rattle.plan_core.specs.asked.FillCounts.{fills_in_all}
use Rattle.plan_core.proofs.asked.fill_counts.filled_by.Given as goal

abbrev pub invariant-loop-part : goal.invariant-loop-part
invariant-loop-part l = l.count ≡ fills_in_all (take l.part-index l.parts) l.number
