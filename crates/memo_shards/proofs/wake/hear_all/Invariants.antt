use Rattle.plan_machine.specs.Strands.{after_answer}
use Rattle.demand_points.specs.Demands.{TakesStep}
use Rattle.memo_shards.proofs.Hearing.{IsUpTo}
use Rattle.memo_shards.proofs.wake.hear_all.Given as goal

abbrev pub invariant-loop-s : goal.invariant-loop-s
invariant-loop-s g l = IsUpTo (TakesStep after_answer) l.initial.s-items l.s-items l.s-index
