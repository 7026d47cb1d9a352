-- A shard in the words of the plan.
use Rattle.std.specs.Prelude.{map}
use Rattle.plan_machine.specs.Parts.{NumberedStrand}
use Rattle.plan_machine.specs.KeptPlans.{Parked, WaitedShard}
use Rattle.demand_points.specs.Demands.{Demand}
use Rattle.memo_shards.specs.KeptShards.{Waiting, KeptShard}

-- a strand with its number
abbrev pub numbered_strand : Demand → NumberedStrand
numbered_strand s = record { number = s.number; strand = s.strand }

abbrev pub parked_of : Waiting → Parked
parked_of w = record { point = w.point; waiter = numbered_strand w.strand }

abbrev pub waited_shard : KeptShard → WaitedShard
waited_shard m = record { shard = m.shard; parked = map parked_of m.waiting }
