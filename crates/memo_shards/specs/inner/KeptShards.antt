-- What only the proofs and the private functions of this crate speak of, beside `KeptShards`.
use Rattle.std.specs.Prelude.{List, [], ◌∷◌, ◌++◌, map}
use Rattle.valid_intervals.specs.declared.Point.{Point}
use Rattle.claim_waiters.specs.Claims.{Claims}
use Rattle.demand_points.specs.Demands.{Demand}
use Rattle.memo_shards.specs.KeptShards.{Waiting}

-- the waiters of a table
abbrev pub waits_for : Point → Demand → Waiting
waits_for p s = record { point = p; strand = s }

abbrev pub waits_in : Claims Demand → List Waiting
waits_in [] = []
waits_in (e ∷ es) = map (waits_for e.0) e.1.waiters ++ waits_in es
