-- What several threads have noted of the entries of shards.
use Rattle.std.specs.Prelude.{◌≡◌, List, map, flat_map, Result, Ok}
use Rattle.plan_core.specs.declared.asked.fill_counts.FillCounts.{FillCounts}
use Rattle.plan_core.specs.declared.asked.said.Said.{Said}

-- each part was read, and these are the counts of all, part after part
pub record AreJoined {E : Type 0} (parts : List (Result Said E)) (fills : List FillCounts) : Type 0 where
  pub all : List Said
  pub read : parts ≡ map Ok all
  pub counts : fills ≡ flat_map (λ (said : Said). said.fills.items) all
