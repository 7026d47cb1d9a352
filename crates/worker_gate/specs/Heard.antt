-- What one of several threads has found of the shards at which it looked.
use Rattle.std.specs.Prelude.{◌≡◌, ◌<◌, ◌%◌, ℕ, List, length}
use Rattle.circuit_meaning.specs.Circuit.{Circuit}
use Rattle.memo_shards.specs.KeptShards.{KeptShard}
use Rattle.plan_core.specs.asked.Heard.{HasHeard}

-- each shard whose place leaves this remainder has heard the children of all that it evaluated
abbrev pub HaveHeard : Circuit → List KeptShard → ℕ → ℕ → Type 0
HaveHeard c ms divisor remainder = (k : ℕ) → k < length ms → k % divisor ≡ remainder → HasHeard c ms k
