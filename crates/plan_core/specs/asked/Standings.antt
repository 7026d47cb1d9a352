-- A query over the shards in hand, in the words of settlement.
use Rattle.std.specs.Prelude.{Bool, false, List}
use Rattle.plan_machine.specs.Settle.{Standing}
use Rattle.memo_shards.specs.KeptShards.{KeptShard}
use Rattle.plan_core.specs.Parts.{shards_in}

-- a query that was not refused yet
abbrev pub live : List KeptShard → Standing
live ms = record { shards = shards_in ms; refused = false }

abbrev pub standing : List KeptShard → Bool → Standing
standing ms r = record { shards = shards_in ms; refused = r }
