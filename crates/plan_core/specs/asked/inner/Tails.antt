-- What stands in journals after so many entries of each.
use Rattle.std.specs.Prelude.{ℕ, List, [], ◌∷◌, ◌++◌, length, drop, map}
use Rattle.journal_meaning.specs.declared.Entry.{Entry}
use Rattle.memo_shards.specs.KeptShards.{KeptShard}

-- the lengths of the journals
abbrev pub lengths_of : List KeptShard → List ℕ
lengths_of ms = map (λ (m : KeptShard). length m.shard.journal) ms

abbrev pub tails : List ℕ → List KeptShard → List Entry
tails [] ms = []
tails (n ∷ ns) [] = []
tails (n ∷ ns) (m ∷ ms) = drop n m.shard.journal ++ tails ns ms
