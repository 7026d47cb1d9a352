-- Whether what was evaluated has heard its children.
use Rattle.std.specs.Prelude.{◌≡◌, ℕ, List, All, Some, IfSome, slice_get}
use Rattle.circuit_meaning.specs.Circuit.{Circuit}
use Rattle.circuit_meaning.specs.Need.{children}
use Rattle.journal_meaning.specs.Answers.{IsCovered}
use Rattle.journal_meaning.specs.Counts.{evaluated_point}
use Rattle.journal_meaning.specs.declared.Entry.{Entry}
use Rattle.memo_shards.specs.KeptShards.{KeptShard}
use Rattle.plan_core.specs.asked.Memos.{entries_of}

-- where the entry is a fill, the children of its point are covered
abbrev pub IsHeard : Circuit → List Entry → Entry → Type 0
IsHeard c es e = IfSome (evaluated_point e) (λ p. All (IsCovered c es) (children c p.signal p.time))

-- the entries of all shards cover the children of each point that the shard in this place has evaluated
abbrev pub HasHeard : Circuit → List KeptShard → ℕ → Type 0
HasHeard c ms k = (m : KeptShard) → slice_get ms k ≡ Some m → All (IsHeard c (entries_of ms)) m.shard.journal
