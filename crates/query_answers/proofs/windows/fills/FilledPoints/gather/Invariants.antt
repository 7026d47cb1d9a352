use Rattle.std.proofs.Common.{◌≡◌, ℕ, take}
use Rattle.std.specs.BTreeMap.{get}
use Rattle.std.specs.Ordering.{nat_cmp}
use Rattle.plan_machine.specs.Settling.{fills_of}
use Rattle.query_answers.specs.windows.inner.Fills.{points_in}
use Rattle.plan_core.specs.asked.Memos.{entries_of}
use Rattle.query_answers.proofs.windows.fills.FilledPoints.gather.Given as goal

abbrev pub invariant-loop-shard : goal.invariant-loop-shard
invariant-loop-shard g l = (n : ℕ) → points_in (get nat_cmp l.filled.by_query n) ≡ fills_of (entries_of (take l.shard-index l.shards)) n
