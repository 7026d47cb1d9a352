use Rattle.std.proofs.Common.{take, All}
use Rattle.plan_core.specs.asked.Heard.{IsHeard}
use Rattle.plan_core.specs.asked.Memos.{entries_of}
use Rattle.plan_core.proofs.asked.heard.has_heard.Given as goal

abbrev pub invariant-loop-entry : goal.invariant-loop-entry
invariant-loop-entry g l = All (IsHeard g.B.BatchName.batch.circuit (entries_of l.shards)) (take l.entry-index l.journal)
