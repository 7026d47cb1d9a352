use Rattle.std.proofs.Common.{◌≡◌, ◌<◌, ◌%◌, ℕ}
use Rattle.plan_core.specs.asked.Heard.{HasHeard}
use Rattle.worker_gate.proofs.hearing.share_has_heard.Given as goal

abbrev pub invariant-loop-k : goal.invariant-loop-k
invariant-loop-k g l = (k : ℕ) → k < l.k → k % l.divisor ≡ l.remainder → HasHeard g.B.BatchName.batch.circuit l.shards k
