use Rattle.std.proofs.Common.{◌≡◌, take}
use Rattle.claim_waiters.proofs.holders.mapped.Given as goal

abbrev pub invariant-loop-claim : goal.invariant-loop-claim
invariant-loop-claim l = l.many.entries ≡ take l.claim-index l.few
