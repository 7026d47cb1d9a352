use Rattle.std.proofs.Common.{arith}
use Rattle.claim_waiters.proofs.Listed.{mapped-on}
use Rattle.claim_waiters.proofs.holders.mapped.Goals as goal

pub loop-claim-preserved : goal.loop-claim-preserved
loop-claim-preserved c =
    let test = c.loop-claim-test.true in
    mapped-on c.args.few.now c.loop-claim.claim-index _ _ _ c.requires (omega (arith, test)) c.loop-claim.invariant c.in_ok-insert.ensures.entries
