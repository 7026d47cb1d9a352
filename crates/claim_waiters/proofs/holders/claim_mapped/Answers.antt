use Rattle.std.proofs.Common.{◌≡◌, ◌∙◌, sym, Some}
use Rattle.claim_waiters.specs.inner.View.{at}
use Rattle.claim_waiters.proofs.ClaimLemmas.{put-again}
use Rattle.claim_waiters.proofs.holders.claim_mapped.Goals as goal

pub returns-in-Ok-Some-clause-taken : goal.returns-in-Ok-Some-clause-taken
returns-in-Ok-Some-clause-taken c =
    let holders = c.args.many.now.entries in
    let there : at holders c.args.p ≡ Some c.in-Ok-Some.holder = sym c.in-Ok-Some.ensures.old ∙ c.in-Ok-Some.field-0-is in
    put-again c.insert-in-Ok-Some.result holders c.insert.new.self.entries c.insert-in-Ok-Some.new.self.entries c.args.p c.args.q c.in-Ok-Some.holder c.requires there
    c.in-Ok-Some.ensures.entries c.in-Ok-Some.ensures.updates.0 c.insert-in-Ok-Some.ensures.entries c.insert-in-Ok-Some.ensures.absent
