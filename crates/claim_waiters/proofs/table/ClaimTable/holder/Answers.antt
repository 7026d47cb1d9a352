use Rattle.std.proofs.Common.{ap, ◌∙◌}
use Rattle.claim_waiters.specs.Claims.{Claims, holder_in}
use Rattle.claim_waiters.specs.inner.View.{at, those_in}
use Rattle.claim_waiters.proofs.ClaimLemmas.{holder-claims}
use Rattle.claim_waiters.proofs.table.ClaimTable.holder.Goals as goal

pub returns : goal.returns
returns g c =
    c.get.ensures ∙ holder-claims (λ p. those_in g.W.Waiter.items (at c.self.inside.rooms.entries p)) c.args.p c.self.inside.holders
    ∙ ap (λ (v : Claims g.row.W.Denot). holder_in v c.args.p) c.self.view_is
