use Rattle.std.proofs.Common.{List, sym, subst}
use Rattle.std.specs.List.Sorted.{IsStrictlySortedBy}
use Rattle.valid_intervals.specs.declared.Point.{Point}
use Rattle.valid_intervals.specs.Cells.{point_cmp}
use Rattle.claim_waiters.specs.Claims.{Claims, IsInOrder}
use Rattle.claim_waiters.specs.inner.View.{at, those_in}
use Rattle.claim_waiters.proofs.ClaimLemmas.{keys_of-claims}
use Rattle.claim_waiters.proofs.table.ClaimTable.facts.Goals as goal

pub returns : goal.returns
returns g c =
    subst (λ (v : Claims g.row.W.Denot). IsInOrder v) c.self.view_is
    (subst (λ (l : List Point). IsStrictlySortedBy point_cmp l) (sym (keys_of-claims (λ p. those_in g.W.Waiter.items (at c.self.inside.rooms.entries p)) c.self.inside.holders)) c.self.invariant.0)
