use Rattle.std.proofs.Common.{All, sym, ap, subst, ◌∙◌, option_map, ℕ}
use Rattle.valid_intervals.specs.declared.Point.{Point}
use Rattle.claim_waiters.specs.Claims.{Claims, first_of, IsAtMost}
use Rattle.claim_waiters.specs.inner.View.{at, those_in}
use Rattle.claim_waiters.proofs.ClaimLemmas.{first_of-claims, least-claims}
use Rattle.claim_waiters.proofs.Listed.{first-least}
use Rattle.claim_waiters.proofs.table.ClaimTable.first.Goals as goal

pub returns-clause-first : goal.returns-clause-first
returns-clause-first g c =
    sym (first_of-claims (λ p. those_in g.W.Waiter.items (at c.self.inside.rooms.entries p)) c.self.inside.holders ∙ ap (option_map (λ (e : Point × ℕ). (e.1, e.0))) (sym c.in_ok-p.ensures))
    ∙ ap first_of c.self.view_is

pub returns-clause-least : goal.returns-clause-least
returns-clause-least g c =
    subst (λ (v : Claims g.row.W.Denot). All (λ claimed. IsAtMost c.in_ok-p.p claimed.0) v) c.self.view_is
    (least-claims (λ p. those_in g.W.Waiter.items (at c.self.inside.rooms.entries p)) c.in_ok-p.p c.self.inside.holders (first-least c.self.inside.holders (c.in_ok-p.p, c.in_ok-p.q) c.self.invariant.0 (sym c.in_ok-p.ensures)))
