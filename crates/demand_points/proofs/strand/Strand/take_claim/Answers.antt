use Rattle.std.proofs.Common.{◌≡◌, ◌<◌, sym, subst}
use Rattle.std.proofs.lemmas.Bool.{false≢true}
use Rattle.plan_machine.specs.declared.strand.Next.TheVariants.{Ask}
use Rattle.plan_machine.specs.Strands.{next}
use Rattle.demand_points.specs.Demands.{Demand}
use Rattle.demand_points.specs.inner.Demands.{strand_of}
use Rattle.demand_points.proofs.Keeps.{claimed-demand}
use Rattle.demand_points.proofs.strand.Strand.take_claim.Goals as goal

pub invariant_of-self-2 : goal.invariant_of-self-2
invariant_of-self-2 g c =
    let b = g.B.BatchName.batch in
    let s = c.self.inside.parts in
    let asks : next (strand_of b.circuit s) ≡ Ask c.args.p = subst (λ (v : Demand). next v.strand ≡ Ask c.args.p) (sym c.self.view_is) c.requires.asks in
    let room : s.charged < s.budget = subst (λ (v : Demand). v.strand.charged < v.strand.budget) (sym c.self.view_is) c.requires.room in
    (claimed-demand b c.design.result.now.circuit c.design.ensures.circuit s c.claim.new.self c.self.invariant.0 c.args.p asks room c.in_ok-claim.ensures.ok, λ h. absurd (false≢true h))
