use Rattle.std.proofs.Common.{◌≡◌, sym, subst}
use Rattle.std.proofs.lemmas.Bool.{false≢true}
use Rattle.plan_machine.specs.declared.strand.Next.TheVariants.{Fill}
use Rattle.plan_machine.specs.Strands.{next}
use Rattle.demand_points.specs.Demands.{Demand}
use Rattle.demand_points.specs.inner.Demands.{strand_of}
use Rattle.demand_points.proofs.Keeps.{fill-room, finished-demand}
use Rattle.demand_points.proofs.strand.Strand.finish_with.Goals as goal

pub finish-requires-clause-room : goal.finish-requires-clause-room
finish-requires-clause-room g c =
    let b = g.B.BatchName.batch in
    let s = c.self.inside.parts in
    let p = c.requires.fills.0 in
    let fills : next (strand_of b.circuit s) ≡ Fill p = subst (λ (v : Demand). next v.strand ≡ Fill p) (sym c.self.view_is) c.requires.fills.1 in
    fill-room b s c.self.invariant.0 p fills

pub invariant_of-self : goal.invariant_of-self
invariant_of-self g c =
    let b = g.B.BatchName.batch in
    let s = c.self.inside.parts in
    let p = c.requires.fills.0 in
    let fills : next (strand_of b.circuit s) ≡ Fill p = subst (λ (v : Demand). next v.strand ≡ Fill p) (sym c.self.view_is) c.requires.fills.1 in
    (finished-demand b c.design.result.now.circuit c.design.ensures.circuit s c.finish.new.self c.self.invariant.0 p fills c.finish.ensures, λ h. absurd (false≢true h))
