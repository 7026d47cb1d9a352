use Rattle.std.proofs.Common.{ap, sym, ◌∙◌}
use Rattle.plan_machine.specs.declared.strand.Next.TheVariants.{Ask}
use Rattle.demand_points.proofs.PartLemmas.{next-root, next-end, ready-root}
use Rattle.demand_points.proofs.parts.Parts.next.Goals as goal

pub returns-then-self-2 : goal.returns-then-self-2
returns-then-self-2 c =
    let d = c.args.design.now.circuit in
    let s = c.args.self.now in
    let v = ready-root d c.facts.ensures.circuit s c.requires.running c.in-None.ensures c.requires.ready c.if-self-2.true in
    ap Ask c.root_point.ensures ∙ sym (next-root d c.facts.ensures.circuit s c.requires.running c.in-None.ensures c.if-self.false c.if-self-2.true v)

pub returns-else-self-2 : goal.returns-else-self-2
returns-else-self-2 c = sym (next-end c.args.design.now.circuit c.facts.ensures.circuit c.args.self.now c.requires.running c.in-None.ensures c.if-self-2.false)
