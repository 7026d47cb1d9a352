use Rattle.demand_points.proofs.PartLemmas.{skips-none, skips-on, roots-nearer}
use Rattle.demand_points.proofs.parts.Parts.skip_roots.Goals as goal

pub roots-init : goal.roots-init
roots-init c = skips-none c.args.design.now.circuit c.args.self.now c.requires.running c.requires.empty

pub roots-smaller : goal.roots-smaller
roots-smaller c = roots-nearer c.args.design.now.circuit c.facts.ensures.circuit c.args.self.now c.roots.self c.roots.invariant c.in-Some.cell c.in-Some.ensures c.end-self.result c.end-self.ensures.end

pub roots-preserved : goal.roots-preserved
roots-preserved c = skips-on c.args.design.now.circuit c.facts.ensures.circuit c.args.self.now c.roots.self c.roots.invariant c.in-Some.cell c.in-Some.ensures c.end-self.result c.end-self.ensures.end
