use Rattle.std.proofs.Common.{◌∙◌}
use Rattle.plan_core.proofs.Beginning.{pause-first, pause-one, pause-last}
use Rattle.plan_core.proofs.places.pause_all.Goals as goal

pub loop-strand-init : goal.loop-strand-init
loop-strand-init g c = let k = c.into_iter-strand-iterator.ensures.into_iter_gives in let l = c.args.strands.ok in (tt, tt, pause-first c.args.strands.items _ c.new-places.result.items _ c.new-places.ensures.items k.0 (k.1 ∙ l.0))

pub loop-strand-preserved : goal.loop-strand-preserved
loop-strand-preserved g c =
    (tt, tt, pause-one c.args.strands.items c.loop-strand.places.items c.push.new.self.items _ _ _ _ c.in-Some.strand c.new.result c.loop-strand.invariant.2 c.in-Some.ensures.steps.0 c.in-Some.ensures.steps.1 c.new.ensures c.in_ok-push.ensures.items)

pub returns : goal.returns
returns g c = pause-last c.args.strands.items c.loop-strand.places.items _ _ c.loop-strand.invariant.2 c.in-None.ensures.steps.0
