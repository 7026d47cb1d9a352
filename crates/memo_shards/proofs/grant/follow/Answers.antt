use Rattle.std.proofs.Common.{refl, sym, subst, Ok}
use Rattle.memo_shards.specs.declared.steps.Step.TheVariants as step
use Rattle.memo_shards.specs.Grants.{Follows}
use Rattle.memo_shards.proofs.grant.follow.Goals as goal

pub returns-in-Filled : goal.returns-in-Filled
returns-in-Filled g c =
    subst (λ grant. Follows g.B.BatchName.batch grant c.args.strand.now c.finish_with.new.self (Ok (step.Filled c.hear_all.new.list))) (sym c.in-Filled.is)
    (c.finish_with.ensures, (c.hear_all.new.list, refl, c.hear_all.ensures))
