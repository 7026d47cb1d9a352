use Rattle.std.proofs.Common.{List, All, subst}
use Rattle.memo_shards.specs.KeptShards.{KeptShard, IsKnownShard}
use Rattle.plan_core.proofs.Freeing.{known-shards}
use Rattle.plan_core.proofs.asked.memo.begin.Goals as goal

pub returns-in_err-places-clause-shards : goal.returns-in_err-places-clause-shards
returns-in_err-places-clause-shards g c =
    let b = g.B.BatchName.batch in
    known-shards b g.B.BatchName.opening c.args.shards.items c.requires.count c.requires.numbers (subst (λ (ms : List KeptShard). All (IsKnownShard b g.B.BatchName.opening) ms) c.deref.ensures.value c.know_all.ensures)
