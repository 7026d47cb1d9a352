use Rattle.std.proofs.Common.{◌<◌, length, subst}
use Rattle.std.proofs.lemmas.Option.{IfSome_then}
use Rattle.plan_core.specs.asked.inner.Exact.{IsSaidFor}
use Rattle.plan_core.proofs.Exact.{said-in-one}
use Rattle.plan_core.proofs.asked.reading.said_for.Goals as goal

pub returns : goal.returns
returns g c =
    let ms = c.args.shards.now in
    let m = c.index-shards-home.result in
    let low : c.shard_number-home.result < length ms = c.if-home-shards.false in
    IfSome_then c.seek.result c.seek.ensures.said (λ x h. said-in-one ms c.shard_number-home.result m c.args.p x low c.index-shards-home.is (subst (λ l. IsSaidFor l c.args.p x) c.journal.ensures h))
