use Rattle.std.proofs.Common.{refl, subst}
use Rattle.memo_shards.specs.KeptShards.{KeptShard, IsKnownShard}
use Rattle.memo_shards.proofs.Entries.{known-shard}
use Rattle.memo_shards.proofs.shard.Shard.facts.Goals as goal

pub returns : goal.returns
returns g c =
    let b = g.B.BatchName.batch in
    let o = g.B.BatchName.opening in
    let s = c.self.inside in
    subst (λ (v : KeptShard). IsKnownShard b o v) c.self.view_is (known-shard b (o s.number) s.number s.store s.claims s.journal.items c.self.invariant.agrees o refl)
