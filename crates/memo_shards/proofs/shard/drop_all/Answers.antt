use Rattle.std.proofs.Common.{sym, vec_len, vec_capacity}
use Rattle.memo_shards.proofs.Freed.{freed-more}
use Rattle.memo_shards.proofs.shard.drop_all.Goals as goal

pub claims-preserved : goal.claims-preserved
claims-preserved g c =
    freed-more c.args.claims.now c.claims.claims c.args.journal.now.items c.claims.journal.items (vec_len c.claims.journal) (vec_capacity c.claims.journal) c.claims.invariant
    c.in-Some.q c.in-Some.p (sym c.in-Some.ensures.first) c.end_claim.new.claims c.end_claim.ensures c.push_reserved.new.self.items c.push_reserved.ensures.items
    (vec_len c.push_reserved.new.self) (vec_capacity c.push_reserved.new.self) c.push_reserved.ensures.len c.push_reserved.ensures.capacity
