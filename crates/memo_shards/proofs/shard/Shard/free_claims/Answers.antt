use Rattle.std.proofs.Common.{◌≡◌, List, ◌++◌, map, sym, subst, arith, length, ap}
use Rattle.journal_meaning.specs.declared.Entry.{Entry}
use Rattle.claim_waiters.specs.Claims.{Claims}
use Rattle.demand_points.specs.Demands.{Demand}
use Rattle.memo_shards.specs.KeptShards.{KeptShard, shard_at}
use Rattle.memo_shards.specs.inner.KeptShards.{waits_in}
use Rattle.memo_shards.specs.inner.View.{Agrees}
use Rattle.memo_shards.specs.Ends.{FreesAll}
use Rattle.memo_shards.specs.inner.Ends.{drop_of}
use Rattle.memo_shards.proofs.Freed.{freed-agrees, freed-shown}
use Rattle.memo_shards.proofs.shard.Shard.free_claims.Goals as goal

pub invariant_of-self : goal.invariant_of-self
invariant_of-self g c =
    let b = g.B.BatchName.batch in
    let s = c.self.inside in
    let o = g.B.BatchName.opening s.number in
    let es = s.journal.items in
    let a = c.self.invariant.agrees in
    let none : length c.drop_all.new.claims ≡ 0 = ap length c.drop_all.ensures.claims in
    record {
      agrees = subst (λ (l : List Entry). Agrees b o s.number s.store c.drop_all.new.claims l) (sym c.drop_all.ensures.items) (subst (λ (l : Claims Demand). Agrees b o s.number s.store l (es ++ map drop_of s.claims)) (sym c.drop_all.ensures.claims)
          (freed-agrees b o s.number s.store s.claims c.facts.ensures es a));
      room = omega (arith, none, c.drop_all.ensures.room);
    }

pub returns : goal.returns
returns g c =
    let b = g.B.BatchName.batch in
    let s = c.self.inside in
    let o = g.B.BatchName.opening s.number in
    let es = s.journal.items in
    let a = c.self.invariant.agrees in
    subst (λ (v : KeptShard). FreesAll v (record { number = s.number; shard = shard_at o c.drop_all.new.journal.items; waiting = waits_in c.drop_all.new.claims })) c.self.view_is
    (freed-shown b o s.number s.store s.claims c.facts.ensures es a c.drop_all.new.claims c.drop_all.ensures.claims c.drop_all.new.journal.items c.drop_all.ensures.items)
