use Rattle.std.proofs.Common.{◌≡◌, ◌∷◌, [], ◌++◌, ◌+◌, List, length, Some, refl, sym, ap, subst, ◌∙◌, arith}
use Rattle.std.specs.BTreeMap.{is_at}
use Rattle.journal_meaning.specs.States.{holder}
use Rattle.journal_meaning.specs.declared.batch.Query.{Query}
use Rattle.journal_meaning.specs.declared.Entry.{Entry}
use Rattle.journal_meaning.specs.declared.Entry.TheVariants as entry
use Rattle.claim_waiters.specs.Claims.{Claims}
use Rattle.valid_intervals.specs.Cells.{point_cmp}
use Rattle.claim_waiters.proofs.Callers.{length-removed}
use Rattle.demand_points.specs.Demands.{Demand}
use Rattle.memo_shards.specs.KeptShards.{KeptShard, shard_at}
use Rattle.memo_shards.specs.inner.KeptShards.{waits_in}
use Rattle.memo_shards.specs.inner.View.{Agrees}
use Rattle.memo_shards.specs.Grants.{TakesBack}
use Rattle.memo_shards.proofs.Entries.{some-held}
use Rattle.memo_shards.proofs.Endings.{dropped-agrees, dropped-shown}
use Rattle.memo_shards.proofs.shard.Shard.take_back.Goals as goal

pub invariant_of-self : goal.invariant_of-self
invariant_of-self g c =
    let b = g.B.BatchName.batch in
    let s = c.self.inside in
    let o = g.B.BatchName.opening s.number in
    let es = s.journal.items in
    let a = c.self.invariant.agrees in
    let p = c.args.p in
    let w = c.args.strand.now in
    let q = w.strand.query.number in
    let held : holder (shard_at o es).state.claims p ≡ Some q = subst (λ (v : KeptShard). holder v.shard.state.claims p ≡ Some q) (sym c.self.view_is) c.requires.claimed in
    let items : c.push_reserved.new.self.items ≡ es ++ entry.Dropped q p ∷ [] = c.push_reserved.ensures.items ∙ ap (λ (x : Query). es ++ entry.Dropped x.number p ∷ []) c.query-q.ensures in
    let fewer : length c.take-waited.new.self + 1 ≡ length s.claims = ap (λ (l : Claims Demand). length l + 1) c.take-waited.ensures.rest ∙ length-removed (is_at (point_cmp p)) s.claims (some-held b o s.number s.store s.claims es a p q held) in
    record {
      agrees = subst (λ (l : List Entry). Agrees b o s.number s.store c.take-waited.new.self l) (sym items) (subst (λ (l : Claims Demand). Agrees b o s.number s.store l (es ++ entry.Dropped q p ∷ [])) (sym c.take-waited.ensures.rest)
          (dropped-agrees b o s.number s.store s.claims es a q p held c.facts.ensures));
      room = omega (arith, c.push_reserved.ensures.len, c.push_reserved.ensures.capacity, c.self.invariant.room, fewer);
    }

pub returns : goal.returns
returns g c =
    let b = g.B.BatchName.batch in
    let s = c.self.inside in
    let o = g.B.BatchName.opening s.number in
    let es = s.journal.items in
    let a = c.self.invariant.agrees in
    let p = c.args.p in
    let w = c.args.strand.now in
    let q = w.strand.query.number in
    let held : holder (shard_at o es).state.claims p ≡ Some q = subst (λ (v : KeptShard). holder v.shard.state.claims p ≡ Some q) (sym c.self.view_is) c.requires.claimed in
    let items : c.push_reserved.new.self.items ≡ es ++ entry.Dropped q p ∷ [] = c.push_reserved.ensures.items ∙ ap (λ (x : Query). es ++ entry.Dropped x.number p ∷ []) c.query-q.ensures in
    subst (λ (v : KeptShard). TakesBack v (record { number = s.number; shard = shard_at o c.push_reserved.new.self.items; waiting = waits_in c.take-waited.new.self }) p w c.take-waited.result.items) c.self.view_is
    (dropped-shown b o s.number s.store s.claims es a q p held c.facts.ensures w refl c.take-waited.result.items c.take-waited.ensures.waiters c.take-waited.new.self c.take-waited.ensures.rest c.push_reserved.new.self.items items)
