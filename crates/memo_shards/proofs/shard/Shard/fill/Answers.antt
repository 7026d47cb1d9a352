use Rattle.std.proofs.Common.{◌≡◌, ◌∷◌, [], ◌++◌, ◌+◌, cond, List, length, Some, None, refl, sym, ap, subst, ◌∙◌, arith}
use Rattle.std.specs.BTreeMap.{is_at}
use Rattle.valid_intervals.specs.declared.Cell.{Cell}
use Rattle.valid_intervals.specs.Cells.{cell_for, point_cmp}
use Rattle.cell_store.specs.Recency.{pushes_out, last_key, after_put}
use Rattle.journal_meaning.specs.States.{holder}
use Rattle.circuit_meaning.specs.Cells.{cell_at}
use Rattle.journal_meaning.specs.declared.batch.Query.{Query}
use Rattle.journal_meaning.specs.declared.Entry.{Entry}
use Rattle.journal_meaning.specs.declared.Entry.TheVariants as entry
use Rattle.plan_machine.specs.Shards.{filled_shard}
use Rattle.claim_waiters.specs.Claims.{Claims, claim_at}
use Rattle.claim_waiters.proofs.Callers.{length-removed}
use Rattle.demand_points.specs.Demands.{Demand}
use Rattle.memo_shards.specs.KeptShards.{KeptShard, shard_at}
use Rattle.memo_shards.specs.inner.KeptShards.{waits_in}
use Rattle.memo_shards.specs.inner.View.{Agrees}
use Rattle.memo_shards.specs.Grants.{TakesCell}
use Rattle.memo_shards.specs.inner.Ends.{after_eviction}
use Rattle.memo_shards.proofs.Entries.{some-held}
use Rattle.memo_shards.proofs.Endings.{filled-fits, waiters-ask, answers-all, filled-items, filled-agrees, filled-shown}
use Rattle.memo_shards.proofs.shard.Shard.fill.Goals as goal

pub record_fill-requires-clause-fits : goal.record_fill-requires-clause-fits
record_fill-requires-clause-fits g c =
    let b = g.B.BatchName.batch in
    let s = c.self.inside in
    let o = g.B.BatchName.opening s.number in
    let es = s.journal.items in
    let a = c.self.invariant.agrees in
    let p = c.args.p in
    let w = c.args.strand.now in
    let q = w.strand.query.number in
    let held : holder (shard_at o es).state.claims p ≡ Some q = subst (λ (v : KeptShard). holder v.shard.state.claims p ≡ Some q) (sym c.self.view_is) c.requires.claimed in
    let right : c.args.cell.now ≡ cell_at b.circuit p = c.requires.right in
    filled-fits b o s.number s.store s.claims es a q p held c.args.cell.now right

pub invariant_of-self-2 : goal.invariant_of-self-2
invariant_of-self-2 g c =
    let b = g.B.BatchName.batch in
    let s = c.self.inside in
    let o = g.B.BatchName.opening s.number in
    let es = s.journal.items in
    let a = c.self.invariant.agrees in
    let p = c.args.p in
    let w = c.args.strand.now in
    let q = w.strand.query.number in
    let held : holder (shard_at o es).state.claims p ≡ Some q = subst (λ (v : KeptShard). holder v.shard.state.claims p ≡ Some q) (sym c.self.view_is) c.requires.claimed in
    let right : c.args.cell.now ≡ cell_at b.circuit p = c.requires.right in
    let items : c.record_fill.new.journal.items ≡ (filled_shard b.capacity q p (cell_at b.circuit p) (shard_at o es)).journal =
    filled-items b o s.number s.store s.claims es a q p held c.facts.ensures c.record_fill.new.journal.items
    (subst (λ (z : Cell). c.record_fill.new.journal.items ≡ after_eviction (cond (pushes_out (cell_for p z) s.store) (last_key s.store.cells) None) es ++ entry.Filled q p z ∷ []) right
    (c.in_ok-record_fill.ensures.items ∙ ap (λ (x : Query). after_eviction (cond (pushes_out (cell_for p c.args.cell.now) s.store) (last_key s.store.cells) None) es ++ entry.Filled x.number p c.args.cell.now ∷ []) c.query-q.ensures)) in
    let fewer : length c.take.new.self + 1 ≡ length s.claims = ap (λ (l : Claims Demand). length l + 1) c.take.ensures.rest ∙ length-removed (is_at (point_cmp p)) s.claims (some-held b o s.number s.store s.claims es a p q held) in
    let put : c.record_fill.new.store ≡ after_put s.store (cell_for p (cell_at b.circuit p)) = c.in_ok-record_fill.ensures.store ∙ ap (λ (z : Cell). after_put s.store (cell_for p z)) right in
    record {
      agrees = subst (λ (l : List Entry). Agrees b o s.number c.record_fill.new.store c.take.new.self l) (sym items)
          (subst (λ (l : Claims Demand). Agrees b o s.number c.record_fill.new.store l (filled_shard b.capacity q p (cell_at b.circuit p) (shard_at o es)).journal) (sym c.take.ensures.rest)
          (filled-agrees b o s.number s.store s.claims es a q p held c.facts.ensures c.record_fill.new.store put));
      room = omega (arith, c.in_ok-record_fill.ensures.len, c.in_ok-record_fill.ensures.capacity, c.self.invariant.room, fewer);
    }

pub returns-clause-taken : goal.returns-clause-taken
returns-clause-taken g c =
    let b = g.B.BatchName.batch in
    let s = c.self.inside in
    let o = g.B.BatchName.opening s.number in
    let es = s.journal.items in
    let a = c.self.invariant.agrees in
    let p = c.args.p in
    let w = c.args.strand.now in
    let q = w.strand.query.number in
    let held : holder (shard_at o es).state.claims p ≡ Some q = subst (λ (v : KeptShard). holder v.shard.state.claims p ≡ Some q) (sym c.self.view_is) c.requires.claimed in
    let right : c.args.cell.now ≡ cell_at b.circuit p = c.requires.right in
    let items : c.record_fill.new.journal.items ≡ (filled_shard b.capacity q p (cell_at b.circuit p) (shard_at o es)).journal =
    filled-items b o s.number s.store s.claims es a q p held c.facts.ensures c.record_fill.new.journal.items
    (subst (λ (z : Cell). c.record_fill.new.journal.items ≡ after_eviction (cond (pushes_out (cell_for p z) s.store) (last_key s.store.cells) None) es ++ entry.Filled q p z ∷ []) right
    (c.in_ok-record_fill.ensures.items ∙ ap (λ (x : Query). after_eviction (cond (pushes_out (cell_for p c.args.cell.now) s.store) (last_key s.store.cells) None) es ++ entry.Filled x.number p c.args.cell.now ∷ []) c.query-q.ensures)) in
    subst (λ (v : KeptShard). TakesCell b v (record { number = s.number; shard = shard_at o c.record_fill.new.journal.items; waiting = waits_in c.take.new.self }) p w c.args.cell.now c.take.result.items) c.self.view_is
    (filled-shown b o s.number s.store s.claims es a q p held c.facts.ensures w refl c.args.cell.now right c.take.result.items c.take.ensures.waiters c.take.new.self c.take.ensures.rest c.record_fill.new.journal.items items)

pub returns-clause-asked : goal.returns-clause-asked
returns-clause-asked g c =
    let b = g.B.BatchName.batch in
    let s = c.self.inside in
    let p = c.args.p in
    let a = c.self.invariant.agrees in
    answers-all b.circuit p c.args.cell.now c.requires.right c.take.result.items (waiters-ask s.claims a.asks p (claim_at s.claims p) refl c.take.result.items c.take.ensures.waiters)
