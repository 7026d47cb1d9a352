use Rattle.std.proofs.Common.{◌≡◌, None, IsSome, ◌≤◌, ◌+◌, ◌*◌, sym, subst, vec_len, vec_capacity}
use Rattle.std.specs.BTreeMap.{is_at}
use Rattle.journal_meaning.specs.States.{holder}
use Rattle.valid_intervals.specs.Cells.{stored_at, point_cmp}
use Rattle.claim_waiters.specs.Claims.{Claims}
use Rattle.claim_waiters.proofs.Callers.{length-waited}
use Rattle.demand_points.specs.Demands.{Demand}
use Rattle.memo_shards.specs.KeptShards.{KeptShard, shard_at}
use Rattle.memo_shards.specs.inner.KeptShards.{waits_in}
use Rattle.memo_shards.specs.inner.View.{IsMemo}
use Rattle.memo_shards.specs.Asks.{OfPark}
use Rattle.memo_shards.proofs.Entries.{by_case, waited-agrees, parked}
use Rattle.memo_shards.proofs.shard.Shard.park.Goals as goal

pub invariant_of-self : goal.invariant_of-self
invariant_of-self g c =
    let b = g.B.BatchName.batch in
    let s = c.self.inside in
    let P = λ (cs : Claims Demand). IsMemo b (g.B.BatchName.opening s.number) (record s { claims = cs }) in
    by_case c.wait.result _ _ _ c.wait.ensures.ok c.wait.ensures.err
    (λ e. subst P (sym e) (record {
      agrees = waited-agrees b (g.B.BatchName.opening s.number) s.number s.store s.claims s.journal.items c.self.invariant.agrees c.args.strand c.args.p c.requires.asks;
      room = subst (λ k. vec_len s.journal + 2 * k ≤ vec_capacity s.journal) (sym (length-waited (is_at (point_cmp c.args.p)) s.claims c.args.strand)) c.self.invariant.room;
    }))
    (λ e. subst P (sym e) c.self.invariant)

pub returns : goal.returns
returns g c =
    let b = g.B.BatchName.batch in
    let s = c.self.inside in
    let o = g.B.BatchName.opening s.number in
    let es = s.journal.items in
    let p = c.args.p in
    let missed : stored_at (shard_at o es).state.cells p ≡ None = subst (λ (v : KeptShard). stored_at v.shard.state.cells p ≡ None) (sym c.self.view_is) c.requires.missed in
    let held : IsSome (holder (shard_at o es).state.claims p) = subst (λ (v : KeptShard). IsSome (holder v.shard.state.claims p)) (sym c.self.view_is) c.requires.claimed in
    subst (λ (v : KeptShard). OfPark v (record { number = s.number; shard = shard_at o es; waiting = waits_in c.wait.new.self }) p c.args.strand c.wait.result) c.self.view_is
    (parked b o s.number s.store s.claims es c.self.invariant.agrees c.args.strand p c.requires.asks missed held c.facts.ensures c.wait.result c.wait.new.self c.wait.ensures.ok c.wait.ensures.err c.wait.ensures.back)
