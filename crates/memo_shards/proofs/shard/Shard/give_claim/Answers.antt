use Rattle.std.proofs.Common.{◌≡◌, ◌∷◌, [], ◌++◌, ◌%◌, ◌+◌, List, length, None, sym, ap, subst, ◌∙◌, refl, arith}
use Rattle.std.proofs.lemmas.Bool.{OnTrue_at}
use Rattle.journal_meaning.specs.declared.batch.Query.{Query}
use Rattle.journal_meaning.specs.declared.Entry.{Entry}
use Rattle.journal_meaning.specs.declared.Entry.TheVariants as entry
use Rattle.valid_intervals.specs.Cells.{stored_at}
use Rattle.claim_waiters.specs.Claims.{Claims, claim_at, with_claim}
use Rattle.claim_waiters.proofs.Callers.{length-inserted}
use Rattle.demand_points.specs.Demands.{Demand}
use Rattle.memo_shards.specs.KeptShards.{KeptShard, shard_at}
use Rattle.memo_shards.specs.inner.KeptShards.{waits_in}
use Rattle.memo_shards.specs.inner.View.{Agrees}
use Rattle.memo_shards.specs.Asks.{IsHere}
use Rattle.memo_shards.specs.Grants.{GivesClaim}
use Rattle.memo_shards.proofs.Entries.{none-claimed, claimed-agrees, claimed-shown}
use Rattle.memo_shards.proofs.shard.Shard.give_claim.Goals as goal

pub invariant_of-self-2 : goal.invariant_of-self-2
invariant_of-self-2 g c =
    let b = g.B.BatchName.batch in
    let s = c.self.inside in
    let o = g.B.BatchName.opening s.number in
    let es = s.journal.items in
    let a = c.self.invariant.agrees in
    let p = c.args.p in
    let w = c.args.strand.now in
    let q = w.strand.query.number in
    let free = c.if-not-branch.false in
    let none : claim_at s.claims p ≡ None = c.in_ok-claim.ensures.free.0 free in
    let made : c.claim.new.self ≡ with_claim s.claims q p = OnTrue_at free c.in_ok-claim.ensures.claimed ∙ ap (λ (x : Query). with_claim s.claims x.number p) c.query-q.ensures in
    let here : p.signal % b.shards ≡ s.number = subst (λ (v : KeptShard). IsHere b v p) (sym c.self.view_is) c.requires.here in
    let missed : stored_at (shard_at o es).state.cells p ≡ None = subst (λ (v : KeptShard). stored_at v.shard.state.cells p ≡ None) (sym c.self.view_is) c.requires.missed in
    let unclaimed = none-claimed b o s.number s.store s.claims es a p none in
    let items : c.push_reserved.new.self.items ≡ es ++ entry.Claimed q p ∷ [] =
    c.push_reserved.ensures.items ∙ ap (λ (l : List Entry). l ++ entry.Claimed c.query-q.result.number p ∷ []) c.make_room.ensures.items
    ∙ ap (λ (x : Query). es ++ entry.Claimed x.number p ∷ []) c.query-q.ensures in
    let more : length c.claim.new.self ≡ length s.claims + 1 = ap length made ∙ length-inserted s.claims p (record { q = q; waiters = [] }) none in
    record {
      agrees = subst (λ (l : List Entry). Agrees b o s.number s.store c.claim.new.self l) (sym items) (subst (λ (l : Claims Demand). Agrees b o s.number s.store l (es ++ entry.Claimed q p ∷ [])) (sym made)
          (claimed-agrees b o s.number s.store s.claims es a w c.facts.ensures p c.requires.asks here missed unclaimed));
      room = omega (arith, c.push_reserved.ensures.len, c.push_reserved.ensures.capacity, c.in_ok-make_room.ensures.room, c.len.ensures, more);
    }

pub returns-clause-grant : goal.returns-clause-grant
returns-clause-grant g c =
    let b = g.B.BatchName.batch in
    let s = c.self.inside in
    let o = g.B.BatchName.opening s.number in
    let es = s.journal.items in
    let a = c.self.invariant.agrees in
    let p = c.args.p in
    let w = c.args.strand.now in
    let q = w.strand.query.number in
    let free = c.if-not-branch.false in
    let none : claim_at s.claims p ≡ None = c.in_ok-claim.ensures.free.0 free in
    let made : c.claim.new.self ≡ with_claim s.claims q p = OnTrue_at free c.in_ok-claim.ensures.claimed ∙ ap (λ (x : Query). with_claim s.claims x.number p) c.query-q.ensures in
    let here : p.signal % b.shards ≡ s.number = subst (λ (v : KeptShard). IsHere b v p) (sym c.self.view_is) c.requires.here in
    let missed : stored_at (shard_at o es).state.cells p ≡ None = subst (λ (v : KeptShard). stored_at v.shard.state.cells p ≡ None) (sym c.self.view_is) c.requires.missed in
    let unclaimed = none-claimed b o s.number s.store s.claims es a p none in
    let items : c.push_reserved.new.self.items ≡ es ++ entry.Claimed q p ∷ [] =
    c.push_reserved.ensures.items ∙ ap (λ (l : List Entry). l ++ entry.Claimed c.query-q.result.number p ∷ []) c.make_room.ensures.items
    ∙ ap (λ (x : Query). es ++ entry.Claimed x.number p ∷ []) c.query-q.ensures in (
      refl,
      (
        refl,
        subst (λ (v : KeptShard). GivesClaim v (record { number = s.number; shard = shard_at o c.push_reserved.new.self.items; waiting = waits_in c.claim.new.self }) p w) c.self.view_is
            (subst (λ (l : Claims Demand). GivesClaim (record { number = s.number; shard = shard_at o es; waiting = waits_in s.claims }) (record { number = s.number; shard = shard_at o c.push_reserved.new.self.items; waiting = waits_in l }) p w) (sym made)
            (claimed-shown b o s.number s.store s.claims es a w c.facts.ensures p c.requires.asks here missed unclaimed c.requires.within c.push_reserved.new.self.items items)),
      ),
    )
