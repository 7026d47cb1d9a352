use Rattle.std.proofs.Common.{◌≡◌, ℕ, ◌∷◌, [], ◌++◌, ◌%◌, List, length, sym, ap, ap₂, subst, ◌∙◌, arith}
use Rattle.journal_meaning.specs.declared.batch.Query.{Query}
use Rattle.journal_meaning.specs.declared.Entry.{Entry}
use Rattle.journal_meaning.specs.declared.Entry.TheVariants as entry
use Rattle.plan_machine.specs.Shards.{shard_with_entry}
use Rattle.memo_shards.specs.KeptShards.{KeptShard, shard_at}
use Rattle.memo_shards.specs.inner.KeptShards.{waits_in}
use Rattle.memo_shards.specs.inner.View.{Agrees}
use Rattle.memo_shards.specs.Asks.{IsHere, IsUnfound}
use Rattle.memo_shards.specs.Ends.{with_shard}
use Rattle.memo_shards.proofs.Endings.{spent-agrees, spent-shown}
use Rattle.memo_shards.proofs.shard.Shard.spend.Goals as goal

pub invariant_of-self-2 : goal.invariant_of-self-2
invariant_of-self-2 g c =
    let b = g.B.BatchName.batch in
    let s = c.self.inside in
    let o = g.B.BatchName.opening s.number in
    let es = s.journal.items in
    let a = c.self.invariant.agrees in
    let p = c.args.p in
    let w = c.args.strand.now in
    let q = w.strand.query.number in
    let k = length w.strand.stack in
    let here : p.signal % b.shards ≡ s.number = subst (λ (v : KeptShard). IsHere b v p) (sym c.self.view_is) c.requires.here in
    let un : IsUnfound (record { number = s.number; shard = shard_at o es; waiting = waits_in s.claims }) p = subst (λ (v : KeptShard). IsUnfound v p) (sym c.self.view_is) c.requires.unfound in
    let items : c.push_reserved.new.self.items ≡ es ++ entry.Spent q p k ∷ [] =
    c.push_reserved.ensures.items ∙ ap (λ (l : List Entry). l ++ entry.Spent c.query-q.result.number p c.claims-claims.result ∷ []) c.make_room.ensures.items
    ∙ ap₂ (λ (x : Query) (n : ℕ). es ++ entry.Spent x.number p n ∷ []) c.query-q.ensures c.claims-claims.ensures in
    record {
      agrees = subst (λ (l : List Entry). Agrees b o s.number s.store s.claims l) (sym items) (spent-agrees b o s.number s.store s.claims es a w c.facts.ensures p c.requires.refused here un.missed un.unclaimed);
      room = omega (arith, c.push_reserved.ensures.len, c.push_reserved.ensures.capacity, c.in_ok-make_room.ensures.room, c.len.ensures);
    }

pub returns-clause-ok : goal.returns-clause-ok
returns-clause-ok g c =
    let b = g.B.BatchName.batch in
    let s = c.self.inside in
    let o = g.B.BatchName.opening s.number in
    let es = s.journal.items in
    let a = c.self.invariant.agrees in
    let p = c.args.p in
    let w = c.args.strand.now in
    let q = w.strand.query.number in
    let k = length w.strand.stack in
    let here : p.signal % b.shards ≡ s.number = subst (λ (v : KeptShard). IsHere b v p) (sym c.self.view_is) c.requires.here in
    let un : IsUnfound (record { number = s.number; shard = shard_at o es; waiting = waits_in s.claims }) p = subst (λ (v : KeptShard). IsUnfound v p) (sym c.self.view_is) c.requires.unfound in
    let items : c.push_reserved.new.self.items ≡ es ++ entry.Spent q p k ∷ [] =
    c.push_reserved.ensures.items ∙ ap (λ (l : List Entry). l ++ entry.Spent c.query-q.result.number p c.claims-claims.result ∷ []) c.make_room.ensures.items
    ∙ ap₂ (λ (x : Query) (n : ℕ). es ++ entry.Spent x.number p n ∷ []) c.query-q.ensures c.claims-claims.ensures in
    ap (λ (l : List Entry). record { number = s.number; shard = shard_at o l; waiting = waits_in s.claims }) items
    ∙ spent-shown b o s.number s.store s.claims es a w c.facts.ensures p c.requires.refused here un.missed un.unclaimed
    ∙ ap (λ (v : KeptShard). with_shard v (shard_with_entry (entry.Spent q p k) v.shard)) c.self.view_is
