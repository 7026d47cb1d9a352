use Rattle.std.proofs.Common.{◌≡◌, ◌∷◌, [], ◌++◌, ◌%◌, List, IfSome, sym, ap, subst, ◌∙◌, arith}
use Rattle.journal_meaning.specs.declared.batch.Query.{Query}
use Rattle.cell_store.specs.Recency.{with_cells}
use Rattle.journal_meaning.specs.declared.Entry.{Entry}
use Rattle.journal_meaning.specs.declared.Entry.TheVariants as entry
use Rattle.valid_intervals.specs.Cells.{cell_for, to_front}
use Rattle.memo_shards.specs.KeptShards.{KeptShard, shard_at}
use Rattle.memo_shards.specs.inner.KeptShards.{waits_in}
use Rattle.memo_shards.specs.inner.View.{Agrees}
use Rattle.memo_shards.specs.Asks.{IsHere}
use Rattle.memo_shards.specs.Grants.{TellsCell}
use Rattle.memo_shards.proofs.Entries.{told, told-agrees, told-shown}
use Rattle.memo_shards.proofs.shard.Shard.tell.Goals as goal

pub invariant_of-self-in-Some : goal.invariant_of-self-in-Some
invariant_of-self-in-Some g c =
    let b = g.B.BatchName.batch in
    let s = c.self.inside in
    let o = g.B.BatchName.opening s.number in
    let es = s.journal.items in
    let a = c.self.invariant.agrees in
    let p = c.args.p in
    let w = c.args.strand.now in
    let here : p.signal % b.shards ≡ s.number = subst (λ (v : KeptShard). IsHere b v p) (sym c.self.view_is) c.requires.here in
    let t = told b o s.number s.store s.claims es a w c.facts.ensures p c.requires.asks here c.in-Some.cell (sym c.find.ensures.found ∙ c.in-Some.is) in
    let items : c.push_reserved.new.self.items ≡ es ++ entry.Told w.strand.query.number p c.in-Some.cell ∷ [] =
    c.push_reserved.ensures.items ∙ ap (λ (l : List Entry). l ++ c.told.result ∷ []) c.make_room.ensures.items
    ∙ ap (λ (e : Entry). es ++ e ∷ []) (c.told.ensures ∙ ap (λ (x : Query). entry.Told x.number p c.in-Some.cell) c.query-q.ensures) in
    record {
      agrees = subst (λ (l : List Entry). Agrees b o s.number c.find.new.self s.claims l) (sym items) (told-agrees b o s.number s.store s.claims es a p w.strand.query.number c.in-Some.cell t c.find.new.self
          (subst (λ o. IfSome o (λ cell. c.find.new.self ≡ with_cells s.store (to_front (cell_for p cell) s.store.cells))) c.in-Some.is c.find.ensures.used));
      room = omega (arith, c.push_reserved.ensures.len, c.push_reserved.ensures.capacity, c.in_ok-make_room.ensures.room, c.len.ensures);
    }

pub returns-in-Some : goal.returns-in-Some
returns-in-Some g c =
    let b = g.B.BatchName.batch in
    let s = c.self.inside in
    let o = g.B.BatchName.opening s.number in
    let es = s.journal.items in
    let a = c.self.invariant.agrees in
    let p = c.args.p in
    let w = c.args.strand.now in
    let here : p.signal % b.shards ≡ s.number = subst (λ (v : KeptShard). IsHere b v p) (sym c.self.view_is) c.requires.here in
    let t = told b o s.number s.store s.claims es a w c.facts.ensures p c.requires.asks here c.in-Some.cell (sym c.find.ensures.found ∙ c.in-Some.is) in
    let items : c.push_reserved.new.self.items ≡ es ++ entry.Told w.strand.query.number p c.in-Some.cell ∷ [] =
    c.push_reserved.ensures.items ∙ ap (λ (l : List Entry). l ++ c.told.result ∷ []) c.make_room.ensures.items
    ∙ ap (λ (e : Entry). es ++ e ∷ []) (c.told.ensures ∙ ap (λ (x : Query). entry.Told x.number p c.in-Some.cell) c.query-q.ensures) in (
      subst (λ (v : KeptShard). TellsCell v (record { number = s.number; shard = shard_at o c.push_reserved.new.self.items; waiting = waits_in s.claims }) p w c.in-Some.cell) c.self.view_is
          (told-shown b o s.number s.store s.claims es a w p c.in-Some.cell t c.push_reserved.new.self.items items),
      (p, c.requires.asks, t.answer),
    )
