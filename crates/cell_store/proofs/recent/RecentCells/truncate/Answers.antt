use Rattle.std.proofs.Common.{◌≡◌, ℕ, [], ◌-◌, ◌<◌, length, sym, ap, subst, ◌∙◌, arith}
use Rattle.std.proofs.lemmas.List.{length-take}
use Rattle.lru.specs.LruCache.{LruCache, lru_cache}
use Rattle.valid_intervals.specs.declared.SignalCell.{SignalCell}
use Rattle.cell_store.specs.inner.Notes.{Slots, after_notes, with_cells}
use Rattle.cell_store.proofs.Celled.{same_recent, all_made, counted, recent_cut, last_cell, cut_cells, length-with_cells}
use Rattle.cell_store.proofs.Trims.{IsCut, cut_none, cut_more}
use Rattle.cell_store.proofs.recent.RecentCells.truncate.Goals as goal

pub loop-self-init : goal.loop-self-init
loop-self-init c =
    let before : Slots = after_notes c.self.inside.order.entries c.self.inside.notes.noted in
    let made : c.put_into.new.order.entries ≡ before = all_made c.put_into.new.order.entries before c.put_into.new.self.noted c.in_ok-put_into.ensures.none c.put_into.ensures.same in
    let view : lru_cache (with_cells c.self.inside.cells.items c.put_into.new.order.entries) c.put_into.new.order.cap ≡ c.args.self.now =
    ap (λ (l : Slots). lru_cache (with_cells c.self.inside.cells.items l) c.put_into.new.order.cap) made ∙ ap (lru_cache (with_cells c.self.inside.cells.items before)) c.put_into.ensures.cap ∙ c.self.view_is in
    record {
      cut = subst (IsCut (lru_cache (with_cells c.self.inside.cells.items c.put_into.new.order.entries) c.put_into.new.order.cap) c.args.self.now c.args.n) (sym c.in_ok-gone.ensures.items)
          (subst (λ (l : LruCache ℕ SignalCell). IsCut l c.args.self.now c.args.n []) (sym view) (cut_none c.args.self.now c.args.n));
      recent = counted c.put_into.new.order.entries c.self.inside.cells.items c.put_into.new.self.slots c.self.inside.many c.put_into.new.order.cap
          (same_recent before c.put_into.new.order.entries c.self.inside.cells.items c.self.inside.notes.slots c.put_into.new.self.slots c.self.inside.many c.self.inside.order.cap c.put_into.new.order.cap made c.put_into.ensures.slots c.put_into.ensures.cap c.self.invariant);
      notes = c.in_ok-put_into.ensures.none;
      room = omega (arith, ap (λ (l : Slots). length l) made, c.self.invariant.many, c.saturating_sub-extra.ensures, c.in_ok-gone.ensures.len, c.in_ok-gone.ensures.capacity);
    }

pub loop-self-preserved : goal.loop-self-preserved
loop-self-preserved c =
    let slots : Slots = c.loop-self.self-inside.order.entries in
    let cap : ℕ = c.loop-self.self-inside.order.cap in
    let more : c.args.n < length slots = omega (arith, c.loop-self-test.true, c.len.ensures.len) in
    let next : c.pop_lru.new.self.entries ≡ _ = ap (λ (l : LruCache ℕ (Unit {0})). l.entries) c.pop_lru.ensures.entries in
    let most : c.pop_lru.new.self.cap ≡ cap = ap (λ (l : LruCache ℕ (Unit {0})). l.cap) c.pop_lru.ensures.entries in
    record {
      cut = subst (IsCut (lru_cache (with_cells c.loop-self.self-inside.cells.items c.pop_lru.new.self.entries) c.pop_lru.new.self.cap) c.args.self.now c.args.n) (sym c.push_reserved.ensures.items)
          (cut_more (lru_cache (with_cells c.loop-self.self-inside.cells.items slots) cap) (lru_cache (with_cells c.loop-self.self-inside.cells.items c.pop_lru.new.self.entries) c.pop_lru.new.self.cap) c.args.self.now c.args.n c.loop-self.gone.items
          (c.in-Some.slot, c.index.result.now) c.loop-self.invariant.cut (omega (arith, more, length-with_cells c.loop-self.self-inside.cells.items slots))
          (last_cell slots c.loop-self.self-inside.cells.items c.loop-self.self-inside.notes.slots (length slots) cap c.in-Some.slot c.index.result.now c.loop-self.invariant.recent c.in-Some.ensures.value c.index.ensures)
          (cut_cells slots c.pop_lru.new.self.entries c.loop-self.self-inside.cells.items cap c.pop_lru.new.self.cap next most));
      recent = recent_cut slots c.pop_lru.new.self.entries c.loop-self.self-inside.cells.items c.loop-self.self-inside.notes.slots (length slots) cap c.pop_lru.new.self.cap (length slots - 1) c.loop-self.invariant.recent next most;
      notes = c.loop-self.invariant.notes;
      room = omega (arith, c.loop-self.invariant.room, c.push_reserved.ensures.len, c.push_reserved.ensures.capacity, ap (λ (l : Slots). length l) next, length-take (length slots - 1) slots, more);
    }

pub invariant_of-self : goal.invariant_of-self
invariant_of-self c =
    same_recent (after_notes c.self.inside.order.entries c.self.inside.notes.noted) (after_notes c.put_into.new.order.entries c.put_into.new.self.noted) c.self.inside.cells.items c.self.inside.notes.slots c.put_into.new.self.slots c.self.inside.many
    c.self.inside.order.cap c.put_into.new.order.cap c.put_into.ensures.same c.put_into.ensures.slots c.put_into.ensures.cap c.self.invariant
