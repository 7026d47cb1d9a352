use Rattle.std.proofs.Common.{ℕ, List, nat_eq, ap, sym, subst, ◌∙◌}
use Rattle.lru.specs.LruCache.{LruCache, lru_cache, promoted}
use Rattle.valid_intervals.specs.declared.SignalCell.{SignalCell}
use Rattle.cell_store.specs.inner.Notes.{Slots, after_notes, with_note, with_cells, AreRecent}
use Rattle.cell_store.proofs.Celled.{used_as, has_room, recent_used, held_inside}
use Rattle.cell_store.proofs.recent.RecentCells.promote.Goals as goal

pub note-requires : goal.note-requires
note-requires c =
    let was : Slots = after_notes c.self.inside.order.entries c.self.inside.notes.noted in
    has_room was c.self.inside.cells.items c.self.inside.notes.slots c.self.inside.many c.self.inside.order.cap c.args.slot c.self.invariant
    (held_inside c.self.inside.cells.items was c.self.inside.order.cap c.args.self.now c.self.view_is c.args.slot c.requires.there)

pub invariant_of-self : goal.invariant_of-self
invariant_of-self c =
    let was : Slots = after_notes c.self.inside.order.entries c.self.inside.notes.noted in
    subst (λ (l : Slots). AreRecent l c.self.inside.cells.items c.note.new.self.slots c.self.inside.many c.self.inside.order.cap) (sym (c.note.ensures.after c.self.inside.order.entries))
    (subst (λ (k : ℕ). AreRecent (with_note was c.args.slot) c.self.inside.cells.items k c.self.inside.many c.self.inside.order.cap) (sym c.note.ensures.slots)
    (recent_used was c.self.inside.cells.items c.self.inside.notes.slots c.self.inside.many c.self.inside.order.cap c.args.slot c.self.invariant
    (held_inside c.self.inside.cells.items was c.self.inside.order.cap c.args.self.now c.self.view_is c.args.slot c.requires.there)))

pub returns : goal.returns
returns c =
    let was : Slots = after_notes c.self.inside.order.entries c.self.inside.notes.noted in
    ap (λ (l : Slots). lru_cache (with_cells c.self.inside.cells.items l) c.self.inside.order.cap) (c.note.ensures.after c.self.inside.order.entries)
    ∙ ap (λ (l : List (ℕ × SignalCell)). lru_cache l c.self.inside.order.cap)
    (used_as c.self.inside.cells.items c.args.slot was (held_inside c.self.inside.cells.items was c.self.inside.order.cap c.args.self.now c.self.view_is c.args.slot c.requires.there))
    ∙ ap (λ (l : LruCache ℕ SignalCell). lru_cache (promoted (nat_eq c.args.slot) l.entries) l.cap) c.self.view_is
