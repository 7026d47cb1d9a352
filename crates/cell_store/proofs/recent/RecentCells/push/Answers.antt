use Rattle.std.proofs.Common.{◌≡◌, ℕ, ◌+◌, ◌<◌, ◌≤◌, List, ap, sym, subst, ◌∙◌, arith}
use Rattle.cell_store.specs.inner.Notes.{Slots, after_notes, with_note, AreRecent}
use Rattle.cell_store.proofs.Celled.{recent_come, recent_replaced, empty_inside, full_inside, shows_pushed}
use Rattle.cell_store.proofs.recent.RecentCells.push.Goals.{After-note}
use Rattle.cell_store.proofs.recent.RecentCells.push.Goals as goal

-- the slots after it
slots_now : (c : After-note) → after_notes c.self.inside.order.entries c.note.new.self.noted ≡ with_note (after_notes c.self.inside.order.entries c.self.inside.notes.noted) c.args.slot
slots_now c = c.note.ensures.after c.self.inside.order.entries ∙ ap (λ (l : List ℕ). with_note (after_notes c.self.inside.order.entries l) c.args.slot) c.take_room.ensures.noted

more : (c : After-note) → c.self.inside.notes.slots ≤ c.note.new.self.slots
more c = omega (arith, c.take_room.ensures.more, c.note.ensures.slots)

here : (c : After-note) → c.args.slot < c.note.new.self.slots
here c = omega (arith, c.in_ok-take_room.ensures.room, c.note.ensures.slots)

pub invariant_of-self-then-self-get : goal.invariant_of-self-then-self-get
invariant_of-self-then-self-get c =
    let was : Slots = after_notes c.self.inside.order.entries c.self.inside.notes.noted in
    let noted : After-note = (goal.at.invariant_of-self-then-self-get c).After-note in
    let room : c.self.inside.many < c.self.inside.order.cap = omega (arith, c.if-self-get.true, c.get.ensures.value, c.cap.ensures) in
    subst (λ (l : Slots). AreRecent l c.place.new.cells.items c.note.new.self.slots (c.self.inside.many + 1) c.self.inside.order.cap) (sym (slots_now noted))
    (recent_come was c.self.inside.cells.items c.self.inside.notes.slots c.self.inside.many c.self.inside.order.cap c.args.slot c.self.invariant c.place.new.cells.items c.note.new.self.slots c.args.x.now
    c.place.ensures.more (more noted) c.in_ok-place.ensures.room (here noted)
    (empty_inside c.self.inside.cells.items was c.self.inside.order.cap c.args.self.now c.self.view_is c.args.slot c.self.inside.notes.slots c.self.inside.many c.self.invariant c.requires.empty room) room)

pub invariant_of-self-else-self-get : goal.invariant_of-self-else-self-get
invariant_of-self-else-self-get c =
    let was : Slots = after_notes c.self.inside.order.entries c.self.inside.notes.noted in
    let noted : After-note = (goal.at.invariant_of-self-else-self-get c).After-note in
    let full : c.self.inside.order.cap ≤ c.self.inside.many = omega (arith, c.if-self-get.false, c.get.ensures.value, c.cap.ensures) in
    subst (λ (l : Slots). AreRecent l c.place.new.cells.items c.note.new.self.slots c.self.inside.many c.self.inside.order.cap) (sym (slots_now noted))
    (recent_replaced was c.self.inside.cells.items c.self.inside.notes.slots c.self.inside.many c.self.inside.order.cap c.args.slot c.self.invariant c.place.new.cells.items c.note.new.self.slots c.args.x.now
    c.place.ensures.more (more noted) c.in_ok-place.ensures.room (here noted)
    (full_inside c.self.inside.cells.items was c.self.inside.order.cap c.args.self.now c.self.view_is c.args.slot c.self.inside.notes.slots c.self.inside.many c.self.invariant c.requires.held full))

pub returns-then-self-get-clause-entries : goal.returns-then-self-get-clause-entries
returns-then-self-get-clause-entries c =
    let noted : After-note = (goal.at.returns-then-self-get-clause-entries c).After-note in
    shows_pushed c.self.inside.cells.items (after_notes c.self.inside.order.entries c.self.inside.notes.noted) c.self.inside.order.cap c.args.self.now c.self.view_is c.args.slot c.self.inside.notes.slots c.self.inside.many c.self.invariant
    c.place.new.cells.items c.note.new.self.slots c.args.x.now (after_notes c.self.inside.order.entries c.note.new.self.noted) c.place.ensures.more (more noted) c.in_ok-place.ensures.room (here noted) c.in_ok-place.ensures.here
    c.place.ensures.others c.requires.empty c.requires.held (slots_now noted)

pub returns-else-self-get-clause-entries : goal.returns-else-self-get-clause-entries
returns-else-self-get-clause-entries c =
    let noted : After-note = (goal.at.returns-else-self-get-clause-entries c).After-note in
    shows_pushed c.self.inside.cells.items (after_notes c.self.inside.order.entries c.self.inside.notes.noted) c.self.inside.order.cap c.args.self.now c.self.view_is c.args.slot c.self.inside.notes.slots c.self.inside.many c.self.invariant
    c.place.new.cells.items c.note.new.self.slots c.args.x.now (after_notes c.self.inside.order.entries c.note.new.self.noted) c.place.ensures.more (more noted) c.in_ok-place.ensures.room (here noted) c.in_ok-place.ensures.here
    c.place.ensures.others c.requires.empty c.requires.held (slots_now noted)
