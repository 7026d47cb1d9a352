use Rattle.std.proofs.Common.{◌≡◌, take}
use Rattle.cell_store.specs.inner.Notes.{after_notes}
use Rattle.cell_store.proofs.notes.Notes.put_into.Given as goal

abbrev pub invariant-loop-slot : goal.invariant-loop-slot
invariant-loop-slot l = record {
  made : l.order.entries ≡ after_notes l.fn.order.entries (take l.slot-index l.slot-items);
  same : after_notes l.order.entries l.slot-items ≡ after_notes l.fn.order.entries l.slot-items;
  cap : l.order.cap ≡ l.fn.order.cap;
}
