use Rattle.std.proofs.Common.{◌≡◌, ◌+◌, ◌-◌, ◌≤◌, length, None, vec_len, vec_capacity}
use Rattle.cell_store.specs.inner.Maps.{place_of}
use Rattle.cell_store.proofs.Trims.{IsTrimming}
use Rattle.cell_store.proofs.store.CellStore.trim.Given as goal

abbrev pub invariant-loop-slot : goal.invariant-loop-slot
invariant-loop-slot l = record {
  front : l.self-inside.front ≡ None;
  trimming : IsTrimming (place_of l.self-inside.index) l.self-inside.cache l.self-inside.free.items l.left l.slot-items l.slot-index l.keys.items l.fn.self;
  room : vec_len l.keys + (length l.slot-items - l.slot-index) ≤ vec_capacity l.keys;
  places : vec_len l.self-inside.free + (length l.slot-items - l.slot-index) ≤ vec_capacity l.self-inside.free;
}
