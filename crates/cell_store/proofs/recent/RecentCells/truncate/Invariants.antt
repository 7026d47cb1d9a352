use Rattle.std.proofs.Common.{◌≡◌, ◌+◌, ◌-◌, ◌≤◌, [], length, vec_len, vec_capacity}
use Rattle.lru.specs.LruCache.{lru_cache}
use Rattle.cell_store.specs.inner.Notes.{with_cells, AreRecent}
use Rattle.cell_store.proofs.Trims.{IsCut}
use Rattle.cell_store.proofs.recent.RecentCells.truncate.Given as goal

abbrev pub invariant-loop-self : goal.invariant-loop-self
invariant-loop-self l = record {
  cut : IsCut (lru_cache (with_cells l.self-inside.cells.items l.self-inside.order.entries) l.self-inside.order.cap) l.fn.self l.n l.gone.items;
  recent : AreRecent l.self-inside.order.entries l.self-inside.cells.items l.self-inside.notes.slots (length l.self-inside.order.entries) l.self-inside.order.cap;
  notes : l.self-inside.notes.noted ≡ [];
  room : vec_len l.gone + (length l.self-inside.order.entries - l.n) ≤ vec_capacity l.gone;
}

abbrev pub decreases-loop-self : goal.decreases-loop-self
decreases-loop-self l = length l.self-inside.order.entries
