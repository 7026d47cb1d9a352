use Rattle.std.proofs.Common.{◌≡◌, ℕ, nat_eq, List, Some, option_map, sym, ap, subst, ◌∙◌}
use Rattle.std.specs.List.{slice_get}
use Rattle.std.specs.Map.{lookup_entry}
use Rattle.cell_store.specs.inner.Maps.{place_of}
use Rattle.lru.specs.LruCache.{LruCache}
use Rattle.valid_intervals.specs.declared.SignalCell.{SignalCell}
use Rattle.valid_intervals.specs.Cells.{covers, cell_for, to_front, stored_at}
use Rattle.cell_store.specs.Recency.{Contents, contents, with_cells}
use Rattle.cell_store.specs.inner.Index.{end_in, cells_of, IsInFront, IsSoundStore}
use Rattle.cell_store.proofs.Placed.{none_found}
use Rattle.cell_store.proofs.Calls.{IsFound, is_found}
use Rattle.cell_store.proofs.Entries.{is_there}
use Rattle.cell_store.proofs.Front.{front_found, front_stays}
use Rattle.cell_store.proofs.store.CellStore.find.Goals.{In-Some, After-promote}
use Rattle.cell_store.proofs.store.CellStore.find.Goals as goal

pub promote-requires : goal.promote-requires
promote-requires c =
    let found : IsFound (place_of c.self.inside.index) c.self.inside.cache.entries c.self.inside.free.items c.self.inside.cache.cap c.in-Some-covering_cell.slot c.args.p c.in-Some-covering_cell.cell =
    is_found (place_of c.self.inside.index) c.self.inside.cache.entries c.self.inside.free.items c.self.inside.cache.cap c.in-Some-covering_cell.slot c.args.p c.in-Some-covering_cell.cell c.self.invariant.0
    (c.in-Some-covering_cell.ensures c.self.inside.cache.entries c.self.invariant.0.found) in
    record { there = is_there (lookup_entry (nat_eq c.in-Some-covering_cell.slot) c.self.inside.cache.entries) (c.in-Some-covering_cell.slot, found.x) found.used.there }

found : (c : After-promote) → IsFound (place_of c.self.inside.index) c.self.inside.cache.entries c.self.inside.free.items c.self.inside.cache.cap c.in-Some-covering_cell.slot c.args.p c.in-Some-covering_cell.cell
found c =
    is_found (place_of c.self.inside.index) c.self.inside.cache.entries c.self.inside.free.items c.self.inside.cache.cap c.in-Some-covering_cell.slot c.args.p c.in-Some-covering_cell.cell c.self.invariant.0
    (c.in-Some-covering_cell.ensures c.self.inside.cache.entries c.self.invariant.0.found)

pub invariant_of-self : goal.invariant_of-self
invariant_of-self c =
    let is : IsFound (place_of c.self.inside.index) c.self.inside.cache.entries c.self.inside.free.items c.self.inside.cache.cap c.in-Some-covering_cell.slot c.args.p c.in-Some-covering_cell.cell = found ((goal.at.invariant_of-self c).After-promote) in (
      subst (λ (l : LruCache ℕ SignalCell). IsSoundStore (place_of c.self.inside.index) l.entries c.self.inside.free.items l.cap) (sym c.promote.ensures) is.used.sound,
      ap (λ (l : LruCache ℕ SignalCell). slice_get l.entries 0) c.promote.ensures ∙ is.used.first ∙ ap (λ (x : SignalCell). Some (c.in-Some-covering_cell.slot, x)) (is.is ∙ sym c.cell_found.ensures),
    )

pub returns-clause-found : goal.returns-clause-found
returns-clause-found c =
    let is : IsFound (place_of c.self.inside.index) c.self.inside.cache.entries c.self.inside.free.items c.self.inside.cache.cap c.in-Some-covering_cell.slot c.args.p c.in-Some-covering_cell.cell = found ((goal.at.returns-clause-found c).After-promote) in
    ap (λ (x : SignalCell). Some x.cell) (sym is.is) ∙ sym (ap (option_map (λ (x : SignalCell). x.cell)) is.found)
    ∙ ap (λ (s : Contents). option_map (λ (x : SignalCell). x.cell) (stored_at s.cells c.args.p)) c.self.view_is

pub returns-clause-used : goal.returns-clause-used
returns-clause-used c =
    let is : IsFound (place_of c.self.inside.index) c.self.inside.cache.entries c.self.inside.free.items c.self.inside.cache.cap c.in-Some-covering_cell.slot c.args.p c.in-Some-covering_cell.cell = found ((goal.at.returns-clause-used c).After-promote) in
    ap (λ (l : LruCache ℕ SignalCell). contents l.cap (cells_of l.entries)) c.promote.ensures
    ∙ ap (λ (l : List SignalCell). contents c.self.inside.cache.cap l) is.used.cells
    ∙ ap (λ (x : SignalCell). contents c.self.inside.cache.cap (to_front x (cells_of c.self.inside.cache.entries))) is.is
    ∙ ap (λ (s : Contents). with_cells s (to_front (cell_for c.args.p c.in-Some-covering_cell.cell) s.cells)) c.self.view_is

pub returns-in_default-covering_cell-clause-found : goal.returns-in_default-covering_cell-clause-found
returns-in_default-covering_cell-clause-found c =
    sym (ap (option_map (λ (x : SignalCell). x.cell)) (none_found c.self.inside.cache.entries (covers c.args.p) (sym c.in_default-covering_cell.is ∙ c.covering_cell.ensures c.self.inside.cache.entries c.self.invariant.0.found)))
    ∙ ap (λ (s : Contents). option_map (λ (x : SignalCell). x.cell) (stored_at s.cells c.args.p)) c.self.view_is

in_front : (c : In-Some) → IsInFront c.self.inside.cache.entries c.args.p c.in-Some.cell
in_front c = c.in-Some.ensures c.self.inside.cache.entries c.self.invariant.1

pub returns-in-Some-clause-found : goal.returns-in-Some-clause-found
returns-in-Some-clause-found c =
    sym (ap (option_map (λ (x : SignalCell). x.cell)) (front_found c.self.inside.cache.entries c.args.p c.in-Some.cell (in_front c)))
    ∙ ap (λ (s : Contents). option_map (λ (x : SignalCell). x.cell) (stored_at s.cells c.args.p)) c.self.view_is

pub returns-in-Some-clause-used : goal.returns-in-Some-clause-used
returns-in-Some-clause-used c =
    subst (λ (s : Contents). s ≡ with_cells s (to_front (cell_for c.args.p c.in-Some.cell) s.cells)) c.self.view_is
    (ap (contents c.self.inside.cache.cap) (sym (front_stays (end_in (place_of c.self.inside.index)) c.self.inside.cache.entries c.args.p c.in-Some.cell c.self.invariant.0.found.indexed (in_front c))))
