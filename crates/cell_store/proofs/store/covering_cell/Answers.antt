use Rattle.std.proofs.Common.{◌<◌, ◌≤◌, ⊎_elim, List, Some, refl, ap, ◌∙◌, arith}
use Rattle.valid_intervals.specs.Spans.{Span, IsSpan}
use Rattle.valid_intervals.specs.Cells.{covers}
use Rattle.cell_store.specs.declared.Key.{Key}
use Rattle.cell_store.specs.declared.index.Place.{Place}
use Rattle.cell_store.specs.inner.Index.{end_in, cells_of, IsPlaced}
use Rattle.cell_store.specs.inner.Lists.{key_at, IsLastAt, IsNoneAt}
use Rattle.cell_store.specs.inner.Maps.{place_of}
use Rattle.cell_store.proofs.Entries.{CacheEntry}
use Rattle.cell_store.proofs.Found.{covered, past, none_before}
use Rattle.cell_store.proofs.Placed.{cell_in, IsSlotOf, slot_found, no_slot_found, end_of_place, no_end_of_place, has_place}
use Rattle.cell_store.proofs.store.covering_cell.Goals.{Then-p-place}
use Rattle.cell_store.proofs.store.covering_cell.Goals as goal

pub returns-in_err-start : goal.returns-in_err-start
returns-in_err-start c =
    λ entries placed.
    let none : IsNoneAt (place_of c.args.index.now) c.args.p = c.in_err-start.ensures.none in
    c.from_residual.ensures
    ∙ no_slot_found entries (covers c.args.p) (none_before (end_in (place_of c.args.index.now)) (cells_of entries) c.args.p placed.indexed
    (λ q of early. no_end_of_place (place_of c.args.index.now) q (none q of early)))

-- the cell at the place that is found
at_place : (c : Then-p-place) (entries : List CacheEntry) → IsPlaced (place_of c.args.index.now) entries → IsSlotOf entries (covers c.args.p) (key_at c.args.p.signal c.in_ok-start.start) c.in_ok-start.place
at_place c entries placed =
    let k : Key = key_at c.args.p.signal c.in_ok-start.start in
    let p : Place = c.in_ok-start.place in
    let l : IsLastAt (place_of c.args.index.now) c.args.p c.in_ok-start.start c.in_ok-start.place = c.in_ok-start.ensures.last in
    slot_found (place_of c.args.index.now) entries (covers c.args.p) k p placed
    (covered (end_in (place_of c.args.index.now)) (cells_of entries) c.args.p k p.end placed.indexed (end_of_place (place_of c.args.index.now) k p l.at) refl l.early c.if-p-place.true)
    l.at

pub returns-else-p-place : goal.returns-else-p-place
returns-else-p-place c =
    λ entries placed.
    let k : Key = key_at c.args.p.signal c.in_ok-start.start in
    let p : Place = c.in_ok-start.place in
    let l : IsLastAt (place_of c.args.index.now) c.args.p c.in_ok-start.start c.in_ok-start.place = c.in_ok-start.ensures.last in
    no_slot_found entries (covers c.args.p) (past (end_in (place_of c.args.index.now)) (cells_of entries) c.args.p k p.end placed.indexed (end_of_place (place_of c.args.index.now) k p l.at) refl l.early
    (λ q of early has. l.last q of early (has_place (place_of c.args.index.now) q has)) c.if-p-place.false)

pub returns-in_ok-span : goal.returns-in_ok-span
returns-in_ok-span c =
    λ entries placed.
    ap (λ (s : Span). Some (c.in_ok-start.place.slot, record { span = s; value = c.in_ok-start.place.value })) c.in_ok-span.ensures.some
    ∙ (at_place (goal.at.returns-in_ok-span c).Then-p-place entries placed).found

-- a stored cell has a span
pub returns-in_err-span : goal.returns-in_err-span
returns-in_err-span c =
    λ entries placed.
    let span : IsSpan (cell_in (key_at c.args.p.signal c.in_ok-start.start) c.in_ok-start.place).span = (at_place (goal.at.returns-in_err-span c).Then-p-place entries placed).span in
    absurd (⊎_elim (λ (short : c.in_ok-start.place.end ≤ c.in_ok-start.start). omega (arith, short, span.some)) (λ (late : 2000002 < c.in_ok-start.place.end). omega (arith, late, span.within)) (c.in_err-span.ensures.none.0 refl))
