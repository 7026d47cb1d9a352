-- The most recently used cell, where it covers the point that is looked for.
use Rattle.std.proofs.Common.{◌≡◌, ℕ, true, cond, not, List, [], ◌∷◌, filter, Option, Some, find, sym, ap, subst, ◌∙◌}
use Rattle.std.proofs.lemmas.List.Elements.{All-head}
use Rattle.std.proofs.lemmas.Option.{same_Some}
use Rattle.valid_intervals.specs.Spans.{IsSpan}
use Rattle.valid_intervals.specs.declared.Cell.{Cell}
use Rattle.valid_intervals.specs.declared.Point.{Point}
use Rattle.valid_intervals.specs.declared.SignalCell.{SignalCell}
use Rattle.valid_intervals.specs.Cells.{same_stored, covers, cell_for, to_front, stored_at}
use Rattle.cell_store.specs.declared.Key.{Key}
use Rattle.cell_store.specs.inner.Index.{cells_of, IsInFront, IsStoreIndex}
use Rattle.valid_intervals.proofs.Callers.{same_stored-itself}
use Rattle.cell_store.proofs.Keys.{covers_true}
use Rattle.cell_store.proofs.Found.{none_some}
use Rattle.cell_store.proofs.Cached.{all_kept, all_differ}
use Rattle.cell_store.proofs.Entries.{CacheEntry}

in_front : (e : CacheEntry) (es : List CacheEntry) (p : Point) (cell : Cell) → IsInFront (e ∷ es) p cell → e.1 ≡ cell_for p cell
in_front e es p cell f =
    ap (λ (d : CacheEntry). d.1) (same_Some e (f.slot, f.x) f.front)
    ∙ ap (λ (s : ℕ). record { signal = s; cell = f.x.cell }) (covers_true p f.x f.covering).signal
    ∙ ap (cell_for p) (sym f.is)

-- it is what a search finds
pub front_found : (entries : List CacheEntry) (p : Point) (cell : Cell) → IsInFront entries p cell → stored_at (cells_of entries) p ≡ Some (cell_for p cell)
front_found [] p cell f = none_some (f.slot, f.x) f.front
front_found (e ∷ es) p cell f =
    let there : covers p e.1 ≡ true = subst (λ (d : CacheEntry). covers p d.1 ≡ true) (sym (same_Some e (f.slot, f.x) f.front)) f.covering in
    ap (λ b. cond b (Some e.1) (find (covers p) (cells_of es))) there ∙ ap (λ (x : SignalCell). Some x) (in_front e es p cell f)

-- and to use it changes nothing
pub front_stays : (end_of : Key → Option ℕ) (entries : List CacheEntry) (p : Point) (cell : Cell) → IsStoreIndex end_of (cells_of entries) → IsInFront entries p cell
    → to_front (cell_for p cell) (cells_of entries) ≡ cells_of entries
front_stays end_of [] p cell index f = none_some (f.slot, f.x) f.front
front_stays end_of (e ∷ es) p cell index f =
    let x : SignalCell = e.1 in
    let others : List SignalCell = filter (λ y. not (same_stored x y)) (cells_of es) in
    let span : IsSpan x.cell.span = All-head (λ y. IsSpan y.cell.span) x (cells_of es) index.spans in
    let rest : others ≡ cells_of es = all_kept x (cells_of es) (all_differ x (cells_of es) span index.apart.0) in
    subst (λ (z : SignalCell). to_front z (cells_of (e ∷ es)) ≡ cells_of (e ∷ es)) (in_front e es p cell f)
    (ap (λ b. x ∷ cond (not b) (x ∷ others) others) (same_stored-itself x) ∙ ap (λ (l : List SignalCell). x ∷ l) rest)
