-- How a store finds a cell: the cache's pairs of slots and cells, an index from keys to cells and slots, and the slots that are free.
use Rattle.std.specs.Prelude.{◌≡◌, ℕ, ◌+◌, ◌<◌, ◌≤◌, Bool, true, ◌&&◌, nat_eq, if◌then◌else◌, List, [], ◌∷◌, length, map, find, slice_get, All, Option, Some, IfSome, option_map}
use Rattle.std.specs.declared.cmp.Ordering.{Ordering}
use Rattle.std.specs.Ordering.{ordering_then, nat_cmp}
use Rattle.valid_intervals.specs.Spans.{IsSpan}
use Rattle.valid_intervals.specs.declared.Cell.{Cell}
use Rattle.valid_intervals.specs.declared.Point.{Point}
use Rattle.valid_intervals.specs.declared.SignalCell.{SignalCell}
use Rattle.valid_intervals.specs.Cells.{covers}
use Rattle.cell_store.specs.declared.Key.{Key}
use Rattle.cell_store.specs.declared.index.Place.{Place}
use Rattle.cell_store.specs.Recency.{key_of, AreApart}

-- by signal, then by start
abbrev pub key_cmp : Key → Key → Ordering
key_cmp a b = ordering_then (nat_cmp a.signal b.signal) (nat_cmp a.start b.start)

abbrev pub has_key : Key → SignalCell → Bool
has_key k x = nat_eq k.signal x.signal && nat_eq k.start x.cell.span.start

-- the end of the cell with this key
abbrev pub end_at : Key → List SignalCell → Option ℕ
end_at k cells = option_map (λ x. x.cell.span.stop) (find (has_key k) cells)

-- what the index has of a cell
abbrev pub place_at : ℕ × SignalCell → Place
place_at e = record { end = e.1.cell.span.stop; slot = e.0; value = e.1.cell.value }

-- the slot and the cell
abbrev pub slot_and_cell : ℕ × SignalCell → ℕ × Cell
slot_and_cell e = (e.0, e.1.cell)

-- the ends of an index
abbrev pub end_in : (Key → Option Place) → Key → Option ℕ
end_in place_of k = option_map (λ p. p.end) (place_of k)

abbrev pub cells_of : List (ℕ × SignalCell) → List SignalCell
cells_of entries = map (λ e. e.1) entries

-- how often this slot is among these
abbrev pub times : ℕ → List ℕ → ℕ
times slot [] = 0
times slot (s ∷ slots) = (if nat_eq slot s then 1 else 0) + times slot slots

-- how many entries have this slot
abbrev pub uses_of : ℕ → List (ℕ × SignalCell) → ℕ
uses_of slot entries = times slot (map (λ e. e.0) entries)

-- in how many places this slot is, in use or free
abbrev pub places_of : ℕ → List (ℕ × SignalCell) → List ℕ → ℕ
places_of slot entries free = uses_of slot entries + times slot free

-- this is the most recently used cell, with its slot, where it is one
abbrev pub IsFront : Option (ℕ × SignalCell) → List (ℕ × SignalCell) → Type 0
IsFront front entries = IfSome front (λ e. slice_get entries 0 ≡ Some e)

-- the most recently used cell is this one, and covers the point
pub record IsInFront (entries : List (ℕ × SignalCell)) (p : Point) (cell : Cell) : Type 0 where
  pub slot : ℕ
  pub x : SignalCell
  pub front : slice_get entries 0 ≡ Some (slot, x)
  pub covering : covers p x ≡ true
  pub is : cell ≡ x.cell

-- the ends are those of the cells, and no point is covered by two of these
pub record IsStoreIndex (end_of : Key → Option ℕ) (cells : List SignalCell) : Type 0 where
  pub spans : All (λ x. IsSpan x.cell.span) cells
  pub apart : AreApart cells
  pub ends : (k : Key) → end_of k ≡ end_at k cells

-- the index has each cell and its slot, and no other key
pub record IsPlaced (place_of : Key → Option Place) (entries : List (ℕ × SignalCell)) : Type 0 where
  pub indexed : IsStoreIndex (end_in place_of) (cells_of entries)
  pub placed : All (λ e. place_of (key_of e.1) ≡ Some (place_at e)) entries

-- no slot has two cells, or is free while it has one, and there is no other slot than the first ones
pub record AreSlots (entries : List (ℕ × SignalCell)) (free : List ℕ) : Type 0 where
  pub once : (slot : ℕ) → places_of slot entries free ≤ 1
  pub first : (slot : ℕ) → length entries + length free ≤ slot → places_of slot entries free ≡ 0

-- what holds of the index, the cache and the free slots of a store
pub record IsSoundStore (place_of : Key → Option Place) (entries : List (ℕ × SignalCell)) (free : List ℕ) (capacity : ℕ) : Type 0 where
  pub found : IsPlaced place_of entries
  pub slots : AreSlots entries free
  pub within : length entries + length free ≤ capacity
  pub some : 0 < capacity
  pub most : capacity ≤ 65536
