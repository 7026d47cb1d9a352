-- The content of a bounded store: cells of signals, the most recently used first.
use Rattle.std.specs.Prelude.{◌≡◌, ℕ, ◌<◌, ◌≤◌, ◌==◌, Bool, true, not, ◌&&◌, ◌⊎◌, ⊤, List, [], ◌∷◌, length, All, Option, option_map, if◌then◌else◌}
use Rattle.valid_intervals.specs.declared.Point.{Point}
use Rattle.valid_intervals.specs.declared.SignalCell.{SignalCell}
use Rattle.valid_intervals.specs.Cells.{same_stored, covers, is_stored, last_cell, to_front, all_but_last}
use Rattle.cell_store.specs.declared.Key.{Key}

-- the greatest number of cells, and the cells
pub record Contents : Type 0 where
  pub capacity : ℕ
  pub cells : List SignalCell

abbrev pub contents : ℕ → List SignalCell → Contents
contents capacity cells = record { capacity = capacity; cells = cells }

-- the same store with other cells
abbrev pub with_cells : Contents → List SignalCell → Contents
with_cells s cells = contents s.capacity cells

abbrev pub key_of : SignalCell → Key
key_of x = record { signal = x.signal; start = x.cell.span.start }

-- no point is covered by both
abbrev pub IsApart : SignalCell → SignalCell → Type 0
IsApart x y = (p : Point) → covers p x ≡ true → covers p y ≡ true → ⊥

-- no point is covered by two of the cells
abbrev pub AreApart : List SignalCell → Type 0
AreApart [] = ⊤
AreApart (x ∷ cells) = All (IsApart x) cells × AreApart cells

-- What is known of every store: it has room for a cell, and for no more than 65,536; it has no more cells than room, and no point is
-- covered by two of them.
pub record IsKnownStore (s : Contents) : Type 0 where
  pub some : 0 < s.capacity
  pub most : s.capacity ≤ 65536
  pub within : length s.cells ≤ s.capacity
  pub apart : AreApart s.cells

-- each of the cells is x, or has no point in common with x
abbrev pub FitsStore : SignalCell → List SignalCell → Type 0
FitsStore x cells = All (λ y. (same_stored x y ≡ true) ⊎ IsApart x y) cells

-- whether putting x evicts a cell
abbrev pub pushes_out : SignalCell → Contents → Bool
pushes_out x s = not (is_stored x s.cells) && (length s.cells == s.capacity)

-- the key of the least recently used cell
abbrev pub last_key : List SignalCell → Option Key
last_key cells = option_map key_of (last_cell cells)

-- the store after x was put into it
abbrev pub after_put : Contents → SignalCell → Contents
after_put s x = with_cells s (to_front x (if pushes_out x s then all_but_last s.cells else s.cells))
