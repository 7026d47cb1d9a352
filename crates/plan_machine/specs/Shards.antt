-- A shard of a plan: its state and its journal, and the changes of each entry.
use Rattle.std.specs.Prelude.{◌≡◌, ℕ, ◌-◌, ◌≤◌, nat_eq, not, ◌&&◌, if◌then◌else◌, false, List, [], ◌∷◌, ◌++◌, length, Option, Some, None}
use Rattle.std.specs.List.{AllByRecursion}
use Rattle.valid_intervals.specs.declared.Point.{Point}
use Rattle.valid_intervals.specs.declared.Cell.{Cell}
use Rattle.valid_intervals.specs.declared.SignalCell.{SignalCell}
use Rattle.valid_intervals.specs.Cells.{last_cell, cell_for, is_stored}
use Rattle.journal_meaning.specs.declared.Entry.{Entry}
use Rattle.journal_meaning.specs.declared.Entry.TheVariants.{Filled, Evicted}
use Rattle.journal_meaning.specs.States.{State, fresh}
use Rattle.journal_meaning.specs.Table.{after}
use Rattle.journal_meaning.specs.Batches.{Batch}
use Rattle.journal_meaning.specs.Allowed.{IsRight}
use Rattle.journal_meaning.specs.Replay.{replay, IsLegal}

pub record Shard : Type 0 where
  pub state : State
  pub journal : List Entry

-- one more entry
abbrev pub shard_with_entry : Entry → Shard → Shard
shard_with_entry e h = record { state = after h.state e; journal = h.journal ++ e ∷ [] }

-- the least recent cell is evicted
abbrev pub shard_without_cell : Option SignalCell → Shard → Shard
shard_without_cell None h = h
shard_without_cell (Some x) h = shard_with_entry (Evicted x.signal x.cell.span.start) h

-- if the cell is new and the shard is full, the least recent cell is evicted
abbrev pub with_room : ℕ → SignalCell → Shard → Shard
with_room capacity x h = if not (is_stored x h.state.cells) && nat_eq (length h.state.cells) capacity then shard_without_cell (last_cell h.state.cells) h else h

-- the point is filled with its cell for the query q
abbrev pub filled_shard : ℕ → ℕ → Point → Cell → Shard → Shard
filled_shard capacity q p cell h = shard_with_entry (Filled q p cell) (with_room capacity (cell_for p cell) h)

-- A shard of the batch: its state is the replay of its journal from its opening, and the journal is legal.
pub record IsShard (b : Batch) (number : ℕ) (opening : List SignalCell) (h : Shard) : Type 0 where
  pub legal : IsLegal b number (fresh opening) h.journal
  pub state : h.state ≡ replay (fresh opening) h.journal
  pub right : AllByRecursion (IsRight b.circuit) h.state.cells
  pub fits : length h.state.cells ≤ b.capacity
  pub made : h.state.made ≡ false
