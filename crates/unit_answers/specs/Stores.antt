-- The stores of the shards between two units.
use Rattle.std.specs.Prelude.{◌≡◌, ℕ, ◌<◌, ◌≤◌, List, [], length, slice_index_or, All}
use Rattle.valid_intervals.specs.declared.SignalCell.{SignalCell}
use Rattle.cell_store.specs.Recency.{Contents, contents}
use Rattle.journal_meaning.specs.Allowed.{IsRight}
use Rattle.design.specs.Joined.{Joined}
use Rattle.session_meaning.specs.Session.{Setup}
use Rattle.unit_answers.specs.declared.sizes.Sizes.{Sizes}

-- the setup of a design with a memo of these sizes; the result of a unit does not depend on the names of files
abbrev pub setup_of : Joined → Sizes → Setup
setup_of design sizes = record { design = design; shards = sizes.shards; capacity = sizes.cells; names = [] }

-- the cells of the shard with this number
abbrev pub cells_of : List Contents → ℕ → List SignalCell
cells_of stores shard = (slice_index_or stores shard (contents 0 [])).cells

-- a memo has from 1 to 64 shards, each with room for a cell
pub record IsSized (setup : Setup) : Type 0 where
  pub some : 0 < setup.shards
  pub most : setup.shards ≤ 64
  pub room : 0 < setup.capacity

-- one store for each shard, with the shard's room, and with right cells
pub record AreStores (setup : Setup) (stores : List Contents) : Type 0 where
  pub sized : IsSized setup
  pub count : length stores ≡ setup.shards
  pub capacity : All (λ s. s.capacity ≡ setup.capacity) stores
  pub right : All (λ s. All (IsRight setup.design.circuit) s.cells) stores
