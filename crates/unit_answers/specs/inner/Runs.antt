-- The queries of a batch, run over the stores under the batch's name.
use Rattle.std.specs.Prelude.{◌≡◌, ℕ, ◌<◌, ◌≤◌, List, [], length, slice_index_or, map, All, Option, None}
use Rattle.std.specs.List.{AllByRecursion}
use Rattle.valid_intervals.specs.declared.SignalCell.{SignalCell}
use Rattle.cell_store.specs.Recency.{Contents, contents}
use Rattle.journal_meaning.specs.declared.Entry.{Entry}
use Rattle.journal_meaning.specs.declared.batch.Query.{Query}
use Rattle.journal_meaning.specs.Batches.{Batch, Site}
use Rattle.journal_meaning.specs.Lawful.{IsLawful}
use Rattle.journal_meaning.specs.Allowed.{IsRight}
use Rattle.plan_machine.specs.Shards.{Shard}
use Rattle.plan_machine.specs.Settle.{AreSettled, journals_of}
use Rattle.circuit_meaning.specs.declared.Run.{Run}
use Rattle.reply_lines.specs.declared.reply.Outcome.{Outcome}
use Rattle.memo_shards.specs.KeptShards.{KeptShard}
use Rattle.query_answers.specs.windows.Phases.{AreOutcomes, refused_of}
use Rattle.session_meaning.specs.Session.{Setup}
use Rattle.plan_core.specs.Parts.{AreInOrder}
use Rattle.unit_answers.specs.Stores.{cells_of}

-- the batch of these queries; with a site, of the circuit in which the site is forced
abbrev pub asks_at : Setup → Option Site → List Query → Batch
asks_at setup site queries = record {
  circuit = setup.design.circuit;
  shards = setup.shards;
  capacity = setup.capacity;
  queries = queries;
  site = site;
}

-- the same, without a site
abbrev pub asks : Setup → List Query → Batch
asks setup queries = asks_at setup None queries

-- The name of a batch stands for this one, which is lawful, and which begins with the cells of these stores.
pub record IsNamed (named : Batch) (opening : ℕ → List SignalCell) (b : Batch) (stores : List Contents) : Type 0 where
  pub batch : named ≡ b
  pub opens : opening ≡ cells_of stores
  pub lawful : IsLawful b

-- A lawful batch begins with these stores: one for each shard, with its room and its opening cells.
pub record AreOpened (b : Batch) (opening : ℕ → List SignalCell) (stores : List Contents) : Type 0 where
  pub lawful : IsLawful b
  pub most : length stores ≤ 64
  pub count : length stores ≡ b.shards
  pub stored : (n : ℕ) → n < b.shards → slice_index_or stores n (contents 0 []) ≡ contents b.capacity (opening n)
  pub right : (n : ℕ) → n < b.shards → AllByRecursion (IsRight b.circuit) (opening n)

-- the shards over these stores, at the start of a batch
pub record AreBegun (stores : List Contents) (shards : List KeptShard) : Type 0 where
  pub count : length shards ≡ length stores
  pub order : AreInOrder shards
  pub empty : All (λ m. m.shard.journal ≡ []) shards

-- the store that a shard leaves
abbrev pub store_of : ℕ → Shard → Contents
store_of capacity h = contents capacity h.state.cells

-- closed shards: the journal and the store of each
pub record AreEnded (capacity : ℕ) (shards : List KeptShard) (lists : List (List Entry)) (stores : List Contents) : Type 0 where
  pub lists_are : lists ≡ map (λ m. m.shard.journal) shards
  pub stores_are : stores ≡ map (λ m. store_of capacity m.shard) shards

-- The shards of the batch are settled, each query has its outcome, and the journals and the stores are those of the shards.
pub record HasRun (b : Batch) (opening : ℕ → List SignalCell) (outcomes : List (Outcome (List Run))) (lists : List (List Entry)) (left : List Contents) : Type 0 where
  pub handed : List Shard
  pub shards : List Shard
  pub settled : AreSettled b opening handed shards (refused_of outcomes)
  pub outcomes_are : AreOutcomes b.circuit b.queries outcomes
  pub lists_are : lists ≡ journals_of shards
  pub stores_are : left ≡ map (store_of b.capacity) shards
