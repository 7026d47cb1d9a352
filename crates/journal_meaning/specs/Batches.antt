-- Batches, and the points that their queries need.
use Rattle.std.specs.Prelude.{◌≡◌, ℕ, ◌%◌, List, Contains, Option, Some, None}
use Rattle.gate_values.specs.declared.Value.{Value}
use Rattle.valid_intervals.specs.declared.Point.{Point}
use Rattle.circuit_meaning.specs.declared.Window.{Window}
use Rattle.circuit_meaning.specs.Circuit.{Circuit}
use Rattle.circuit_meaning.specs.Need.{IsNeeded}
use Rattle.circuit_meaning.specs.Forced.{forced_circuit, IsFree}
use Rattle.journal_meaning.specs.declared.batch.Query.{Query}

-- a site: a signal, and the value that it is forced to
pub record Site : Type 0 where
  pub signal : ℕ
  pub value : Value

-- The queries that the shards of a memo are asked together. Each shard has room for as many cells as the capacity. With a site, the
-- queries are about the circuit in which the site is forced.
pub record Batch : Type 0 where
  pub circuit : Circuit
  pub shards : ℕ
  pub capacity : ℕ
  pub queries : List Query
  pub site : Option Site

-- the number of the shard that has the points of a signal, of so many shards
abbrev pub shard_number : ℕ → ℕ → ℕ
shard_number signal shards = signal % shards

abbrev pub window_of : Query → Window
window_of q = record { signal = q.signal; start = q.from; stop = q.to }

-- the points that a query needs of this circuit; with a site, only those of signals that are free of it
abbrev pub NeedOf : Circuit → Option Site → Query → Point → Type 0
NeedOf c None q p = IsNeeded c (window_of q) p.signal p.time
NeedOf c (Some site) q p = IsNeeded (forced_circuit c site.signal site.value) (window_of q) p.signal p.time × IsFree c site.signal p.signal

abbrev pub IsNeededBy : Batch → Query → Point → Type 0
IsNeededBy b q p = NeedOf b.circuit b.site q p

-- this holds of a query of the batch with this number
abbrev pub OfQuery : Batch → ℕ → (Query → Type 0) → Type 0
OfQuery b number P = (q : Query) × Contains b.queries q × (q.number ≡ number) × P q
