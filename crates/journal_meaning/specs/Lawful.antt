-- What a batch has to be, and which queries its strands may serve.
use Rattle.std.specs.Prelude.{◌≡◌, ◌≢◌, ◌+◌, ◌≤◌, ◌<◌, ◌⊎◌, length, All, AllPairs, Contains, None}
use Rattle.valid_intervals.specs.declared.Point.{Point}
use Rattle.circuit_meaning.specs.Circuit.{IsCircuit}
use Rattle.journal_meaning.specs.declared.batch.Query.{Query}
use Rattle.journal_meaning.specs.Batches.{Batch, IsNeededBy}

-- A lawful batch: its queries have different numbers, ask for signals of the circuit, and end no later than the horizon.
pub record IsLawful (b : Batch) : Type 0 where
  pub circuit : IsCircuit b.circuit
  pub horizon : b.circuit.horizon ≤ 1000000
  pub numbers : AllPairs (λ q r. q.number ≢ r.number) b.queries
  pub signals : All (λ q. q.signal < length b.circuit.drivers) b.queries
  pub windows : All (λ q. q.to ≤ b.circuit.horizon + 1) b.queries
  pub some_shard : 1 ≤ b.shards
  pub some_cell : 1 ≤ b.capacity

abbrev pub start_of : Query → Point
start_of q = record { signal = q.signal; time = q.from }

-- A query for one point that a query of the batch needs.
pub record IsSubQuery (b : Batch) (q : Query) : Type 0 where
  pub of : Query
  pub known : Contains b.queries of
  pub number : q.number ≡ of.number
  pub budget : q.budget ≡ of.budget
  pub alone : q.to ≡ q.from + 1
  pub signal : q.signal < length b.circuit.drivers
  pub within : q.to ≤ b.circuit.horizon + 1
  pub needed : IsNeededBy b of (start_of q)

-- The queries that strands of the batch serve: its queries, and queries for one point that these need. With a site, only the latter.
abbrev pub IsQueryOf : Batch → Query → Type 0
IsQueryOf b q = ((b.site ≡ None) × Contains b.queries q) ⊎ IsSubQuery b q
