-- The batch of a query that is asked for the first time of a value.
use Rattle.std.proofs.Common.{ℕ, ◌+◌, ◌<◌, ◌≤◌, [], ◌∷◌, length, None, arith}
use Rattle.std.proofs.lemmas.List.Elements.{All-from_recursion}
use Rattle.gate_values.specs.declared.Value.{Value}
use Rattle.circuit_meaning.specs.Circuit.{Circuit, IsCircuit}
use Rattle.journal_meaning.specs.declared.batch.Query.{Query}
use Rattle.journal_meaning.specs.Lawful.{IsLawful}
use Rattle.session_meaning.specs.FirstTimes.{up_to_first}
use Rattle.query_answers.proofs.Finding.{ends-within}

-- it is lawful where the query's window ends with the horizon and its signal is one of the circuit
pub first-lawful : (c : Circuit) (q : Query) (w : Value) (shards capacity : ℕ) → IsCircuit c → c.horizon ≤ 1000000 → q.signal < length c.drivers → q.to ≤ c.horizon + 1 → 1 ≤ shards → 1 ≤ capacity
    → IsLawful (record { circuit = c; shards = shards; capacity = capacity; queries = up_to_first c q w ∷ []; site = None })
first-lawful c q w shards capacity ok small signal within some room = record {
  circuit = ok;
  horizon = small;
  numbers = λ i j d l m. absurd (omega arith);
  signals = All-from_recursion (λ (r : Query). r.signal < length c.drivers) (up_to_first c q w ∷ []) (signal, tt);
  windows = All-from_recursion (λ (r : Query). r.to ≤ c.horizon + 1) (up_to_first c q w ∷ []) ((let l = ends-within c q w in omega arith), tt);
  some_shard = some;
  some_cell = room;
}
