-- The batch of the memo of its own, and its journal as the question ends.
use Rattle.std.proofs.Common.{◌≡◌, ℕ, ◌+◌, ◌<◌, ◌≤◌, List, [], ◌∷◌, length, set, Contains, refl, sym, ap, subst, ◌∙◌, arith}
use Rattle.std.proofs.lemmas.List.{length-set}
use Rattle.std.proofs.lemmas.List.Elements.{All-contains, All-from_recursion}
use Rattle.valid_intervals.specs.declared.SignalCell.{SignalCell}
use Rattle.circuit_meaning.specs.Circuit.{Circuit, Input}
use Rattle.circuit_meaning.proofs.Callers.{held-fits}
use Rattle.journal_meaning.specs.declared.batch.Query.{Query}
use Rattle.journal_meaning.specs.Batches.{Batch, Site}
use Rattle.journal_meaning.specs.Lawful.{IsLawful}
use Rattle.session_meaning.specs.StuckSignals.{held_batch, NoneIsFree, IsHeldJournal}
use Rattle.plan_machine.specs.Shards.{IsShard}
use Rattle.memo_shards.specs.KeptShards.{KeptShard, IsKnownShard}

module _ (b : Batch) (lawful : IsLawful b) (q : Query) (queries : b.queries ≡ q ∷ []) where
  -- the query is one of the batch
  pub asked-one : Contains b.queries q
  asked-one = subst (λ (qs : List Query). Contains qs q) (sym queries) (0, omega arith, refl)

  -- its window ends with the horizon
  pub window-within : q.to ≤ b.circuit.horizon + 1
  window-within = All-contains (λ (r : Query). r.to ≤ b.circuit.horizon + 1) b.queries q lawful.windows asked-one

  -- its signal is one of the circuit
  pub signal-within : q.signal < length b.circuit.drivers
  signal-within = All-contains (λ (r : Query). r.signal < length b.circuit.drivers) b.queries q lawful.signals asked-one

  -- the memo of its own is asked a lawful batch
  pub held-lawful : (site : Site) → IsLawful (held_batch b.circuit site q)
  held-lawful site =
      let same : length (set b.circuit.drivers site.signal (Input (record { time = 0; value = site.value } ∷ []))) ≡ length b.circuit.drivers = length-set b.circuit.drivers site.signal (Input (record { time = 0; value = site.value } ∷ [])) in
      record {
        circuit = held-fits b.circuit site.signal site.value lawful.circuit;
        horizon = lawful.horizon;
        numbers = λ i j d l m. absurd (omega arith);
        signals = All-from_recursion (λ (r : Query). r.signal < length (held_batch b.circuit site q).circuit.drivers) (q ∷ []) (subst (λ n. q.signal < n) (sym same) signal-within, tt);
        windows = All-from_recursion (λ (r : Query). r.to ≤ b.circuit.horizon + 1) (q ∷ []) (window-within, tt);
        some_shard = omega arith;
        some_cell = omega arith;
      }

-- the journal of a shard in which nothing is claimed is that of a whole batch
pub ends-held : (c : Circuit) (site : Site) (q : Query) (own : Batch) (opening : ℕ → List SignalCell) (m : KeptShard) → own ≡ held_batch c site q → opening 0 ≡ [] → IsKnownShard own opening m → m.number ≡ 0 → m.shard.state.claims ≡ []
    → NoneIsFree c site m.shard.journal → IsHeldJournal c site q m.shard.journal
ends-held c site q own opening m is empty known number idle reached =
    let at_zero : IsShard own 0 (opening 0) m.shard = subst (λ n. IsShard own n (opening n) m.shard) number known.shard in
    let shard : IsShard (held_batch c site q) 0 [] m.shard = subst (λ (cells : List SignalCell). IsShard (held_batch c site q) 0 cells m.shard) empty (subst (λ b. IsShard b 0 (opening 0) m.shard) is at_zero) in
    record {
      legal = record {
        legal = shard.legal;
        ended = record { claims = ap (λ s. s.claims) (sym shard.state) ∙ idle; made = ap (λ s. s.made) (sym shard.state) ∙ shard.made };
      };
      reached = reached;
    }
