-- The journals of a plan, and what turns preserve: each turn adds entries for its strand's query, and each strand keeps its task.
use Rattle.std.specs.Prelude.{◌≡◌, ℕ, ◌&&◌, not, nat_eq, if◌then◌else◌, List, [], ◌∷◌, ◌++◌, length, map, slice_get, Option, Some, None}
use Rattle.std.specs.List.{AllByRecursion}
use Rattle.valid_intervals.specs.declared.SignalCell.{SignalCell}
use Rattle.valid_intervals.specs.Cells.{cell_for, is_stored, last_cell}
use Rattle.journal_meaning.specs.declared.Entry.{Entry}
use Rattle.journal_meaning.specs.declared.Entry.TheVariants.{Told, Claimed, Filled, Evicted, Dropped}
use Rattle.journal_meaning.specs.Batches.{Batch}
use Rattle.circuit_meaning.specs.Cells.{cell_at}
use Rattle.journal_meaning.specs.Sections.{of_batch}
use Rattle.journal_meaning.specs.Grown.{IsFor, AreAdded}
use Rattle.plan_machine.specs.Strands.{Strand}
use Rattle.plan_machine.specs.Shards.{Shard}
use Rattle.plan_machine.specs.Plans.{Plan, shard_of}
use Rattle.plan_machine.specs.Steps.{Step, Tell, Claim, Wait, Spend, Finish, GiveBack, Rest, step_at}
use Rattle.plan_machine.specs.Turns.{turn}

-- the journals of the shards, and the entries of all shards in order
abbrev pub journals : Plan → List (List Entry)
journals plan = map (λ (h : Shard). h.journal) plan.shards

abbrev pub entries : Plan → List Entry
entries plan = of_batch (journals plan)

-- the eviction before a fill, if there is one
abbrev pub eviction : Option SignalCell → List Entry
eviction None = []
eviction (Some x) = Evicted x.signal x.cell.span.start ∷ []

abbrev pub evictions_for : ℕ → SignalCell → Shard → List Entry
evictions_for capacity x h = if not (is_stored x h.state.cells) && nat_eq (length h.state.cells) capacity then eviction (last_cell h.state.cells) else []

-- what a step of the strand s records
abbrev pub entries_of : Batch → Plan → Strand → Step → List Entry
entries_of b plan s (Tell p x) = Told s.query.number p x.cell ∷ []
entries_of b plan s (Claim p) = Claimed s.query.number p ∷ []
entries_of b plan s Wait = []
entries_of b plan s Spend = []
entries_of b plan s (Finish p) = evictions_for b.capacity (cell_for p (cell_at b.circuit p)) (shard_of plan p) ++ Filled s.query.number p (cell_at b.circuit p) ∷ []
entries_of b plan s (GiveBack p) = Dropped s.query.number p ∷ []
entries_of b plan s Rest = []

abbrev pub added_at : Batch → Plan → Option Strand → List Entry
added_at b plan None = []
added_at b plan (Some s) = entries_of b plan s (step_at plan (Some s))

-- what the turn of strand i records
abbrev pub added_by : Batch → Plan → ℕ → List Entry
added_by b plan i = added_at b plan (slice_get plan.strands i)

-- a turn adds its entries, all for the query of its strand
pub record TurnAdds (b : Batch) (plan : Plan) (i : ℕ) : Type 0 where
  pub added : AreAdded (journals plan) (added_by b plan i) (journals (turn b plan i))
  pub own : (s : Strand) → slice_get plan.strands i ≡ Some s → AllByRecursion (IsFor s.query.number) (added_by b plan i)

-- a strand serves the same query, with the same budget
pub record SameTask (s r : Strand) : Type 0 where
  pub query : r.query ≡ s.query
  pub budget : r.budget ≡ s.budget

-- each strand of a plan keeps its task
pub record SameTasks (old new : Plan) : Type 0 where
  pub count : length new.strands ≡ length old.strands
  pub strands : (j : ℕ) (r : Strand) → slice_get new.strands j ≡ Some r → (s : Strand) × (slice_get old.strands j ≡ Some s) × SameTask s r
