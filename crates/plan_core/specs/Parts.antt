-- The parts of a plan, and what they preserve.
use Rattle.std.specs.Prelude.{◌≡◌, ℕ, false, List, [], length, map, slice_get, Some}
use Rattle.std.specs.List.{AllByRecursion}
use Rattle.journal_meaning.specs.Batches.{Batch}
use Rattle.plan_machine.specs.Strands.{Strand, IsStrand}
use Rattle.plan_machine.specs.Shards.{Shard}
use Rattle.plan_machine.specs.Plans.{Plan}
use Rattle.demand_points.specs.Demands.{Demand}
use Rattle.memo_shards.specs.KeptShards.{KeptShard}

-- shard i has the number i
abbrev pub AreInOrder : List KeptShard → Type 0
AreInOrder shards = (i : ℕ) (m : KeptShard) → slice_get shards i ≡ Some m → m.number ≡ i

-- a strand for place i that has made no turn
pub record IsFreshStrand (b : Batch) (i : ℕ) (s : Demand) : Type 0 where
  pub number : s.number ≡ i
  pub strand : IsStrand b s.strand
  pub empty : s.strand.stack ≡ []
  pub awake : s.strand.waits ≡ false

abbrev pub AreFreshStrands : Batch → List Demand → Type 0
AreFreshStrands b strands = (i : ℕ) (s : Demand) → slice_get strands i ≡ Some s → IsFreshStrand b i s

-- the shards of a batch in order, without claims
pub record AreFree (b : Batch) (shards : List KeptShard) : Type 0 where
  pub count : length shards ≡ b.shards
  pub order : AreInOrder shards
  pub free : AllByRecursion (λ (m : KeptShard). m.shard.state.claims ≡ []) shards

-- the shards, in the words of `plan_machine`
abbrev pub shards_in : List KeptShard → List Shard
shards_in shards = map (λ (m : KeptShard). m.shard) shards

abbrev pub strands_in : List Demand → List Strand
strands_in strands = map (λ (s : Demand). s.strand) strands

-- the plan that begins with these strands and shards
abbrev pub plan_of_new : List Demand → List KeptShard → Plan
plan_of_new strands shards = record { strands = strands_in strands; shards = shards_in shards }
