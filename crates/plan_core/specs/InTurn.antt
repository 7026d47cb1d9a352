-- Strands that run one after another, each alone over the shards.
use Rattle.std.specs.Prelude.{◌≡◌, ℕ, ◌+◌, true, false, List, [], Some, slice_get, sum_by}
use Rattle.circuit_meaning.specs.Circuit.{Circuit}
use Rattle.journal_meaning.specs.declared.Entry.{Entry}
use Rattle.journal_meaning.specs.Answers.{ChildrenCovered}
use Rattle.journal_meaning.specs.Counts.{booked_count}
use Rattle.journal_meaning.specs.Pieces.{Start}
use Rattle.plan_machine.specs.Strands.{Strand, started_strand}
use Rattle.plan_machine.specs.Sound.{HasEnded}
use Rattle.demand_points.specs.declared.strand.Task.{Task}
use Rattle.demand_points.specs.Demands.{Demand}
use Rattle.memo_shards.specs.KeptShards.{KeptShard}

-- each strand is as it was started
abbrev pub AreStarted : Circuit → List Strand → Type 0
AreStarted c strands = (n : ℕ) (s : Strand) → slice_get strands n ≡ Some s → (a : Start) × (s ≡ started_strand c a)

-- the strand has made no turn: it holds no point, has filled none and was refused none
pub record IsUnused (s : Demand) : Type 0 where
  pub free : s.strand.stack ≡ []
  pub filled : s.strand.filled ≡ 0
  pub unspent : s.strand.spent ≡ false

-- the strand has ended, and was refused a point only at its full budget
pub record HasRun (s : Demand) : Type 0 where
  pub ended : HasEnded s.strand
  pub full : s.strand.spent ≡ true → s.strand.charged ≡ s.strand.budget

-- what a strand was started with
abbrev pub task_of : Demand → Task
task_of s = record { query = s.strand.query; from = s.from; to = s.to; budget = s.strand.budget }

-- how often strands have claimed and filled a point
abbrev pub made_by : Demand → ℕ
made_by s = s.strand.charged + s.strand.filled

abbrev pub made_in : List Demand → ℕ
made_in strands = sum_by made_by strands

-- how many claims and fills shards have recorded
abbrev pub booked_by : KeptShard → ℕ
booked_by m = booked_count m.shard.journal

abbrev pub booked_in : List KeptShard → ℕ
booked_in shards = sum_by booked_by shards

-- whatever query a point was evaluated for, its children are covered
abbrev pub AllChildrenCovered : Circuit → List Entry → Type 0
AllChildrenCovered c es = (q : ℕ) → ChildrenCovered c es q
