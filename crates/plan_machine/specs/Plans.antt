-- A plan: the strands of a batch and the shards that they ask.
use Rattle.std.specs.Prelude.{ℕ, ◌+◌, not, ◌&&◌, Bool, true, false, if◌then◌else◌, List, [], ◌∷◌, length, map, slice_index_or, slice_set, Option}
use Rattle.valid_intervals.specs.declared.Point.{Point}
use Rattle.valid_intervals.specs.Cells.{same_point}
use Rattle.journal_meaning.specs.States.{fresh, holder}
use Rattle.journal_meaning.specs.Batches.{Batch, shard_number}
use Rattle.plan_machine.specs.declared.strand.Next.{Next}
use Rattle.plan_machine.specs.declared.strand.Next.TheVariants.{Ask, Done}
use Rattle.plan_machine.specs.Strands.{Strand, started_strand, next, awake}
use Rattle.journal_meaning.specs.Pieces.{Start}
use Rattle.plan_machine.specs.Shards.{Shard}

-- Strand i has number i. Waiting strands are included.
pub record Plan : Type 0 where
  pub strands : List Strand
  pub shards : List Shard

-- a plan whose strands have made no turn
abbrev pub new_plan : Batch → List Start → List Shard → Plan
new_plan b starts shards = record { strands = map (started_strand b.circuit) starts; shards = shards }

-- the shard for a number that no shard has
abbrev pub no_shard : Shard
no_shard = record { state = fresh []; journal = [] }

-- the number of the point's shard
abbrev pub home : Plan → Point → ℕ
home plan p = shard_number p.signal (length plan.shards)

abbrev pub shard_of : Plan → Point → Shard
shard_of plan p = slice_index_or plan.shards (home plan p) no_shard

-- the query that has claimed the point
abbrev pub claim_of : Plan → Point → Option ℕ
claim_of plan p = holder (shard_of plan p).state.claims p

abbrev pub is_done : Next → Bool
is_done Done = true
is_done n = false

-- the strand neither waits nor has ended
abbrev pub is_ready : Strand → Bool
is_ready s = not s.waits && not (is_done (next s))

abbrev pub ready_from : ℕ → List Strand → List ℕ
ready_from n [] = []
ready_from n (s ∷ more) = if is_ready s then n ∷ ready_from (n + 1) more else ready_from (n + 1) more

-- the numbers of the ready strands, in ascending order
abbrev pub ready : Plan → List ℕ
ready plan = ready_from 0 plan.strands

-- changes of a plan: of one strand, and of the shard of a point
abbrev pub with_strand : Plan → ℕ → Strand → Plan
with_strand plan i s = record plan { strands = slice_set plan.strands i s }

abbrev pub with_shard : Plan → Point → Shard → Plan
with_shard plan p h = record plan { shards = slice_set plan.shards (home plan p) h }

abbrev pub asks : Point → Next → Bool
asks p (Ask x) = same_point x p
asks p n = false

-- f is applied to a strand that waits at the point, and the strand is woken
abbrev pub woken_strand : (Strand → Strand) → Point → Strand → Strand
woken_strand f p s = if s.waits && asks p (next s) then awake (f s) else s

abbrev pub itself : Strand → Strand
itself s = s

-- the same for all strands that wait there
abbrev pub with_woken : Plan → (Strand → Strand) → Point → Plan
with_woken plan f p = record plan { strands = map (woken_strand f p) plan.strands }
