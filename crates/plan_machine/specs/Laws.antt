-- Theorems on every list of turns.
use Rattle.std.specs.Prelude.{◌≡◌, ◌≢◌, ℕ, ◌≤◌, ◌<◌, true, List, slice_get, Bool, Option, Some, None}
use Rattle.std.specs.List.{AllByRecursion}
use Rattle.valid_intervals.specs.declared.Point.{Point}
use Rattle.valid_intervals.specs.declared.SignalCell.{SignalCell}
use Rattle.journal_meaning.specs.declared.Entry.{Entry}
use Rattle.journal_meaning.specs.Batches.{Batch}
use Rattle.journal_meaning.specs.Grown.{AreAdded}
use Rattle.journal_meaning.specs.Lawful.{IsLawful}
use Rattle.plan_machine.specs.declared.strand.Next.TheVariants.{Done}
use Rattle.plan_machine.specs.Strands.{Strand, started_strand, next}
use Rattle.journal_meaning.specs.Pieces.{Start, IsStart}
use Rattle.plan_machine.specs.Shards.{Shard}
use Rattle.plan_machine.specs.Plans.{Plan, claim_of, new_plan, is_ready}
use Rattle.plan_machine.specs.Turns.{turn, run, turns}
use Rattle.plan_machine.specs.Bounds.{all_left, bound}
use Rattle.plan_machine.specs.Journals.{journals, TurnAdds, SameTasks}
use Rattle.plan_machine.specs.Alone.{run_alone, RunsAlone, TurnsAlone, RanAlone}
use Rattle.plan_machine.specs.Settle.{AreShards, AreFreed, AreSettled, IsAnswered}
use Rattle.plan_machine.specs.Settling.{settle}
use Rattle.plan_machine.specs.Sound.{IsSound, IsFresh, IsSafe, AreEnded, MovesIfReady, ClaimEnds}

abbrev pub NewIsSound : Type 0
NewIsSound = (b : Batch) → IsLawful b → (opening : ℕ → List SignalCell) (starts : List Start) (shards : List Shard)
    → AllByRecursion (IsStart b) starts → IsFresh b opening shards → IsSound b opening (new_plan b starts shards)

-- for the turn of every strand number, even one that no strand has
abbrev pub TurnsKeepSound : Type 0
TurnsKeepSound = (b : Batch) → IsLawful b → (opening : ℕ → List SignalCell) (plan : Plan) → IsSound b opening plan → (i : ℕ) → IsSound b opening (turn b plan i)

abbrev pub RunsKeepSound : Type 0
RunsKeepSound = (b : Batch) → IsLawful b → (opening : ℕ → List SignalCell) (plan : Plan) → IsSound b opening plan → (schedule : List ℕ) → IsSound b opening (run b plan schedule)

abbrev pub SoundIsSafe : Type 0
SoundIsSafe = (b : Batch) → IsLawful b → (opening : ℕ → List SignalCell) (plan : Plan) → IsSound b opening plan → IsSafe b plan

abbrev pub ReadyStrandsMove : Type 0
ReadyStrandsMove = (b : Batch) (plan : Plan) (i : ℕ) → MovesIfReady b plan i

abbrev pub EndsLetOut : Type 0
EndsLetOut = (b : Batch) (plan : Plan) (i : ℕ) (p : Point) → ClaimEnds b plan i p

-- in a sound plan in which a strand has not ended, one is ready
abbrev pub IsNeverStuck : Type 0
IsNeverStuck = (b : Batch) → IsLawful b → (opening : ℕ → List SignalCell) (plan : Plan) → IsSound b opening plan
    → (i : ℕ) (s : Strand) → slice_get plan.strands i ≡ Some s → next s ≢ Done
    → (j : ℕ) × ((r : Strand) × ((slice_get plan.strands j ≡ Some r) × (is_ready r ≡ true)))

abbrev pub NoneReadyEnds : Type 0
NoneReadyEnds = (b : Batch) → IsLawful b → (opening : ℕ → List SignalCell) (plan : Plan) → IsSound b opening plan → AreEnded plan

-- in every plan, each turn that is not NotReady lowers the number of turns left
abbrev pub TurnsAreFew : Type 0
TurnsAreFew = (b : Batch) (plan : Plan) (schedule : List ℕ) → turns b plan schedule ≤ all_left b plan

abbrev pub TurnsAreBounded : Type 0
TurnsAreBounded = (b : Batch) (starts : List Start) (shards : List Shard) (schedule : List ℕ) → turns b (new_plan b starts shards) schedule ≤ bound b starts

-- each turn appends entries for its strand's query to the journals
abbrev pub TurnsAdd : Type 0
TurnsAdd = (b : Batch) → IsLawful b → (opening : ℕ → List SignalCell) (plan : Plan) → IsSound b opening plan → (i : ℕ) → TurnAdds b plan i

-- so does each list of turns
abbrev pub RunsAdd : Type 0
RunsAdd = (b : Batch) → IsLawful b → (opening : ℕ → List SignalCell) (plan : Plan) → IsSound b opening plan → (schedule : List ℕ) → (added : List Entry) × AreAdded (journals plan) added (journals (run b plan schedule))

-- each strand keeps its task, in every plan
abbrev pub TasksStay : Type 0
TasksStay = (b : Batch) (plan : Plan) (schedule : List ℕ) → SameTasks plan (run b plan schedule)

-- If no point is claimed and strand n is as it was started, its turns alone begin.
pub record BeginsAlone (b : Batch) (opening : ℕ → List SignalCell) (n : ℕ) (a : Start) (plan : Plan) : Type 0 where
  pub sound : IsSound b opening plan
  pub free : (p : Point) → claim_of plan p ≡ None
  pub at : slice_get plan.strands n ≡ Some (started_strand b.circuit a)

abbrev pub AloneBegins : Type 0
AloneBegins = (b : Batch) → IsLawful b → (opening : ℕ → List SignalCell) (n : ℕ) (a : Start) (plan : Plan) → BeginsAlone b opening n a plan → RunsAlone b opening n a plan plan None

-- these turns go on, never wait, and end
abbrev pub AloneGoes : Type 0
AloneGoes = (b : Batch) → IsLawful b → (opening : ℕ → List SignalCell) (n : ℕ) (a : Start) (old plan : Plan) (spent : Option Point) → RunsAlone b opening n a old plan spent → TurnsAlone b opening n a old plan spent

-- after enough of these turns the strand has ended
abbrev pub AloneEnds : Type 0
AloneEnds = (b : Batch) → IsLawful b → (opening : ℕ → List SignalCell) (n : ℕ) (a : Start) (plan : Plan) → BeginsAlone b opening n a plan
    → (turns : ℕ) → all_left b plan < turns → (spent : Option Point) × RanAlone b opening n a plan (run_alone b n turns plan) spent

-- The claims that are left are freed, and then the batch is settled. The earlier journals are kept, no claim is left, and each query is
-- closed or was refused once with its cause.
abbrev pub SettlesBatch : Type 0
SettlesBatch = (b : Batch) → IsLawful b → b.site ≡ None → (opening : ℕ → List SignalCell) (handed freed : List Shard) → AreShards b opening handed → AreFreed handed freed
    → AreSettled b opening handed (settle b freed).shards (settle b freed).refused

-- the journals of a settled batch are legal; each query is answered by its wave, or by none if its budget was spent
abbrev pub SettledAnswers : Type 0
SettledAnswers = (b : Batch) (opening : ℕ → List SignalCell) (old new : List Shard) (refused : List Bool) → AreSettled b opening old new refused → IsAnswered b opening new refused
