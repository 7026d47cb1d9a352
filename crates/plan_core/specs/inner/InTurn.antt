-- Definitions for proofs and private functions, beside `InTurn`.
use Rattle.std.specs.Prelude.{◌≡◌, ◌≢◌, ℕ, ◌+◌, ◌<◌, ◌≤◌, Bool, true, false, List, [], ◌∷◌, length, slice_get, Option, Some, None, Result, Ok, Err}
use Rattle.texts.specs.declared.OutOfMemory.{OutOfMemory}
use Rattle.valid_intervals.specs.declared.SignalCell.{SignalCell}
use Rattle.journal_meaning.specs.Batches.{Batch}
use Rattle.journal_meaning.specs.Lawful.{IsLawful}
use Rattle.journal_meaning.specs.Pieces.{Start}
use Rattle.plan_machine.specs.declared.strand.Next.TheVariants.{Done}
use Rattle.plan_machine.specs.Strands.{next}
use Rattle.plan_machine.specs.declared.Turned.{Turned}
use Rattle.plan_machine.specs.declared.Turned.TheVariants as comes
use Rattle.plan_machine.specs.Steps.{turn_outcome}
use Rattle.plan_machine.specs.Turns.{turn}
use Rattle.plan_machine.specs.Laws.{BeginsAlone}
use Rattle.plan_machine.specs.Alone.{RunsAlone}
use Rattle.plan_machine.specs.Settle.{entries_in}
use Rattle.plan_machine.specs.Sound.{IsSound, IsFresh}
use Rattle.demand_points.specs.Demands.{Demand}
use Rattle.memo_shards.specs.KeptShards.{KeptShard}
use Rattle.plan_core.specs.Parts.{AreInOrder, plan_of_new, shards_in}
use Rattle.plan_core.specs.InTurn.{AllChildrenCovered, HasRun, IsUnused, booked_in, made_by, task_of}

-- The strand is alone over the shards: no other one holds a point or waits. One whose window ends at 0 has ended as it begins.
pub record IsAlone (b : Batch) (opening : ℕ → List SignalCell) (s : Demand) (shards : List KeptShard) : Type 0 where
  pub lawful : IsLawful b
  pub order : AreInOrder shards
  pub count : length shards ≡ b.shards
  pub sound : 0 < s.to → IsSound b opening (plan_of_new (s ∷ []) shards)

-- the strand keeps its number and its task
pub record KeepsTask (old new : Demand) : Type 0 where
  pub number : new.number ≡ old.number
  pub task : task_of new ≡ task_of old

-- The turn of a strand alone is that of the plan with this one strand. It is refused a point only by a turn that is Spent, and then its
-- budget is spent. It claims and fills as often as the shards record it.
pub record MakesTurn (b : Batch) (opening : ℕ → List SignalCell) (s : Demand) (shards : List KeptShard) (r : Demand) (after : List KeptShard) (t : Turned) : Type 0 where
  pub alone : IsAlone b opening r after
  pub task : KeepsTask s r
  pub outcome : t ≡ turn_outcome (plan_of_new (s ∷ []) shards) 0
  pub turn : plan_of_new (r ∷ []) after ≡ turn b (plan_of_new (s ∷ []) shards) 0
  pub done : t ≡ comes.NotReady → next r.strand ≡ Done
  pub stays : t ≡ comes.NotReady → after ≡ shards
  pub live : t ≢ comes.NotReady → 0 < s.to
  pub unspent : t ≢ comes.Spent → r.strand.spent ≡ false → s.strand.spent ≡ false
  pub refused : t ≡ comes.Spent → r.strand.spent ≡ true
  pub full : (s.strand.spent ≡ true → s.strand.charged ≡ s.strand.budget) → r.strand.spent ≡ true → r.strand.charged ≡ r.strand.budget
  pub counted : made_by r + booked_in shards ≡ made_by s + booked_in after
  pub one : made_by r ≤ made_by s + 1

-- without memory there is no turn
pub record MakesNone (s : Demand) (shards : List KeptShard) (r : Demand) (after : List KeptShard) : Type 0 where
  pub task : KeepsTask s r
  pub strand : r.strand ≡ s.strand
  pub unchanged : after ≡ shards

abbrev pub OfTurnAlone : Batch → (ℕ → List SignalCell) → Demand → List KeptShard → Demand → List KeptShard → Result Turned OutOfMemory → Type 0
OfTurnAlone b opening s shards r after (Ok t) = MakesTurn b opening s shards r after t
OfTurnAlone b opening s shards r after (Err e) = MakesNone s shards r after

-- one of the turns that are left is taken; without a limit always
abbrev pub TakesOne : Option ℕ → Option ℕ → Bool → Type 0
TakesOne None None taken = taken ≡ true
TakesOne (Some n) (Some m) true = m + 1 ≡ n
TakesOne (Some n) (Some m) false = m ≡ n
TakesOne old new taken = ⊥

-- no more was claimed and filled than the turns that were taken
abbrev pub IsWithin : Option ℕ → Option ℕ → ℕ → ℕ → Type 0
IsWithin None None old new = Unit {0}
IsWithin (Some n) (Some m) old new = new + m ≤ old + n
IsWithin old_left left old new = ⊥

-- Turns of a strand alone, none of them NotReady, led from s over the shards to r over the shards after it.
pub record IsRunning (b : Batch) (opening : ℕ → List SignalCell) (s : Demand) (shards : List KeptShard) (r : Demand) (after : List KeptShard) : Type 0 where
  pub alone : IsAlone b opening r after
  pub task : KeepsTask s r
  pub stays : s.to ≡ 0 → after ≡ shards
  pub full : r.strand.spent ≡ true → r.strand.charged ≡ r.strand.budget
  pub counted : made_by r + booked_in shards ≡ made_by s + booked_in after
  pub runs : (a : Start) → BeginsAlone b opening 0 a (plan_of_new (s ∷ []) shards) → r.strand.spent ≡ false → RunsAlone b opening 0 a (plan_of_new (s ∷ []) shards) (plan_of_new (r ∷ []) after) None

-- The strands below this number have run, one after another, and the others have made no turn.
pub record AreRun (b : Batch) (opening : ℕ → List SignalCell) (next : ℕ) (strands : List Demand) (shards : List KeptShard) : Type 0 where
  pub fresh : IsFresh b opening (shards_in shards)
  pub ran : (n : ℕ) (s : Demand) → n < next → slice_get strands n ≡ Some s → HasRun s
  pub later : (n : ℕ) (s : Demand) → next ≤ n → slice_get strands n ≡ Some s → IsUnused s

-- where none of them was refused a point, each point that was evaluated has heard its children
abbrev pub HaveHeard : Batch → ℕ → List Demand → List KeptShard → Type 0
HaveHeard b next strands shards = ((n : ℕ) (s : Demand) → n < next → slice_get strands n ≡ Some s → s.strand.spent ≡ false) → AllChildrenCovered b.circuit (entries_in (shards_in shards))
