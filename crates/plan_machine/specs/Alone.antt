-- A strand that runs alone: what holds during its run, and what the run leaves.
use Rattle.std.specs.Prelude.{◌≡◌, ◌≢◌, ◌⊎◌, ℕ, zero, suc, ◌+◌, ◌-◌, ◌≤◌, true, false, List, [], ◌∷◌, ◌++◌, length, map, All, AllPairs, Contains, slice_get, is_some, Option, Some, None}
use Rattle.std.specs.List.{AllByRecursion}
use Rattle.valid_intervals.specs.declared.Cell.{Cell}
use Rattle.valid_intervals.specs.declared.Point.{Point}
use Rattle.valid_intervals.specs.declared.SignalCell.{SignalCell}
use Rattle.circuit_meaning.specs.Circuit.{Circuit}
use Rattle.circuit_meaning.specs.Need.{children}
use Rattle.journal_meaning.specs.declared.Entry.{Entry}
use Rattle.journal_meaning.specs.declared.Entry.TheVariants.{Told, Claimed, Filled, Evicted, Dropped, Spent}
use Rattle.journal_meaning.specs.Batches.{Batch}
use Rattle.journal_meaning.specs.Answers.{IsCovered, last_of, fill_count}
use Rattle.journal_meaning.specs.Grown.{IsSaid, IsFor, refusals, AreAdded}
use Rattle.plan_machine.specs.declared.strand.Next.{Next}
use Rattle.plan_machine.specs.declared.strand.Next.TheVariants.{Ask}
use Rattle.plan_machine.specs.Strands.{Frame, Strand, started_strand, roots_from, asked_children, next_in, next, given_up}
use Rattle.journal_meaning.specs.Pieces.{Start, piece}
use Rattle.plan_machine.specs.Shards.{shard_with_entry}
use Rattle.plan_machine.specs.Plans.{Plan, shard_of, claim_of, with_shard}
use Rattle.plan_machine.specs.Steps as steps
use Rattle.plan_machine.specs.Steps.{Step, step_at, turn_outcome}
use Rattle.plan_machine.specs.declared.Turned.TheVariants as comes
use Rattle.plan_machine.specs.Turns.{plan_after, turn}
use Rattle.plan_machine.specs.Sound.{IsSound, HasEnded}
use Rattle.plan_machine.specs.Journals.{journals, entries}

-- The strand s was refused the point that it asked for. The refusal is recorded, with the number of its claims.
abbrev pub plan_refusing : Plan → Strand → Next → Plan
plan_refusing plan s (Ask p) = with_shard plan p (shard_with_entry (Spent s.query.number p (length s.stack)) (shard_of plan p))
plan_refusing plan s n = plan

-- a turn of a strand that runs alone; if its budget is spent, the refusal is recorded
abbrev pub alone_step : Batch → Plan → ℕ → Strand → Step → Plan
alone_step b plan i s steps.Spend = plan_refusing (plan_after b plan i s steps.Spend) s (next s)
alone_step b plan i s t = plan_after b plan i s t

abbrev pub alone_at : Batch → Plan → ℕ → Option Strand → Plan
alone_at b plan i None = plan
alone_at b plan i (Some s) = alone_step b plan i s (step_at plan (Some s))

abbrev pub alone_turn : Batch → Plan → ℕ → Plan
alone_turn b plan i = alone_at b plan i (slice_get plan.strands i)

-- this many turns of strand i
abbrev pub run_alone : Batch → ℕ → ℕ → Plan → Plan
run_alone b i zero plan = plan
run_alone b i (suc n) plan = run_alone b i n (alone_turn b plan i)

-- the roots of a start: the ends of cells from its first time on, including those with base answers
abbrev pub roots_of : Circuit → Start → List Point
roots_of c a = roots_from c (piece a) (a.stop - a.start) a.start

-- the point is not heard yet, or an added entry says its cell
abbrev pub IsDue : List Entry → List Point → Point → Type 0
IsDue added left p = Contains left p ⊎ IsSaid added p

-- each child of a claimed point is due
abbrev pub IsFrameDue : Circuit → List Entry → Frame → Type 0
IsFrameDue c added f = All (IsDue added f.left) (asked_children c f.point)

-- the children of the evaluated points are said
abbrev pub AreFed : Circuit → List Entry → Type 0
AreFed c added = (q : ℕ) (p : Point) (x : Cell) → Contains added (Filled q p x) → All (IsSaid added) (asked_children c p)

-- an entry of a strand whose budget is not spent
abbrev pub IsUnspent : Entry → Type 0
IsUnspent (Told q p x) = Unit {0}
IsUnspent (Claimed q p) = Unit {0}
IsUnspent (Filled q p x) = Unit {0}
IsUnspent (Evicted signal start) = Unit {0}
IsUnspent (Dropped q p) = ⊥
IsUnspent (Spent q p claims) = ⊥

abbrev pub points_on : List Frame → List Point
points_on st = map (λ f. f.point) st

-- While the budget is not spent: the charge is that at the start, plus the fills and the claims. Each root and each child of a claimed
-- point is not heard yet or said by an entry. Each child of an evaluated point is said. All added entries are the strand's.
pub record IsUnderWay (c : Circuit) (a : Start) (added : List Entry) (s : Strand) : Type 0 where
  pub query : s.query ≡ a.query
  pub budget : s.budget ≡ a.budget
  pub unspent : s.spent ≡ false
  pub charge : s.charged ≡ a.charged + fill_count added a.query.number + length s.stack
  pub frames : AllByRecursion (IsFrameDue c added) s.stack
  pub roots : All (IsDue added s.roots) (started_strand c a).roots
  pub fed : AreFed c added
  pub own : AllByRecursion (IsFor a.query.number) added
  pub going : AllByRecursion IsUnspent added

abbrev pub drops : ℕ → List Point → List Entry
drops q points = map (Dropped q) points

-- Once the strand was refused p: the refusal comes after the entries before it, and is followed by the points dropped since. These points
-- and those still held are different from each other and from p. With the charge and the fills before, they make up the budget.
pub record IsGivingUp (c : Circuit) (a : Start) (p : Point) (added : List Entry) (s : Strand) : Type 0 where
  pub query : s.query ≡ a.query
  pub budget : s.budget ≡ a.budget
  pub spent : s.spent ≡ true
  pub before : List Entry
  pub gone : List Point
  pub added_is : added ≡ before ++ Spent a.query.number p (length gone + length s.stack) ∷ drops a.query.number gone
  pub different : AllPairs (λ x y. x ≢ y) (p ∷ gone ++ points_on s.stack)
  pub account : a.charged + fill_count before a.query.number + (length gone + length s.stack) ≡ a.budget
  pub fed : AreFed c before
  pub own : AllByRecursion (IsFor a.query.number) before
  pub going : AllByRecursion IsUnspent before

-- under way, or giving up after it was refused a point
abbrev pub IsAtPoint : Circuit → Start → List Entry → Strand → Option Point → Type 0
IsAtPoint c a added s None = IsUnderWay c a added s
IsAtPoint c a added s (Some p) = IsGivingUp c a p added s

-- Turns of strand n alone led from the old plan to this one and added these entries. The strand is now s, and does not wait. No other
-- strand changed, and none of them holds a point or waits.
pub record IsAlone (b : Batch) (opening : ℕ → List SignalCell) (n : ℕ) (old : Plan) (added : List Entry) (s : Strand) (plan : Plan) : Type 0 where
  pub sound : IsSound b opening plan
  pub at : slice_get plan.strands n ≡ Some s
  pub awake : s.waits ≡ false
  pub others : (j : ℕ) → j ≢ n → slice_get plan.strands j ≡ slice_get old.strands j
  pub idle : (j : ℕ) (r : Strand) → j ≢ n → slice_get plan.strands j ≡ Some r → (r.stack ≡ []) × (r.waits ≡ false)
  pub journals : AreAdded (journals old) added (journals plan)

-- what holds after each turn of strand n alone, which was started as a
pub record RunsAlone (b : Batch) (opening : ℕ → List SignalCell) (n : ℕ) (a : Start) (old plan : Plan) (spent : Option Point) : Type 0 where
  pub added : List Entry
  pub strand : Strand
  pub alone : IsAlone b opening n old added strand plan
  pub is_at : IsAtPoint b.circuit a added strand spent

-- The strand was not refused: each of its roots is covered, and its charge has room for its fills.
pub record IsServedAlone (c : Circuit) (a : Start) (added new : List Entry) : Type 0 where
  pub roots : All (IsCovered c new) (roots_of c a)
  pub charge : a.charged + fill_count added a.query.number ≤ a.budget
  pub refusals : refusals added a.query.number ≡ 0

-- The strand was refused the point: the last entry of its query there says so. It gave up this many different points, and the last entry at
-- each of them says so. The charge at its start, its fills and these points make up its budget.
pub record IsRefusedAlone (a : Start) (p : Point) (added new : List Entry) : Type 0 where
  pub given_up : List Point
  pub last : last_of new a.query.number p ≡ Some (Spent a.query.number p (length given_up))
  pub different : AllPairs (λ x y. x ≢ y) given_up
  pub dropped : All (λ x. last_of new a.query.number x ≡ Some (Dropped a.query.number x)) given_up
  pub budget : a.charged + fill_count added a.query.number + length given_up ≡ a.budget
  pub refusals : refusals added a.query.number ≡ 1

abbrev pub IsOutcome : Circuit → Start → List Entry → List Entry → Option Point → Type 0
IsOutcome c a added new None = IsServedAlone c a added new
IsOutcome c a added new (Some p) = IsRefusedAlone a p added new

-- the strand has ended with its query, and is spent exactly when it was refused
pub record HasRun (n : ℕ) (a : Start) (new : Plan) (refused_at : Option Point) : Type 0 where
  pub strand : Strand
  pub at : slice_get new.strands n ≡ Some strand
  pub query : strand.query ≡ a.query
  pub ended : HasEnded strand
  pub spent : strand.spent ≡ is_some refused_at

-- The result of running strand n, started as a, alone to its end: entries for its query were added, no point is claimed, no other strand
-- changed, and the children of its fills are covered.
pub record RanAlone (b : Batch) (opening : ℕ → List SignalCell) (n : ℕ) (a : Start) (old new : Plan) (spent : Option Point) : Type 0 where
  pub sound : IsSound b opening new
  pub added : List Entry
  pub journals : AreAdded (journals old) added (journals new)
  pub own : AllByRecursion (IsFor a.query.number) added
  pub others : (j : ℕ) → j ≢ n → slice_get new.strands j ≡ slice_get old.strands j
  pub strand : HasRun n a new spent
  pub free : (p : Point) → claim_of new p ≡ None
  pub children : (q : ℕ) (p : Point) (x : Cell) → Contains added (Filled q p x) → All (IsCovered b.circuit (entries new)) (children b.circuit p.signal p.time)
  pub outcome : IsOutcome b.circuit a added (entries new) spent

-- strand n, which was s, was refused the point that it asked for: now it is spent, and would still ask for the point
pub record IsRefusal (n : ℕ) (p : Point) (s : Strand) (plan new : Plan) : Type 0 where
  pub at : slice_get plan.strands n ≡ Some s
  pub asks : next s ≡ Ask p
  pub now : slice_get new.strands n ≡ Some (given_up s)
  pub still : next_in false s.roots s.stack ≡ Ask p

-- A turn of strand n alone never waits, and the strand goes on. If the turn is Spent, the refusal is recorded. If it is NotReady, the
-- strand has ended.
pub record TurnsAlone (b : Batch) (opening : ℕ → List SignalCell) (n : ℕ) (a : Start) (old plan : Plan) (spent : Option Point) : Type 0 where
  pub never : turn_outcome plan n ≢ comes.Waits
  pub on : turn_outcome plan n ≢ comes.Spent → RunsAlone b opening n a old (turn b plan n) spent
  pub refusal : turn_outcome plan n ≡ comes.Spent → (p : Point) × (s : Strand) × (spent ≡ None) × IsRefusal n p s plan (turn b plan n) × RunsAlone b opening n a old (plan_refusing (turn b plan n) s (Ask p)) (Some p)
  pub ended : turn_outcome plan n ≡ comes.NotReady → RanAlone b opening n a old plan spent
