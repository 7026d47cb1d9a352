-- A question asked of two memos: what is the same throughout it, and what stands between two of its times.
use Rattle.std.specs.Prelude.{◌≡◌, ◌⊎◌, ℕ, ◌+◌, ◌≤◌, ◌<◌, true, List, [], ◌∷◌, ◌++◌, length, All, Contains, Some}
use Rattle.std.specs.List.{AllByRecursion}
use Rattle.valid_intervals.specs.declared.Cell.{Cell}
use Rattle.valid_intervals.specs.declared.Point.{Point}
use Rattle.valid_intervals.specs.declared.SignalCell.{SignalCell}
use Rattle.circuit_meaning.specs.Circuit.{Circuit}
use Rattle.circuit_meaning.specs.Forced.{IsFree}
use Rattle.circuit_meaning.specs.Need.{children}
use Rattle.journal_meaning.specs.declared.batch.Query.{Query}
use Rattle.journal_meaning.specs.Batches.{Batch, Site}
use Rattle.journal_meaning.specs.Lawful.{IsLawful}
use Rattle.journal_meaning.specs.Pieces.{Start}
use Rattle.journal_meaning.specs.declared.Entry.{Entry}
use Rattle.journal_meaning.specs.declared.Entry.TheVariants.{Told, Filled}
use Rattle.journal_meaning.specs.Answers.{ChildrenCovered, IsSpent, fill_count}
use Rattle.journal_meaning.specs.Grown.{IsSaid, IsFor}
use Rattle.journal_meaning.specs.States.{holder}
use Rattle.plan_machine.specs.Strands.{Strand, IsOnStack}
use Rattle.plan_machine.specs.Shards.{Shard}
use Rattle.plan_machine.specs.Alone.{AreFed, IsUnspent, IsUnderWay, IsGivingUp}
use Rattle.plan_machine.specs.Standings.{IsStanding}
use Rattle.demand_points.specs.Demands.{Demand}
use Rattle.memo_shards.specs.KeptShards.{KeptShard}
use Rattle.session_meaning.specs.StuckSignals.{stuck_circuit, held_batch, IsCoveredBy, NoneIsFree}
use Rattle.plan_core.specs.asked.Memos.{entries_of}
use Rattle.plan_core.specs.asked.Standings.{live}
use Rattle.query_answers.specs.stuck.Asks.{RefusedBy, Neither, Session, Own, IsOutcomeOf}
use Rattle.query_answers.specs.declared.stuck.both.StuckQuery.{StuckQuery}

abbrev pub site_in : StuckQuery → Site
site_in question = record { signal = question.site; value = question.value }

-- the circuit in which the site of the question is stuck
abbrev pub circuit_of : Batch → StuckQuery → Circuit
circuit_of b question = stuck_circuit b.circuit (site_in question)

-- The batch of the session's memo and that of the memo of its own, the circuit and the one in which the site is stuck.
pub record IsAsked (b own : Batch) (question : StuckQuery) (c d : Circuit) : Type 0 where
  pub lawful : IsLawful b
  pub circuit : c ≡ b.circuit
  pub stuck : d ≡ circuit_of b question
  pub site : b.site ≡ Some (site_in question)
  pub signal : question.site < length b.circuit.drivers
  pub queries : b.queries ≡ question.query ∷ []
  pub own_is : own ≡ held_batch b.circuit (site_in question) question.query

-- an entry that stands for a cell heard from the session's memo, at this one time
abbrev pub IsHeardThere : Circuit → Site → List Entry → Entry → Type 0
IsHeardThere c site es (Told q p x) = IsFree c site.signal p.signal × IsSaid es p × (x.span.start ≡ p.time) × (x.span.stop ≡ p.time + 1)
IsHeardThere c site es e = ⊥

-- The entries of the memo of its own, and among them one for each cell that was heard from the session's memo.
pub record Mirrors (c : Circuit) (site : Site) (es own mirror : List Entry) : Type 0 where
  pub fills : (q : ℕ) → fill_count mirror q ≡ fill_count own q
  pub has : (e : Entry) → Contains own e → Contains mirror e
  pub only : (e : Entry) → Contains mirror e → Contains own e ⊎ IsHeardThere c site es e

-- what was evaluated in either memo has its children covered
pub record AreAllFed (c : Circuit) (site : Site) (q : Query) (es own : List Entry) : Type 0 where
  pub children : (p : Point) (x : Cell) → Contains own (Filled q.number p x) → All (IsCoveredBy c site es own) (children (stuck_circuit c site) p.signal p.time)
  pub free : ChildrenCovered c es q.number

-- Between two times: nothing is claimed in the memo of its own, no budget was spent, and it has filled so many points.
pub record Rests (b : Batch) (opening : ℕ → List SignalCell) (question : StuckQuery) (ms : List KeptShard) (m : KeptShard) (charge : ℕ) : Type 0 where
  pub first : List Shard
  pub stands : IsStanding b opening question.query [] first (live ms)
  pub mirror : List Entry
  pub mirrors : Mirrors b.circuit (site_in question) (entries_of ms) m.shard.journal mirror
  pub fed : AreFed (circuit_of b question) mirror
  pub own : AllByRecursion (IsFor question.query.number) mirror
  pub going : AllByRecursion IsUnspent mirror
  pub number : m.number ≡ 0
  pub idle : m.shard.state.claims ≡ []
  pub charged : fill_count m.shard.journal question.query.number ≡ charge
  pub few : charge ≤ question.query.budget
  pub reached : NoneIsFree b.circuit (site_in question) m.shard.journal

-- it was refused: nothing is claimed any more, and one of the two memos holds the cause
pub record IsRefused (b : Batch) (question : StuckQuery) (ms : List KeptShard) (m : KeptShard) : Type 0 where
  pub number : m.number ≡ 0
  pub idle : m.shard.state.claims ≡ []
  pub reached : NoneIsFree b.circuit (site_in question) m.shard.journal
  pub cause : IsSpent (entries_of ms) question.query ⊎ IsSpent m.shard.journal question.query

-- what is claimed is what the strand holds
pub record HoldsAll (question : StuckQuery) (m : KeptShard) (s : Demand) : Type 0 where
  pub held : (p : Point) → IsOnStack s.strand.stack p → holder m.shard.state.claims p ≡ Some question.query.number
  pub holder : (p : Point) (q : ℕ) → holder m.shard.state.claims p ≡ Some q → IsOnStack s.strand.stack p

-- a strand of the question for this one time
abbrev pub start_at : StuckQuery → ℕ → Start
start_at question time = record { query = question.query; start = time; stop = time + 1; budget = question.query.budget; charged = 0 }

-- While a strand asks for one time, the entries before it counted as its own.
pub record Asks (b : Batch) (opening : ℕ → List SignalCell) (question : StuckQuery) (time : ℕ) (ms : List KeptShard) (m : KeptShard) (s : Demand) : Type 0 where
  pub first : List Shard
  pub stands : IsStanding b opening question.query [] first (live ms)
  pub mirror : List Entry
  pub mirrors : Mirrors b.circuit (site_in question) (entries_of ms) m.shard.journal mirror
  pub way : IsUnderWay (circuit_of b question) (start_at question time) mirror s.strand
  pub holds : HoldsAll question m s
  pub number : m.number ≡ 0
  pub reached : NoneIsFree b.circuit (site_in question) m.shard.journal
  pub from : s.from ≡ time
  pub to : s.to ≡ time + 1

-- a circuit without signals, in which nothing comes from anything
abbrev pub nothing : Circuit
nothing = record { horizon = 0; drivers = [] }

-- What a strand leaves in the memo of its own, over the entries since the question began: they are the query's, and its fills are at
-- most its budget.
pub record LeavesOwn (c : Circuit) (question : StuckQuery) (time : ℕ) (es own : List Entry) (who : RefusedBy) : Type 0 where
  pub ours : AllByRecursion (IsFor question.query.number) own
  pub few : fill_count own question.query.number ≤ question.query.budget
  pub outcome : IsOutcomeOf c (site_in question) (start_at question time) es own own who

-- why a strand gives up: the session's memo refused it, or its own did at a point
abbrev pub IsGivingUpBy : Circuit → StuckQuery → ℕ → List Entry → List Entry → Strand → RefusedBy → Type 0
IsGivingUpBy c question time es own s Neither = ⊥
IsGivingUpBy c question time es own s Session = IsSpent es question.query × LeavesOwn c question time es own Session
IsGivingUpBy c question time es own s (Own p) = IsGivingUp nothing (start_at question time) p own s

-- It was refused, and holds claims still.
pub record GivesUp (b : Batch) (question : StuckQuery) (time : ℕ) (ms : List KeptShard) (m : KeptShard) (s : Demand) (who : RefusedBy) : Type 0 where
  pub holds : HoldsAll question m s
  pub query : s.strand.query ≡ question.query
  pub number : m.number ≡ 0
  pub reached : NoneIsFree b.circuit (site_in question) m.shard.journal
  pub spent : s.strand.spent ≡ true
  pub to : s.to ≡ time + 1
  pub cause : IsGivingUpBy b.circuit question time (entries_of ms) m.shard.journal s.strand who

-- the entries are kept
abbrev pub AreKept : List Entry → List Entry → Type 0
AreKept old new = (e : Entry) → Contains old e → Contains new e

-- entries were added at the end
abbrev pub Extends : List Entry → List Entry → Type 0
Extends old new = (added : List Entry) × (new ≡ old ++ added)
