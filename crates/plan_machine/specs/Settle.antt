-- Settling a batch: one strand after another asks for what is missing, each alone over the shards.
use Rattle.std.specs.Prelude.{◌≡◌, ◌≢◌, ℕ, ◌+◌, ◌≤◌, ◌<◌, min, Bool, true, false, length, slice_index_or, AllPairs, List, [], ◌∷◌, map, Contains, Option, Some, None}
use Rattle.std.specs.List.{AllByRecursion}
use Rattle.valid_intervals.specs.declared.Point.{Point}
use Rattle.valid_intervals.specs.declared.SignalCell.{SignalCell}
use Rattle.circuit_meaning.specs.Circuit.{Circuit}
use Rattle.circuit_meaning.specs.declared.Run.{Run}
use Rattle.circuit_meaning.specs.Forward.{wave}
use Rattle.journal_meaning.specs.declared.Entry.{Entry}
use Rattle.journal_meaning.specs.declared.Entry.TheVariants.{Dropped}
use Rattle.journal_meaning.specs.declared.batch.Query.{Query}
use Rattle.journal_meaning.specs.Batches.{Batch}
use Rattle.journal_meaning.specs.Answers.{fill_count, IsClosed, IsSpent, IsAnswer}
use Rattle.journal_meaning.specs.Sections.{of_batch}
use Rattle.journal_meaning.specs.Laws.{IsLegalFrom}
use Rattle.journal_meaning.specs.Grown.{refusals, AreAdded}
use Rattle.journal_meaning.specs.Pieces.{Start}
use Rattle.journal_meaning.specs.States.{Claim, holder}
use Rattle.plan_machine.specs.Shards.{Shard, IsShard, shard_with_entry}
use Rattle.plan_machine.specs.Plans.{no_shard}
use Rattle.plan_machine.specs.Sound.{IsFresh}

abbrev pub journals_of : List Shard → List (List Entry)
journals_of shards = map (λ (h : Shard). h.journal) shards

abbrev pub entries_in : List Shard → List Entry
entries_in shards = of_batch (journals_of shards)

-- the charge of a query so far: its fills in this batch, at most its budget
abbrev pub charge_of : List Entry → Query → ℕ
charge_of es q = min (fill_count es q.number) q.budget

-- a query for one point, with the number of this query
abbrev pub sub_query : Query → Point → Query
sub_query q x = record { number = q.number; signal = x.signal; from = x.time; to = x.time + 1; budget = q.budget }

-- a sub-query asks for a missing child
abbrev pub child_start : Query → Point → ℕ → Start
child_start q x charged = record { query = sub_query q x; start = x.time; stop = x.time + 1; budget = q.budget; charged = charged }

-- the query itself asks for a missing root
abbrev pub root_start : Query → ℕ → ℕ → Start
root_start q t charged = record { query = q; start = t; stop = t + 1; budget = q.budget; charged = charged }

-- A query is settled: it is closed, and settlement recorded no refusal of it; or settlement recorded one refusal, which has its cause.
abbrev pub IsSettled : Circuit → Query → List Entry → List Entry → Bool → Type 0
IsSettled c q start now false = IsClosed c now q × (refusals now q.number ≡ refusals start q.number)
IsSettled c q start now true = IsSpent now q × (refusals now q.number ≡ refusals start q.number + 1)

-- these queries are settled, each with its flag
abbrev pub AreAllSettled : Circuit → List Entry → List Entry → List Query → List Bool → Type 0
AreAllSettled c start now [] [] = Unit {0}
AreAllSettled c start now (q ∷ qs) (r ∷ rs) = IsSettled c q start now r × AreAllSettled c start now qs rs
AreAllSettled c start now qs rs = ⊥

-- The state while a query is settled: the shards, and whether it was refused.
pub record Standing : Type 0 where
  pub shards : List Shard
  pub refused : Bool

-- All queries of the batch are settled: the journals are kept, and no claim is left.
pub record AreSettled (b : Batch) (opening : ℕ → List SignalCell) (old new : List Shard) (refused : List Bool) : Type 0 where
  pub fresh : IsFresh b opening new
  pub added : List Entry
  pub journals : AreAdded (journals_of old) added (journals_of new)
  pub queries : AreAllSettled b.circuit (entries_in old) (entries_in new) b.queries refused

-- Before settlement the claims that are left are dropped, in an order that has each of them once.
pub record IsOrder (claims order : List Claim) : Type 0 where
  pub claimed : AllByRecursion (λ c. holder claims c.point ≡ Some c.query) order
  pub different : AllPairs (λ a b. a.point ≢ b.point) order
  pub all : (p : Point) (q : ℕ) → holder claims p ≡ Some q → (c : Claim) × Contains order c × (c.point ≡ p)

abbrev pub drop_of : Claim → Entry
drop_of c = Dropped c.query c.point

abbrev pub shard_without : List Claim → Shard → Shard
shard_without [] h = h
shard_without (c ∷ order) h = shard_without order (shard_with_entry (drop_of c) h)

-- each shard is freed in some order
pub record AreFreed (old new : List Shard) : Type 0 where
  pub count : length new ≡ length old
  pub order : (n : ℕ) → n < length old → (order : List Claim) × IsOrder (slice_index_or old n no_shard).state.claims order × (slice_index_or new n no_shard ≡ shard_without order (slice_index_or old n no_shard))

-- the shards of a batch, possibly with claims
pub record AreShards (b : Batch) (opening : ℕ → List SignalCell) (shards : List Shard) : Type 0 where
  pub count : length shards ≡ b.shards
  pub right : (n : ℕ) → n < b.shards → IsShard b n (opening n) (slice_index_or shards n no_shard)

-- the answer to a query: its wave, or none if it was refused
abbrev pub answer_of : Circuit → Query → Bool → Option (List Run)
answer_of c q false = Some (wave c q.signal q.from q.to)
answer_of c q true = None

abbrev pub AreAnswered : Circuit → List Entry → List Query → List Bool → Type 0
AreAnswered c es [] [] = Unit {0}
AreAnswered c es (q ∷ qs) (r ∷ rs) = IsAnswer c es q (answer_of c q r) × AreAnswered c es qs rs
AreAnswered c es qs rs = ⊥

-- the journals of a batch are legal to their end, and its queries have right answers
pub record IsAnswered (b : Batch) (opening : ℕ → List SignalCell) (shards : List Shard) (refused : List Bool) : Type 0 where
  pub legal : IsLegalFrom b opening (journals_of shards)
  pub answers : AreAnswered b.circuit (entries_in shards) b.queries refused
