-- Definitions for proofs and private functions, beside `Phases`.
use Rattle.std.specs.Prelude.{◌≡◌, Bool, true, false, List, [], ◌∷◌, map}
use Rattle.std.specs.List.{AllByRecursion}
use Rattle.circuit_meaning.specs.Circuit.{Circuit}
use Rattle.journal_meaning.specs.declared.Entry.{Entry}
use Rattle.journal_meaning.specs.declared.batch.Query.{Query}
use Rattle.journal_meaning.specs.Answers.{fill_count}
use Rattle.journal_meaning.specs.Batches.{Batch}
use Rattle.journal_meaning.specs.Grown.{IsFor, AreAdded}
use Rattle.plan_machine.specs.Shards.{Shard}
use Rattle.plan_machine.specs.Standings.{IsOpen, AreVisited}
use Rattle.plan_machine.specs.Settle.{IsSettled, AreAllSettled, journals_of, entries_in, charge_of}
use Rattle.circuit_meaning.specs.declared.Run.{Run}
use Rattle.reply_lines.specs.declared.reply.Outcome.{Outcome}
use Rattle.query_answers.specs.declared.windows.answers.Fed.{Fed}
use Rattle.query_answers.specs.windows.Phases.{AreOutcomes, refused_of}

-- which queries were refused while their fills were visited
abbrev pub refused_in : List Fed → List Bool
refused_in fs = map (λ (f : Fed). f.refused) fs

-- what a query filled before settlement is visited, or the query was refused
abbrev pub IsFed : Circuit → Query → List Entry → List Entry → Bool → Type 0
IsFed c q start now false = IsOpen c q start now × AreVisited c q start now
IsFed c q start now true = IsSettled c q start now true

-- the same, and this is the charge of the query
pub record IsFedWith (c : Circuit) (q : Query) (start now : List Entry) (f : Fed) : Type 0 where
  pub fed : IsFed c q start now f.refused
  pub counts : f.charge ≡ charge_of now q

abbrev pub AreAllFed : Circuit → List Entry → List Entry → List Query → List Fed → Type 0
AreAllFed c start now [] [] = Unit {0}
AreAllFed c start now (q ∷ qs) (f ∷ fs) = IsFedWith c q start now f × AreAllFed c start now qs fs
AreAllFed c start now qs fs = ⊥

-- a query's fills were visited over the shards, from the first ones to the new ones
pub record FeedsQuery (b : Batch) (q : Query) (start : List Entry) (first new : List Shard) (f : Fed) : Type 0 where
  pub added : List Entry
  pub journals : AreAdded (journals_of first) added (journals_of new)
  pub own : AllByRecursion (IsFor q.number) added
  pub fed : IsFedWith b.circuit q start (entries_in new) f

-- between two queries of the first phase; since settlement began, nothing was filled for those that are left
pub record IsFeeding (b : Batch) (start : List Entry) (first now : List Shard) (done : List Query) (fed : List Fed) (left : List Query) : Type 0 where
  pub added : List Entry
  pub journals : AreAdded (journals_of first) added (journals_of now)
  pub all : AreAllFed b.circuit start (entries_in now) done fed
  pub opens : AllByRecursion (λ q. IsOpen b.circuit q start (entries_in now)) left
  pub fills : AllByRecursion (λ q. fill_count (entries_in now) q.number ≡ fill_count start q.number) left

-- between two queries of the second phase
pub record IsWalking (b : Batch) (start : List Entry) (first now : List Shard) (done : List Query) (outcomes : List (Outcome (List Run))) (left : List Query) (fed : List Fed) : Type 0 where
  pub added : List Entry
  pub journals : AreAdded (journals_of first) added (journals_of now)
  pub settled : AreAllSettled b.circuit start (entries_in now) done (refused_of outcomes)
  pub answers : AreOutcomes b.circuit done outcomes
  pub all : AreAllFed b.circuit start (entries_in now) left fed
