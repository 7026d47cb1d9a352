-- What a question for a wave where a signal is stuck asks of its two memos.
use Rattle.std.specs.Prelude.{◌≡◌, ℕ, ◌+◌, ◌≤◌, Bool, true, false, List, [], ◌++◌}
use Rattle.std.specs.List.{AllByRecursion}
use Rattle.valid_intervals.specs.declared.Point.{Point}
use Rattle.valid_intervals.specs.declared.SignalCell.{SignalCell}
use Rattle.circuit_meaning.specs.Circuit.{Circuit}
use Rattle.circuit_meaning.specs.Need.{IsRoot}
use Rattle.journal_meaning.specs.declared.batch.Query.{Query}
use Rattle.journal_meaning.specs.Batches.{Batch, Site, window_of}
use Rattle.journal_meaning.specs.Pieces.{Start}
use Rattle.journal_meaning.specs.declared.Entry.{Entry}
use Rattle.journal_meaning.specs.Answers.{fill_count}
use Rattle.journal_meaning.specs.Grown.{IsFor, refusals}
use Rattle.plan_machine.specs.Shards.{Shard}
use Rattle.plan_machine.specs.Alone.{IsRefusedAlone}
use Rattle.plan_machine.specs.Settle.{AreFreed, entries_in, charge_of, root_start}
use Rattle.plan_core.specs.asked.Asked.{AsksOn}
use Rattle.session_meaning.specs.StuckSignals.{stuck_circuit, IsCoveredBy}

-- which of the two memos refused a strand: its own did at a point
pub data RefusedBy : Type 0 where
  Neither : RefusedBy
  Session : RefusedBy
  Own : Point → RefusedBy

abbrev pub is_refused : RefusedBy → Bool
is_refused Neither = false
is_refused Session = true
is_refused (Own p) = true

abbrev pub is_session : RefusedBy → Bool
is_session Neither = false
is_session Session = true
is_session (Own p) = false

-- The entries that the strand added to the memo of its own have no refusal, or the one that has its cause. If no memo refused it, the
-- entries of both cover its root.
abbrev pub IsOutcomeOf : Circuit → Site → Start → List Entry → List Entry → List Entry → RefusedBy → Type 0
IsOutcomeOf c site a es added own Neither = IsCoveredBy c site es own (record { signal = a.query.signal; time = a.start }) × (refusals added a.query.number ≡ 0)
IsOutcomeOf c site a es added own Session = refusals added a.query.number ≡ 0
IsOutcomeOf c site a es added own (Own p) = IsRefusedAlone a p added own

-- A strand that was started so asks both memos for its root: points that are free of the site it asks of the session's, and none once
-- that refused one. To the memo of its own it adds entries for the query alone, and its charge never passes the budget.
pub record HearsRoot (b : Batch) (opening : ℕ → List SignalCell) (site : Site) (a : Start) (old : List Shard) (was : List Entry) (new : List Shard) (own : List Entry) (refused : Bool) : Type 0 where
  pub refused_by : RefusedBy
  pub flag : refused ≡ is_refused refused_by
  pub session : AsksOn b opening a.query old false new (is_session refused_by)
  pub added : List Entry
  pub journal : own ≡ was ++ added
  pub numbers : AllByRecursion (IsFor a.query.number) added
  pub charge : a.charged + fill_count added a.query.number ≤ a.budget
  pub outcome : IsOutcomeOf b.circuit site a (entries_in new) added own refused_by

-- What is asked of both memos for a query, one root of its window after another, and nothing more of either once one refused a strand.
-- Each strand is charged what was filled in the memo of its own so far, at most the query's budget.
pub data AsksRoots (b : Batch) (opening : ℕ → List SignalCell) (site : Site) (q : Query) (old : List Shard) (was : List Entry) : List Shard → List Entry → Bool → Type 0 where
  Nothing : AsksRoots b opening site q old was old was false
  Root : {now next : List Shard} {held own : List Entry} {refused : Bool} → AsksRoots b opening site q old was now held false → (t : ℕ) → IsRoot (stuck_circuit b.circuit site) (window_of q) t
      → HearsRoot b opening site (root_start q t (charge_of held q)) now held next own refused → AsksRoots b opening site q old was next own refused

-- Claims that are left in the session's memo are freed, and the memo of its own begins with no entry. Then both are asked for the query.
pub record AsksBoth (b : Batch) (opening : ℕ → List SignalCell) (site : Site) (q : Query) (old new : List Shard) (own : List Entry) (refused : Bool) : Type 0 where
  pub freed : List Shard
  pub frees : AreFreed old freed
  pub asks : AsksRoots b opening site q freed [] new own refused
