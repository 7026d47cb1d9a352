-- What is asked for a query, one time after another.
use Rattle.std.proofs.Common.{ℕ, Bool, false, List}
use Rattle.valid_intervals.specs.declared.SignalCell.{SignalCell}
use Rattle.journal_meaning.specs.declared.batch.Query.{Query}
use Rattle.journal_meaning.specs.Batches.{Batch}
use Rattle.plan_machine.specs.Shards.{Shard}
use Rattle.plan_core.specs.asked.Asked.{AsksOn, Nothing, Needed}

module _ (b : Batch) (opening : ℕ → List SignalCell) (q : Query) where
  -- and then more
  pub asks-then : (old : List Shard) (was : Bool) (mid new : List Shard) (r : Bool) → AsksOn b opening q old was mid false → AsksOn b opening q mid false new r → AsksOn b opening q old was new r
  asks-then old was mid new r a Nothing = a
  asks-then old was mid new r a (Needed k x need h) = Needed (asks-then old was mid _ false a k) x need h
