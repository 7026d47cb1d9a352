-- A memo that is asked for the cells of a query, one point after another.
use Rattle.std.specs.Prelude.{◌≡◌, ℕ, Bool, false, List, [], Option, Some, None, option_map, IfSome}
use Rattle.valid_intervals.specs.declared.Cell.{Cell}
use Rattle.valid_intervals.specs.declared.Point.{Point}
use Rattle.valid_intervals.specs.declared.SignalCell.{SignalCell}
use Rattle.circuit_meaning.specs.Circuit.{Circuit}
use Rattle.circuit_meaning.specs.Cells.{cell_at}
use Rattle.journal_meaning.specs.declared.batch.Query.{Query}
use Rattle.journal_meaning.specs.Batches.{Batch}
use Rattle.journal_meaning.specs.Lawful.{IsLawful}
use Rattle.journal_meaning.specs.Pieces.{Start}
use Rattle.plan_machine.specs.Settle.{charge_of, child_start}
use Rattle.memo_shards.specs.KeptShards.{KeptShard}
use Rattle.plan_core.specs.Parts.{shards_in}
use Rattle.plan_core.specs.asked.Asked.{AsksOn}
use Rattle.plan_core.specs.asked.Memos.{AreFreeShards, entries_of}

-- the shards of the memo, none once it was given up, and the query for which it is asked
pub record AskedMemo : Type 0 where
  pub memo : List KeptShard
  pub query : Query

abbrev pub shards_left : Option (List KeptShard) → List KeptShard
shards_left None = []
shards_left (Some ms) = ms

-- The batch is lawful. No point is claimed in the memo, and the query is charged what it filled.
pub record IsAsking (b : Batch) (opening : ℕ → List SignalCell) (memo : Option (List KeptShard)) (q : Query) (charge : ℕ) : Type 0 where
  pub lawful : IsLawful b
  pub free : IfSome memo (AreFreeShards b opening)
  pub counts : charge ≡ charge_of (entries_of (shards_left memo)) q

-- what is heard of the point that a pin reads, where it reads one: the point and its cell
abbrev pub heard_at : Circuit → Option Point → Option (Point × Cell)
heard_at c o = option_map (λ (p : Point). (p, cell_at c p)) o

-- with what a strand is started that asks for a point
abbrev pub start_for : AskedMemo → Point → Start
start_for a p = child_start a.query p (charge_of (entries_of a.memo) a.query)

-- points were asked for the same query, and none once it was refused
pub record GoesOnAsking (b : Batch) (opening : ℕ → List SignalCell) (old new : AskedMemo) (refused : Bool) : Type 0 where
  pub query : new.query ≡ old.query
  pub asks : AsksOn b opening old.query (shards_in old.memo) false (shards_in new.memo) refused
