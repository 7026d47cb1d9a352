-- What only the proofs and the private functions of this crate speak of, beside `Grants`.
use Rattle.std.specs.Prelude.{◌≡◌, Option, Some, None, Result, Ok, Err}
use Rattle.texts.specs.declared.OutOfMemory.{OutOfMemory}
use Rattle.valid_intervals.specs.declared.Cell.{Cell}
use Rattle.valid_intervals.specs.declared.Point.{Point}
use Rattle.valid_intervals.specs.Cells.{stored_at}
use Rattle.journal_meaning.specs.Batches.{Batch}
use Rattle.demand_points.specs.Demands.{Demand, IsAskedCell}
use Rattle.memo_shards.specs.KeptShards.{KeptShard}
use Rattle.memo_shards.specs.Grants.{TellsCell}

-- of the first part of an ask, which looks for a stored cell
abbrev pub OfTell : Batch → KeptShard → KeptShard → Point → Demand → Result (Option Cell) OutOfMemory → Type 0
OfTell b old new p w (Ok (Some cell)) = TellsCell old new p w cell × IsAskedCell b.circuit w.strand cell
OfTell b old new p w (Ok None) = (stored_at old.shard.state.cells p ≡ None) × (new ≡ old)
OfTell b old new p w (Err e) = new ≡ old
