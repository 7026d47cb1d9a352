-- What a batch name stands for.
use Rattle.std.specs.Prelude.{[], None}
use Rattle.journal_meaning.specs.Batches.{Batch}

-- the batch of no name in particular
abbrev pub no_batch : Batch
no_batch = record { circuit = record { horizon = 0; drivers = [] }; shards = 0; capacity = 0; queries = []; site = None }
