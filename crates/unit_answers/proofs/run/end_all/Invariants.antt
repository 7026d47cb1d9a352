use Rattle.std.specs.Vec.Iter.{into_iter_items, into_iter_len}
use Rattle.unit_answers.proofs.Opening.{AreClosing}
use Rattle.unit_answers.proofs.run.end_all.Given as goal

abbrev pub invariant-loop-shard : goal.invariant-loop-shard
invariant-loop-shard g l =
    (goal.iterator-loop-shard g).can_next l.shard-iterator ×
    (goal.iterator-loop-shard g).is_finite l.shard-iterator ×
    AreClosing g.B.BatchName.batch.capacity l.fn.shards.items l.lists.items l.stores.items (into_iter_items l.shard-iterator) (into_iter_len l.shard-iterator)
