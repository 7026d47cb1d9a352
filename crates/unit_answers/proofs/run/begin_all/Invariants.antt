use Rattle.std.specs.Vec.Iter.{into_iter_items, into_iter_len}
use Rattle.unit_answers.proofs.Opening.{AreOpening}
use Rattle.unit_answers.proofs.run.begin_all.Given as goal

abbrev pub invariant-loop-store : goal.invariant-loop-store
invariant-loop-store g l =
    (goal.iterator-loop-store g).can_next l.store-iterator ×
    (goal.iterator-loop-store g).is_finite l.store-iterator ×
    AreOpening l.fn.stores.items l.shards.items (into_iter_items l.store-iterator) (into_iter_len l.store-iterator)
