use Rattle.std.specs.Vec.Iter.{into_iter_items, into_iter_len}
use Rattle.plan_core.proofs.Lists.{IsPutting}
use Rattle.plan_core.proofs.places.put_back.Given as goal

abbrev pub invariant-loop-strand : goal.invariant-loop-strand
invariant-loop-strand g l =
    (goal.iterator-loop-strand g).can_next l.strand-iterator ×
    (goal.iterator-loop-strand g).is_finite l.strand-iterator ×
    IsPutting l.initial.places.items (into_iter_items l.initial.strand-iterator) l.places.items (into_iter_items l.strand-iterator) (into_iter_len l.strand-iterator)
