-- The units so far were served.
use Rattle.std.specs.Vec.Iter.{into_iter_items, into_iter_len}
use Rattle.session_loop.specs.Outside.{seen}
use Rattle.session_loop.proofs.Units.{ServesSome}
use Rattle.session_loop.proofs.unit.serve_units.Given as goal

abbrev pub invariant-loop-unit : goal.invariant-loop-unit
invariant-loop-unit g l = record {
  next : (goal.iterator-loop-unit g).can_next l.unit-iterator;
  finite : (goal.iterator-loop-unit g).is_finite l.unit-iterator;
  served : ServesSome l.service l.fn.units (into_iter_items l.unit-iterator) (into_iter_len l.unit-iterator) l.initial.desk l.desk
      (seen (g.F.Files.state l.initial.files) (g.F.Files.made l.initial.files) (g.S.Sink.faults l.initial.out) (g.S.Sink.written l.initial.out))
      (seen (g.F.Files.state l.files) (g.F.Files.made l.files) (g.S.Sink.faults l.out) (g.S.Sink.written l.out));
}
