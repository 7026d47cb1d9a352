use Rattle.std.proofs.Common.{subst}
use Rattle.bench_reader.specs.inner.Index.{IsIndex}
use Rattle.bench_reader.proofs.index.Index.make_room.Goals.{in-Chains+in_ok-make_room-in-Chains, in-Keyed+in_ok-make_room-in-Keyed}
use Rattle.bench_reader.proofs.index.Index.make_room.Goals as goal

pub returns-in_ok-of_names-clause-index : goal.returns-in_ok-of_names-clause-index
returns-in_ok-of_names-clause-index c = record {
  all = c.in_ok-of_names.ensures.keyed;
  distinct = elim c.match-self.branch [
    | in-Chains+in_ok-make_room-in-Chains w ↦ (subst (IsIndex c.args.names.now) w.in-Chains.is c.requires.index).distinct
    | in-Keyed+in_ok-make_room-in-Keyed w ↦ (subst (IsIndex c.args.names.now) w.in-Keyed.is c.requires.index).distinct
  ];
}
