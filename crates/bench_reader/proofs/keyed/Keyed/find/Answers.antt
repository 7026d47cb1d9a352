use Rattle.bench_reader.proofs.Numbering.{seek-position}
use Rattle.bench_reader.proofs.keyed.Keyed.find.Goals as goal

pub returns : goal.returns
returns c = seek-position c.args.names.now c.args.name.now c.seek.result c.requires.keyed.distinct c.seek.ensures
