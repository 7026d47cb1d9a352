use Rattle.query_lines.proofs.Determined.{given-determined}
use Rattle.query_lines.proofs.laws.read_units_are_determined.Goals as goal

pub returns : goal.returns
returns c = λ horizon script given other reader another read same bound. given-determined horizon script given other reader another read same bound
