use Rattle.query_lines.proofs.OwnLines.{given-fit}
use Rattle.query_lines.proofs.laws.read_units_are_fit.Goals as goal

pub returns : goal.returns
returns c = λ horizon script given reader read bound. given-fit horizon script given reader read bound
