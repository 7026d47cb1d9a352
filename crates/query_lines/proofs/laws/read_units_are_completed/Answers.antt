use Rattle.query_lines.proofs.Completed.{given-completed}
use Rattle.query_lines.proofs.laws.read_units_are_completed.Goals as goal

pub returns : goal.returns
returns c = λ horizon script given reader read bound. given-completed horizon script given reader read bound
