use Rattle.query_lines.proofs.OwnLines.{units-fit}
use Rattle.query_lines.proofs.laws.script_units_are_fit.Goals as goal

pub returns : goal.returns
returns c = λ horizon script bound. units-fit horizon script bound
