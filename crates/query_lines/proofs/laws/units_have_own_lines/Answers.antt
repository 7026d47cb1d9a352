use Rattle.query_lines.proofs.OwnLines.{units-own}
use Rattle.query_lines.proofs.laws.units_have_own_lines.Goals as goal

pub returns : goal.returns
returns c = λ horizon script. units-own horizon script
