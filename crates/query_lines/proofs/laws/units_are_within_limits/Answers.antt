use Rattle.query_lines.proofs.Limits.{units-within}
use Rattle.query_lines.proofs.laws.units_are_within_limits.Goals as goal

pub returns : goal.returns
returns c = λ horizon script bound. units-within horizon script bound
