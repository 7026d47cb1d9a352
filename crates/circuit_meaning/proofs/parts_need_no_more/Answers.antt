use Rattle.circuit_meaning.proofs.Closed.{part-need}
use Rattle.circuit_meaning.proofs.parts_need_no_more.Goals as goal

pub returns : goal.returns
returns g = part-need
