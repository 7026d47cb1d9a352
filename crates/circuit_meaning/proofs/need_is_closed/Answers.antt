use Rattle.circuit_meaning.proofs.Closed.{need-closed}
use Rattle.circuit_meaning.proofs.need_is_closed.Goals as goal

pub returns : goal.returns
returns g = need-closed
