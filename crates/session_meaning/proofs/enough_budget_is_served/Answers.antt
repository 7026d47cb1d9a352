use Rattle.session_meaning.proofs.Enough.{enough}
use Rattle.session_meaning.proofs.enough_budget_is_served.Goals as goal

pub returns : goal.returns
returns g = enough
