use Rattle.session_meaning.proofs.Enough.{script-ample}
use Rattle.session_meaning.proofs.enough_budgets_are_served.Goals as goal

pub returns : goal.returns
returns c = script-ample c.units_have_own_lines.ensures
