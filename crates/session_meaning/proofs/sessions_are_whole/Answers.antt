use Rattle.session_meaning.proofs.Whole.{sessions-whole}
use Rattle.session_meaning.proofs.sessions_are_whole.Goals as goal

pub returns : goal.returns
returns c = sessions-whole c.script_units_are_fit.ensures
