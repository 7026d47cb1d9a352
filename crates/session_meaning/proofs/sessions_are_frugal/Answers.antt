use Rattle.session_meaning.proofs.Again.{sessions-frugal}
use Rattle.session_meaning.proofs.sessions_are_frugal.Goals as goal

pub returns : goal.returns
returns g = sessions-frugal
