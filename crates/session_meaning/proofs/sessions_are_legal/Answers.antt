use Rattle.session_meaning.proofs.Legal.{session-legal}
use Rattle.session_meaning.proofs.sessions_are_legal.Goals as goal

pub returns : goal.returns
returns g = session-legal
