use Rattle.session_meaning.proofs.Whole.{sessions-keep}
use Rattle.session_meaning.proofs.sessions_keep_promises.Goals as goal

pub returns : goal.returns
returns g = sessions-keep
