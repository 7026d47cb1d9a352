use Rattle.session_meaning.proofs.Shown.{own-waves}
use Rattle.session_meaning.proofs.dumps_show_own_waves.Goals as goal

pub returns : goal.returns
returns g = own-waves
