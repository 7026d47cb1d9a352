use Rattle.session_meaning.proofs.Accepted.{explanations-accepted}
use Rattle.session_meaning.proofs.explanations_are_accepted.Goals as goal

pub returns : goal.returns
returns g = explanations-accepted
