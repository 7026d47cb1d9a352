use Rattle.why_proofs.proofs.Sound.{each-true, claim-true}
use Rattle.why_proofs.proofs.laws.justified_proofs_are_true.Goals as goal

pub returns-clause-lines : goal.returns-clause-lines
returns-clause-lines c = each-true

pub returns-clause-claim : goal.returns-clause-claim
returns-clause-claim c = claim-true
