use Rattle.why_proofs.proofs.Fixed.{verdict-fixed}
use Rattle.why_proofs.proofs.laws.verdicts_are_fixed.Goals as goal

pub returns : goal.returns
returns c = verdict-fixed
