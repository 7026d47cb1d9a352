use Rattle.why_proofs.proofs.Breaks.{one-proof}
use Rattle.why_proofs.proofs.laws.one_proof.Goals as goal

pub returns : goal.returns
returns c = one-proof
