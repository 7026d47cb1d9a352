use Rattle.std.proofs.Common.{sym}
use Rattle.workload.proofs.States.{state-first}
use Rattle.workload.proofs.draws.Draws.new.Goals as goal

pub invariant_of-result-clause-stands : goal.invariant_of-result-clause-stands
invariant_of-result-clause-stands c = sym (state-first c.args.seed)
