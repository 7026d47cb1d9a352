use Rattle.timing_file.proofs.Within.{default-within}
use Rattle.timing_file.proofs.Timing.default_of.Goals as goal

pub returns-clause-within : goal.returns-clause-within
returns-clause-within c = rw c.default_of.ensures (default-within c.self.inside.stated c.args.kind c.self.invariant)
