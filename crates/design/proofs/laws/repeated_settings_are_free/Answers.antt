use Rattle.design.proofs.Repeats.{repeats-are-free}
use Rattle.design.proofs.Followed.{rows-are-followed}
use Rattle.design.proofs.laws.repeated_settings_are_free.Goals as goal

pub returns-clause-inputs : goal.returns-clause-inputs
returns-clause-inputs c = repeats-are-free

pub returns-clause-signals : goal.returns-clause-signals
returns-clause-signals c = rows-are-followed
