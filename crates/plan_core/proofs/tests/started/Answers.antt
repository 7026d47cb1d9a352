use Rattle.circuit_meaning.specs.Need.{First}
use Rattle.plan_core.proofs.tests.started.Goals as goal

pub start-strand-requires-clause-root : goal.start-strand-requires-clause-root
start-strand-requires-clause-root g c = λ some. First some
