use Rattle.circuit_meaning.proofs.Looking.{children-somes}
use Rattle.circuit_meaning.proofs.children_are_looked.Goals as goal

pub returns : goal.returns
returns g = children-somes
