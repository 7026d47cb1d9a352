use Rattle.circuit_meaning.proofs.EdgeLemmas.{last-edge}
use Rattle.circuit_meaning.proofs.flip_flop.edges_are_last.Goals as goal

pub returns : goal.returns
returns g = last-edge
