use Rattle.circuit_meaning.proofs.Closed.{value-not_z}
use Rattle.circuit_meaning.proofs.only_inputs_show_z.Goals as goal

pub returns : goal.returns
returns g = value-not_z
