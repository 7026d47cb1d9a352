use Rattle.circuit_meaning.proofs.BaseCells.{base-answers}
use Rattle.circuit_meaning.proofs.base_answers_are_cells.Goals as goal

pub returns : goal.returns
returns g = base-answers
