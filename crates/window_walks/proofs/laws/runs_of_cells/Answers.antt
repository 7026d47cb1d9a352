use Rattle.window_walks.proofs.Maximal.{runs_of-points}
use Rattle.window_walks.proofs.laws.runs_of_cells.Goals as goal

pub returns : goal.returns
returns c = λ t cells. runs_of-points t cells
