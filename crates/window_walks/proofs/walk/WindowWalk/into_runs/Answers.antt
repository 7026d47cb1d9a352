use Rattle.std.proofs.Common.{ap, ◌∙◌}
use Rattle.window_walks.specs.Walks.{Walk}
use Rattle.window_walks.proofs.WalkLemmas.{walked-wave}
use Rattle.window_walks.proofs.walk.WindowWalk.into_runs.Goals as goal

pub returns-clause-wave : goal.returns-clause-wave
returns-clause-wave c = λ circuit s ok walked over within.
    ap (λ (w : Walk). w.runs) c.self.view_is ∙ walked-wave circuit s ok c.args.self walked over within
