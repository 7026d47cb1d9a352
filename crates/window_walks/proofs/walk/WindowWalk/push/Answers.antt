use Rattle.std.proofs.Common.{◌≡◌, ◌<◌, sym, subst}
use Rattle.circuit_meaning.specs.Cells as cells
use Rattle.window_walks.specs.Walks.{Walk, IsWalked}
use Rattle.window_walks.proofs.WalkLemmas.{walked-more}
use Rattle.window_walks.proofs.walk.WindowWalk.push.Goals as goal

pub returns-clause-walked : goal.returns-clause-walked
returns-clause-walked c = λ circuit s walked right.
    let walk : Walk = record { start = c.self.inside.start; stop = c.self.inside.stop; time = c.self.inside.time; runs = c.self.inside.runs } in
    let is : walk ≡ c.args.self.now = c.self.view_is in
    let before : IsWalked circuit s walk = subst (λ (w : Walk). IsWalked circuit s w) (sym is) walked in
    let here : c.args.cell ≡ cells.cell_at circuit (cells.point_at s walk.time) = subst (λ (w : Walk). c.args.cell ≡ cells.cell_at circuit (cells.point_at s w.time)) (sym is) right in
    let more : walk.time < walk.stop = subst (λ (w : Walk). w.time < w.stop) (sym is) c.requires in
    walked-more circuit s walk c.args.cell c.end-self-inside.result c.push.new.self before more here c.end-self-inside.ensures.end c.in_ok-push.ensures.maximal
