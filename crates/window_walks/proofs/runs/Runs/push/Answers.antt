use Rattle.std.proofs.Common.{List, [], ◌∷◌, ◌++◌, sym, ◌∙◌, ap, refl}
use Rattle.circuit_meaning.specs.declared.Run.{Run}
use Rattle.window_walks.proofs.Maximal.{runs_go_on}
use Rattle.window_walks.proofs.runs.Runs.push.Goals as goal

pub returns-in_ok-push-clause-maximal : goal.returns-in_ok-push-clause-maximal
returns-in_ok-push-clause-maximal c points are =
    let pushed = ap (λ (runs : List Run). runs ++ record { time = c.args.time; value = c.args.value } ∷ []) (sym c.self.view_is) ∙ sym c.in_ok-push.ensures.items in
    runs_go_on c.args.self.now points _ (record { time = c.args.time; value = c.args.value }) c.ends_in.result are c.ends_in.ensures (rw c.if-not-ends_in.true pushed)

pub returns-else-not-ends_in-clause-maximal : goal.returns-else-not-ends_in-clause-maximal
returns-else-not-ends_in-clause-maximal c points are =
    runs_go_on c.args.self.now points _ (record { time = c.args.time; value = c.args.value }) c.ends_in.result are c.ends_in.ensures (rw c.if-not-ends_in.false refl)
