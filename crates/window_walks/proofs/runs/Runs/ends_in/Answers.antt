use Rattle.std.proofs.Common.{◌≡◌, ◌-◌, List, length, sym, ◌∙◌, ap}
use Rattle.std.specs.List.{slice_get}
use Rattle.circuit_meaning.specs.declared.Run.{Run}
use Rattle.window_walks.proofs.Maximal.{ends_in-last}
use Rattle.window_walks.proofs.runs.Runs.ends_in.Goals as goal

pub returns-in-Some : goal.returns-in-Some
returns-in-Some c =
    let same : c.deref.result.now ≡ c.args.self.now = c.deref.ensures.value ∙ c.self.view_is in
    let last = ap (λ (runs : List Run). slice_get runs (length runs - 1)) (sym same) ∙ sym c.in-Some.ensures.value in
    c.is_same.ensures ∙ ends_in-last c.args.self.now c.in-Some.run'.now c.args.value last
