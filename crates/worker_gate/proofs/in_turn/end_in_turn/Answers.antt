use Rattle.std.proofs.Common.{◌≡◌, ◌∙◌, ℕ, List, Option, Some, map, subst, sym, ap}
use Rattle.demand_points.specs.Demands.{Demand}
use Rattle.plan_core.specs.InTurn.{made_by, task_of}
use Rattle.worker_gate.specs.Ends.{AreEnds, AreFilled}
use Rattle.worker_gate.proofs.InTurn.{run-ends, all-filled}
use Rattle.worker_gate.proofs.in_turn.end_in_turn.Goals as goal

pub returns-clause-ended : goal.returns-clause-ended
returns-clause-ended g c =
    let xs = c.args.strands.items in
    let places : c.new-2.result ≡ map Some xs = c.new-2.ensures ∙ c.in_ok-places.ensures in
    let counts : c.new-3.result ≡ map made_by xs = c.new-3.ensures ∙ c.in_ok-counts.ensures ∙ ap (map made_by) c.as_slice.ensures.value in
    let P : List (Option Demand) → Type 0 = λ ps. AreEnds ps (map task_of xs) c.new-3.result in
    let Q : List ℕ → Type 0 = λ ns. AreEnds (map Some xs) (map task_of xs) ns in
    subst P (sym places) (subst Q (sym counts) (run-ends xs c.requires.numbers c.requires.ended))

pub returns-clause-filled : goal.returns-clause-filled
returns-clause-filled g c =
    let xs = c.args.strands.items in
    let places : c.new-2.result ≡ map Some xs = c.new-2.ensures ∙ c.in_ok-places.ensures in
    let P : List (Option Demand) → Type 0 = λ ps. AreFilled ps in
    subst P (sym places) (all-filled xs)
