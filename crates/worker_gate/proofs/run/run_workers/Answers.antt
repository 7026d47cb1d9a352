use Rattle.std.proofs.Common.{◌≡◌, ◌∙◌, subst, sym, ℕ, List, Option}
use Rattle.demand_points.specs.declared.strand.Task.{Task}
use Rattle.demand_points.specs.Demands.{Demand}
use Rattle.plan_core.specs.Parts.{AreInOrder}
use Rattle.worker_gate.specs.Ends.{AreCounted, AreEnds}
use Rattle.memo_shards.specs.KeptShards.{KeptShard}
use Rattle.plan_core.specs.InTurn.{AllChildrenCovered}
use Rattle.plan_core.specs.asked.FillCounts.{HaveCounted}
use Rattle.plan_core.specs.asked.Memos.{entries_of}
use Rattle.worker_gate.proofs.Places.{ended_counted}
use Rattle.worker_gate.proofs.run.run_workers.Goals as goal

pub returns-clause-ended : goal.returns-clause-ended
returns-clause-ended g c =
    let board = c.in-Some-take_board.board in
    let places = board.places.items in
    let counts = c.in_ok-counts.counts.items in
    let tasks : board.tasks.items ≡ c.args.begun.tasks.items = c.in-Some-take_board.ensures.tasks ∙ c.as_slice-2.ensures.value in
    let counted : AreCounted places counts = subst (λ (ps : List (Option Demand)). AreCounted ps counts) c.as_slice-4.ensures.value c.in_ok-counts.ensures.counted in
    let P : List (Option Demand) → Type 0 = λ ps. AreEnds ps c.args.begun.tasks.items c.new-6.result in
    let Q : List ℕ → Type 0 = λ ns. AreEnds places c.args.begun.tasks.items ns in
    let R : List Task → Type 0 = λ ts. AreEnds places ts counts in
    subst P (sym c.new-5.ensures) (subst Q (sym c.new-6.ensures) (subst R tasks (ended_counted places board.tasks.items counts board.ended counted)))

pub returns-clause-order : goal.returns-clause-order
returns-clause-order g c = subst AreInOrder (sym c.new-4.ensures) c.in_ok-shards.ensures.numbers

pub returns-clause-heard : goal.returns-clause-heard
returns-clause-heard g c = λ heard.
    let P : List KeptShard → Type 0 = λ ms. AllChildrenCovered g.B.BatchName.batch.circuit (entries_of ms) in
    subst P (sym c.new-4.ensures) (subst P c.as_slice-5.ensures.value (c.in_ok-said.ensures.heard heard))

pub returns-clause-said : goal.returns-clause-said
returns-clause-said g c =
    let P : List KeptShard → Type 0 = λ ms. HaveCounted (entries_of ms) c.in_ok-said.field-0.said.fills.items in
    subst P (sym c.new-4.ensures) (subst P c.as_slice-5.ensures.value c.in_ok-said.ensures.said)
