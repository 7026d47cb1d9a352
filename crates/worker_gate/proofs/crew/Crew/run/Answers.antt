use Rattle.std.proofs.Common.{◌≡◌, ◌∙◌, Bool, List, IfOk, Some, length, map, subst, ap, rules}
use Rattle.std.proofs.lemmas.List.{take_at}
use Rattle.plan_machine.specs.Settle.{entries_in}
use Rattle.demand_points.specs.declared.strand.Task.{Task}
use Rattle.memo_shards.specs.KeptShards.{KeptShard}
use Rattle.plan_core.specs.InTurn.{AllChildrenCovered, task_of}
use Rattle.plan_core.specs.Parts.{shards_in, AreInOrder}
use Rattle.worker_gate.specs.Ends.{AreEnds}
use Rattle.worker_gate.proofs.InTurn.{shards-written, heard-written}
use Rattle.worker_gate.proofs.crew.Crew.run.Goals as goal

pub returns-in-Some-clause-ended : goal.returns-in-Some-clause-ended
returns-in-Some-clause-ended g c =
    let len : length c.make_turns.new.strands ≡ c.args.strands.len = search rules in
    let tasks : map task_of c.make_turns.new.strands ≡ map task_of c.args.strands.items = c.make_turns.ensures.tasks ∙ ap (map task_of) c.deref_mut.ensures.value in
    subst (λ (ts : List Task). IfOk c.end_in_turn.result (λ r. AreEnds r.strands ts r.counts)) (ap (map task_of) (take_at c.make_turns.new.strands _ c.args.strands.len len) ∙ tasks) c.end_in_turn.ensures.ended

pub returns-in-Some-clause-order : goal.returns-in-Some-clause-order
returns-in-Some-clause-order g c =
    let len : length c.make_turns.new.shards ≡ c.args.shards.len = search rules in
    shards-written c.end_in_turn.result (λ r. r.shards) c.args.shards.len c.make_turns.new.shards _ c.end_in_turn.ensures.shards len AreInOrder c.make_turns.ensures.order

pub returns-in-Some-clause-heard : goal.returns-in-Some-clause-heard
returns-in-Some-clause-heard g c = λ _.
    let P : List KeptShard → Type 0 = λ ms. AllChildrenCovered g.B.BatchName.batch.circuit (entries_in (shards_in ms)) in
    let len : length c.make_turns.new.shards ≡ c.args.shards.len = search rules in
    heard-written c.end_in_turn.result (λ r. r.shards) (λ r. r.heard) c.args.shards.len c.make_turns.new.shards _ c.in-Some.unrefused c.end_in_turn.ensures.shards c.end_in_turn.ensures.heard len P
    (λ u. c.in_ok-unrefused.ensures.heard (c.in-Some.is ∙ ap (λ (x : Bool). Some x) u))

pub returns-in_ok-tasks-in-None-clause-ended : goal.returns-in_ok-tasks-in-None-clause-ended
returns-in_ok-tasks-in-None-clause-ended g c =
    let len : length c.make_turns.new.strands ≡ c.args.strands.len = search rules in
    let tasks : map task_of c.make_turns.new.strands ≡ map task_of c.args.strands.items = c.make_turns.ensures.tasks ∙ ap (map task_of) c.deref_mut.ensures.value in
    subst (λ (ts : List Task). IfOk c.run_workers.result (λ r. AreEnds r.strands ts r.counts)) (c.in_ok-tasks-in-None.ensures ∙ ap (map task_of) (c.as_slice.ensures.value ∙ take_at c.make_turns.new.strands _ c.args.strands.len len) ∙ tasks) c.run_workers.ensures.ended
