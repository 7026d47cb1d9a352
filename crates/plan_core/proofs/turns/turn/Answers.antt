use Rattle.std.proofs.Common.{List, ap, subst, ◌∙◌, Option, Some, None}
use Rattle.std.proofs.lemmas.Result.{err_from_is_err_and}
use Rattle.journal_meaning.specs.Batches.{shard_number}
use Rattle.demand_points.specs.Demands.{Demand}
use Rattle.plan_core.specs.inner.Places.{IsNextAt}
use Rattle.plan_core.proofs.Resting.{gap-rests, end-rests}
use Rattle.plan_core.proofs.Stepping.{turn-stands, turn-goes, turn-wakes, turn-fails}
use Rattle.plan_core.proofs.turns.turn.Goals as goal

pub returns-in_default : goal.returns-in_default
returns-in_default g c = gap-rests g.B.BatchName.batch g.B.BatchName.opening c.args.places.now.items c.args.shards.now.items c.requires.parts c.args.number (subst (λ (xs : List (Option Demand)). IsNextAt xs c.args.number None) c.deref.ensures.value c.in_default.ensures)

pub returns-in_default-step_point : goal.returns-in_default-step_point
returns-in_default-step_point g c =
    let done = c.step_point.ensures.none c.in_default-step_point.is in
    end-rests g.B.BatchName.batch g.B.BatchName.opening c.args.places.now.items c.args.shards.now.items c.requires.parts c.args.number (subst (λ x. IsNextAt c.args.places.now.items c.args.number (Some x)) done (subst (λ (xs : List (Option Demand)). IsNextAt xs c.args.number (Some c.in-Some.next)) c.deref.ensures.value c.in-Some.ensures))

pub step-requires : goal.step-requires
step-requires g c =
    let stands = turn-stands g.B.BatchName.batch g.B.BatchName.opening c.args.places.now.items c.args.shards.now.items c.requires.parts c.args.number c.in-Some.next (subst (λ (xs : List (Option Demand)). IsNextAt xs c.args.number (Some c.in-Some.next)) c.deref.ensures.value c.in-Some.ensures) c.index_mut-2.result.now c.index_mut-2.ensures.value
    c.in-Some-step_point.p c.in-Some-step_point.ensures.some c.shard_number-home.result (c.shard_number-home.ensures.number ∙ ap (shard_number c.in-Some-step_point.p.signal) (c.len.ensures ∙ c.args.shards.now.ok.0)) c.index_mut.result.now c.index_mut.ensures.value in
    record { stands = stands }

pub returns-in_err-turned : goal.returns-in_err-turned
returns-in_err-turned g c =
    let e = err_from_is_err_and c.from_residual.result c.from_residual.ensures.1 in
    rw e.1 (turn-fails g.B.BatchName.batch g.B.BatchName.opening c.args.places.now.items c.args.shards.now.items c.requires.parts c.args.number c.in-Some.next (subst (λ (xs : List (Option Demand)). IsNextAt xs c.args.number (Some c.in-Some.next)) c.deref.ensures.value c.in-Some.ensures) c.index_mut-2.result.now c.index_mut-2.ensures.value
    c.in-Some-step_point.p c.in-Some-step_point.ensures.some c.shard_number-home.result (c.shard_number-home.ensures.number ∙ ap (shard_number c.in-Some-step_point.p.signal) (c.len.ensures ∙ c.args.shards.now.ok.0)) c.index_mut.result.now c.index_mut.ensures.value
    c.step.new.shard c.step.ensures.known c.step.new.place c.in_err-turned.field-0.0 c.in_err-turned.ensures.came)

pub put_back-requires : goal.put_back-requires
put_back-requires g c =
    let woke = turn-wakes g.B.BatchName.batch g.B.BatchName.opening c.args.places.now.items c.args.shards.now.items c.requires.parts c.args.number c.in-Some.next (subst (λ (xs : List (Option Demand)). IsNextAt xs c.args.number (Some c.in-Some.next)) c.deref.ensures.value c.in-Some.ensures) c.index_mut-2.result.now c.index_mut-2.ensures.value
    c.in-Some-step_point.p c.in-Some-step_point.ensures.some c.shard_number-home.result (c.shard_number-home.ensures.number ∙ ap (shard_number c.in-Some-step_point.p.signal) (c.len.ensures ∙ c.args.shards.now.ok.0)) c.index_mut.result.now c.index_mut.ensures.value c.step.new.shard c.step.ensures.known c.step.new.place c.in_ok-turned.turned c.in_ok-turned.woken c.in_ok-turned.ensures.came c.in-Some-woken.woken c.in-Some-woken.is in
    record { numbers = woke.numbers; numbered = woke.numbered }

pub returns-in-Some-woken : goal.returns-in-Some-woken
returns-in-Some-woken g c =
    (turn-wakes g.B.BatchName.batch g.B.BatchName.opening c.args.places.now.items c.args.shards.now.items c.requires.parts c.args.number c.in-Some.next (subst (λ (xs : List (Option Demand)). IsNextAt xs c.args.number (Some c.in-Some.next)) c.deref.ensures.value c.in-Some.ensures) c.index_mut-2.result.now c.index_mut-2.ensures.value
    c.in-Some-step_point.p c.in-Some-step_point.ensures.some c.shard_number-home.result (c.shard_number-home.ensures.number ∙ ap (shard_number c.in-Some-step_point.p.signal) (c.len.ensures ∙ c.args.shards.now.ok.0)) c.index_mut.result.now c.index_mut.ensures.value c.step.new.shard c.step.ensures.known c.step.new.place c.in_ok-turned.turned c.in_ok-turned.woken c.in_ok-turned.ensures.came c.in-Some-woken.woken c.in-Some-woken.is).turn
    c.put_back.new.places.items c.put_back.ensures.seats c.put_back.ensures.numbered

pub returns-in_default-woken : goal.returns-in_default-woken
returns-in_default-woken g c =
    turn-goes g.B.BatchName.batch g.B.BatchName.opening c.args.places.now.items c.args.shards.now.items c.requires.parts c.args.number c.in-Some.next (subst (λ (xs : List (Option Demand)). IsNextAt xs c.args.number (Some c.in-Some.next)) c.deref.ensures.value c.in-Some.ensures) c.index_mut-2.result.now c.index_mut-2.ensures.value
    c.in-Some-step_point.p c.in-Some-step_point.ensures.some c.shard_number-home.result (c.shard_number-home.ensures.number ∙ ap (shard_number c.in-Some-step_point.p.signal) (c.len.ensures ∙ c.args.shards.now.ok.0)) c.index_mut.result.now c.index_mut.ensures.value
    c.step.new.shard c.step.ensures.known c.step.new.place c.in_ok-turned.turned c.in_ok-turned.woken c.in_ok-turned.ensures.came c.in_default-woken.is
