use Rattle.std.proofs.Common.{◌≡◌, ℕ, List, flat_map, sum, sum_by, sym, subst, ◌∙◌}
use Rattle.valid_intervals.specs.declared.SignalCell.{SignalCell}
use Rattle.journal_meaning.specs.Batches.{Batch}
use Rattle.journal_meaning.specs.Pieces.{pieces}
use Rattle.unit_answers.specs.Stores.{cells_of}
use Rattle.unit_answers.specs.inner.Runs.{HasRun}
use Rattle.unit_answers.proofs.Crewing.{has-crewed}
use Rattle.plan_machine.specs.Settle.{entries_in}
use Rattle.memo_shards.specs.KeptShards.{KeptShard}
use Rattle.plan_core.specs.InTurn.{AllChildrenCovered, booked_by}
use Rattle.plan_core.specs.Parts.{shards_in, strands_in, AreInOrder}
use Rattle.plan_core.proofs.Callers.{numbered}
use Rattle.unit_answers.proofs.Running.{strands-new, strands-started, settled-free, has-run}
use Rattle.unit_answers.proofs.run.run_batch.Goals as goal

pub run-requires-clause-new : goal.run-requires-clause-new
run-requires-clause-new g c κs within = strands-new g.B.BatchName.batch.circuit c.args.queries.now c.in_ok-strands.strands.items c.in_ok-strands.ensures.order c.in_ok-strands.ensures.strands

pub settle-requires-clause-heard : goal.settle-requires-clause-heard
settle-requires-clause-heard g c told =
    let c0 = g.B.BatchName.batch.circuit in
    let started = strands-started c0 (flat_map pieces c.args.queries.now) (strands_in c.in_ok-strands.strands.items) c.in_ok-strands.ensures.strands in
    subst (λ (ms : List KeptShard). AllChildrenCovered c0 (entries_in (shards_in ms))) (sym c.into_vec-handed.ensures) (c.in_ok-ran.ensures.heard started told)

pub returns-clause-run : goal.returns-clause-run
returns-clause-run g c =
    let os = c.in_ok-outcomes.field-0.outcomes.items in
    let lists = c.in_ok-lists.lists.items in
    let left = c.in_ok-lists.stores.items in
    let run = has-run g.B.BatchName.batch g.B.BatchName.opening c.into_vec-handed.result.items c.in_ok-outcomes.field-0.shards.items os lists left c.in_ok-outcomes.ensures c.in_ok-lists.ensures in
    subst (λ (b : Batch). HasRun b (cells_of c.args.stores.items) os lists left) c.requires.named.batch (subst (λ (o : ℕ → List SignalCell). HasRun g.B.BatchName.batch o os lists left) c.requires.named.opens run)

pub returns-clause-crewed : goal.returns-clause-crewed
returns-clause-crewed g c =
    let b = g.B.BatchName.batch in
    let handed = c.into_vec-handed.result.items in
    let ran = c.in_ok-ran.ran in
    let e = c.in_ok-ran.ensures in
    has-crewed b.circuit (flat_map pieces c.args.queries.now) c.in_ok-strands.strands.items c.in_ok-strands.ensures.strands ran.strands ran.counts e.ended b g.B.BatchName.opening handed c.in_ok-outcomes.field-0.shards.items c.in_ok-outcomes.field-0.outcomes.items c.in_ok-lists.lists.items
    (g.C.Crew.is_open c.args.crew.now) c.in_ok-outcomes.ensures c.in_ok-lists.ensures.lists_are (subst (λ ms. sum ran.counts ≡ sum_by booked_by ms) (sym c.into_vec-handed.ensures) e.counted) (e.places ∙ c.in_ok-strands.strands.ok.0) (e.counts ∙ c.in_ok-strands.strands.ok.0) e.filled

pub settle-requires-clause-numbers : goal.settle-requires-clause-numbers
settle-requires-clause-numbers g c = numbered c.into_vec-handed.result.items (subst AreInOrder (sym c.into_vec-handed.ensures) c.in_ok-ran.ensures.order)

pub end_all-requires : goal.end_all-requires
end_all-requires g c = settled-free g.B.BatchName.batch g.B.BatchName.opening c.into_vec-handed.result.items c.in_ok-outcomes.field-0.shards.items c.in_ok-outcomes.field-0.outcomes.items c.in_ok-outcomes.ensures
