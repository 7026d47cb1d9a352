use Rattle.std.proofs.Common.{◌≡◌, ap, ◌∙◌, sym, subst, inl, Err, ◌⊎◌, Some}
use Rattle.std.proofs.lemmas.Result.{err_from_is_err_and}
use Rattle.design.specs.Causes.{out_of_memory}
use Rattle.design.specs.Join.{timing_fault, first_fault}
use Rattle.design.specs.inner.Said.{KnowsClocks, HasStated, TakesRows}
use Rattle.design.proofs.Rereads.{refused-at, passed-at, taken-at}
use Rattle.design.proofs.signal_timing.SignalTiming.read.Goals as goal

pub returns-in_err-clocks : goal.returns-in_err-clocks
returns-in_err-clocks c =
    let p = err_from_is_err_and c.from_residual.result c.from_residual.ensures.1 in
    subst (TakesRows c.args.netlist.now c.args.timing.now) (sym p.1) (inl (p.2 ∙ c.in_err-clocks.ensures.err))

pub returns-in_err-take : goal.returns-in_err-take
returns-in_err-take c =
    let netlist = c.args.netlist.now in
    let timing = c.args.timing.now in
    let p = err_from_is_err_and c.from_residual-in_err-take.result c.from_residual-in_err-take.ensures.1 in
    let knows = subst (λ rows. KnowsClocks rows c.in_ok-clocks.clocks.clocks) c.clocks.ensures c.in_ok-clocks.ensures.ok in
    let step = c.in_err-take.ensures timing _ knows c.loop-row.invariant.has in
    let found = refused-at (timing_fault netlist timing) c.rows-rows.result.now c.loop-row.row-index c.row-item.result _ c.loop-row-test.true c.row-item.is c.loop-row.invariant.fault step in
    subst (TakesRows netlist timing) (sym (p.1 ∙ ap Err p.2)) (subst (λ rows. (c.in_err-take.field-0.0 ≡ out_of_memory) ⊎ (first_fault (timing_fault netlist timing) rows ≡ Some c.in_err-take.field-0.0)) c.rows-rows.ensures found)

pub loop-row-preserved : goal.loop-row-preserved
loop-row-preserved c =
    let netlist = c.args.netlist.now in
    let timing = c.args.timing.now in
    let knows = subst (λ rows. KnowsClocks rows c.in_ok-clocks.clocks.clocks) c.clocks.ensures c.in_ok-clocks.ensures.ok in
    let step = c.in_ok-take.ensures timing _ knows c.loop-row.invariant.has in
    record {
      has = subst (λ rows. HasStated netlist timing rows c.take.new.self) (taken-at c.rows-rows.result.now c.loop-row.row-index c.row-item.result c.loop-row-test.true c.row-item.is) step.1;
      fault = passed-at (timing_fault netlist timing) c.rows-rows.result.now c.loop-row.row-index c.row-item.result c.loop-row-test.true c.row-item.is c.loop-row.invariant.fault step.0;
    }
