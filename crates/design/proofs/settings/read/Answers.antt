use Rattle.std.proofs.Common.{◌≡◌, ap, ◌∙◌, sym, subst, Err, length, map}
use Rattle.std.specs.Prelude.{vec_len, All, IfOk, ◌<◌}
use Rattle.std.proofs.lemmas.List.{length-map}
use Rattle.std.proofs.lemmas.Result.{err_from_is_err_and}
use Rattle.stimulus_file.specs.Named.{named_rows}
use Rattle.design.specs.Join.{set_fault}
use Rattle.design.specs.inner.Said.{HasSets, TakesSets, input_of}
use Rattle.design.proofs.Named.{inputs-within, named-refused, named-passed, named-taken, below-same}
use Rattle.design.proofs.settings.read.Goals as goal

pub take-requires : goal.take-requires
take-requires c =
    let netlist = c.args.netlist.now in
    let names = c.args.stimulus.names.now in
    let settings = c.loop-row.settings in
    let are : c.deref-in-loop-row.result.now ≡ map (input_of netlist) names = c.deref-in-loop-row.ensures.value ∙ c.in_ok-inputs.ensures in
    record {
      name = below-same _ _ _ (ap length are ∙ length-map names (input_of netlist)) (c.requires.names c.loop-row.row-index _ c.loop-row-test.true);
      places = subst (λ inputs. All (λ input. IfOk input (λ place. place < vec_len settings)) inputs) (sym are) (inputs-within netlist names (vec_len settings) (settings.ok.0 ∙ c.loop-row.invariant.has.long));
    }

pub returns-in_err-take : goal.returns-in_err-take
returns-in_err-take c =
    let netlist = c.args.netlist.now in
    let names = c.args.stimulus.names.now in
    let sets = c.args.stimulus.sets.now in
    let p = err_from_is_err_and c.from_residual-in_err-take.result c.from_residual-in_err-take.ensures.1 in
    let step = c.in_err-take.ensures netlist names _ (c.deref-in-loop-row.ensures.value ∙ c.in_ok-inputs.ensures) c.loop-row.invariant.has in
    subst (TakesSets netlist c.args.horizon (named_rows names sets)) (sym (p.1 ∙ ap Err p.2))
    (named-refused names sets c.loop-row.row-index _ c.loop-row-test.true (set_fault netlist c.args.horizon) _ c.loop-row.invariant.fault step)

pub loop-row-preserved : goal.loop-row-preserved
loop-row-preserved c =
    let netlist = c.args.netlist.now in
    let names = c.args.stimulus.names.now in
    let sets = c.args.stimulus.sets.now in
    let step = c.in_ok-take.ensures netlist names _ (c.deref-in-loop-row.ensures.value ∙ c.in_ok-inputs.ensures) c.loop-row.invariant.has in
    record {
      has = subst (λ rows. HasSets netlist rows c.take.new.settings.items) (named-taken names sets c.loop-row.row-index _ c.loop-row-test.true) step.1;
      fault = named-passed names sets c.loop-row.row-index _ c.loop-row-test.true (set_fault netlist c.args.horizon) c.loop-row.invariant.fault step.0;
    }
