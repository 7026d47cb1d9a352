use Rattle.std.proofs.Common.{ap, ◌∙◌, sym, subst, Err, inl, refl}
use Rattle.std.proofs.lemmas.Result.{err_from_is_err_and}
use Rattle.stimulus_file.specs.Named.{named_rows}
use Rattle.design.specs.Join.{AnswersDesign, design_of}
use Rattle.design.specs.inner.Said.{HasSets, lists_in}
use Rattle.design.proofs.Finished.{refused-timing, refused-set, none-at, accepted}
use Rattle.design.proofs.Joining.{joined-is, is-kept, ordered-are}
use Rattle.design.proofs.Rowed.{knows-inputs}
use Rattle.design.proofs.design.Design.join.Goals as goal

pub returns-in_err-stated : goal.returns-in_err-stated
returns-in_err-stated c =
    let p = err_from_is_err_and c.from_residual.result c.from_residual.ensures.1 in
    subst (λ r. AnswersDesign r (design_of c.args.netlist c.args.timing.now c.args.stimulus.now)) (sym (p.1 ∙ ap Err p.2))
    (refused-timing c.args.netlist c.args.timing.now c.args.stimulus.now c.in_err-stated.field-0.0 c.in_err-stated.ensures)

pub read-requires-2-clause-rows : goal.read-requires-2-clause-rows
read-requires-2-clause-rows c = knows-inputs c.args.netlist c.args.timing.now c.in_ok-kept.kept c.in_ok-kept.ensures

pub returns-in_err-settings : goal.returns-in_err-settings
returns-in_err-settings c =
    let p = err_from_is_err_and c.from_residual-in_err-settings.result c.from_residual-in_err-settings.ensures.1 in
    subst (λ r. AnswersDesign r (design_of c.args.netlist c.args.timing.now c.args.stimulus.now)) (sym (p.1 ∙ ap Err p.2))
    (refused-set c.args.netlist c.args.timing.now c.args.stimulus.now c.horizon-horizon.result (named_rows c.sets.result.names.now c.sets.result.sets.now) c.in_err-settings.field-0.0 c.horizon-horizon.ensures c.sets.ensures.named c.in_ok-stated.ensures.0 c.in_err-settings.ensures)

pub invariant_of-origin : goal.invariant_of-origin
invariant_of-origin c =
    let netlist = c.args.netlist in
    let stimulus = c.args.stimulus.now in
    let kept = c.in_ok-kept.ensures in
    let none = none-at netlist c.args.timing.now stimulus c.horizon-horizon.result (named_rows c.sets.result.names.now c.sets.result.sets.now) c.horizon-horizon.ensures c.sets.ensures.named c.in_ok-settings.ensures.0 in
    let has = subst (λ sets. HasSets netlist sets c.in_ok-settings.settings.items) c.sets.ensures.named c.in_ok-settings.ensures.1 in
    is-kept netlist c.args.timing.now stimulus c.facts.ensures c.facts-2.ensures c.facts-3.ensures none
    c.horizon-horizon.result c.in_ok-kept.kept.rows.items c.in_ok-kept.kept.delays.items c.in_ok-kept.kept.flops.items (lists_in c.in_ok-settings-2.settings.items)
    c.horizon-horizon.ensures kept.rows kept.delays kept.flops (ordered-are netlist stimulus.sets c.in_ok-settings.settings.items (lists_in c.in_ok-settings-2.settings.items) has c.in_ok-settings-2.ensures)

pub returns : goal.returns
returns c =
    let netlist = c.args.netlist in
    let timing = c.args.timing.now in
    let stimulus = c.args.stimulus.now in
    let kept = c.in_ok-kept.ensures in
    let none = none-at netlist timing stimulus c.horizon-horizon.result (named_rows c.sets.result.names.now c.sets.result.sets.now) c.horizon-horizon.ensures c.sets.ensures.named c.in_ok-settings.ensures.0 in
    let has = subst (λ sets. HasSets netlist sets c.in_ok-settings.settings.items) c.sets.ensures.named c.in_ok-settings.ensures.1 in
    accepted netlist timing stimulus c.in_ok-of.field-0 c.in_ok-stated.ensures.0 none
    (c.in_ok-of.ensures ∙ joined-is netlist timing stimulus c.facts.ensures c.facts-2.ensures c.facts-3.ensures none
    c.horizon-horizon.result c.in_ok-kept.kept.rows.items c.in_ok-kept.kept.delays.items c.in_ok-kept.kept.flops.items (lists_in c.in_ok-settings-2.settings.items)
    c.horizon-horizon.ensures kept.rows kept.delays kept.flops (ordered-are netlist stimulus.sets c.in_ok-settings.settings.items (lists_in c.in_ok-settings-2.settings.items) has c.in_ok-settings-2.ensures))

pub returns-in_err-kept : goal.returns-in_err-kept
returns-in_err-kept c =
    let p = err_from_is_err_and c.from_residual-in_err-kept.result c.from_residual-in_err-kept.ensures.1 in
    subst (λ r. AnswersDesign r (design_of c.args.netlist c.args.timing.now c.args.stimulus.now)) (sym (p.1 ∙ ap Err p.2)) (inl refl)

pub returns-in_err-settings-2 : goal.returns-in_err-settings-2
returns-in_err-settings-2 c =
    let p = err_from_is_err_and c.from_residual-in_err-settings-2.result c.from_residual-in_err-settings-2.ensures.1 in
    subst (λ r. AnswersDesign r (design_of c.args.netlist c.args.timing.now c.args.stimulus.now)) (sym (p.1 ∙ ap Err p.2)) (inl refl)
