use Rattle.std.proofs.Common.{ap, ◌∙◌, sym, inr, Some}
use Rattle.stimulus_file.specs.Named.{with_name}
use Rattle.design.proofs.Bucketed.{sets-more, set-passes}
use Rattle.design.proofs.Named.{input-known, input-at, input-within, set-refused, set-late}
use Rattle.design.proofs.settings.take.Goals as goal

pub index_mut-requires : goal.index_mut-requires
index_mut-requires c = input-within c.args.inputs.now c.args.row.now.name _ c.in-Ok.place _ c.requires.places c.requires.name c.in-Ok.is

pub returns-in-Err : goal.returns-in-Err
returns-in-Err c = λ netlist names before are has.
    let found = sym (input-at netlist names c.args.inputs.now c.args.row.now _ are c.requires.name) ∙ c.in-Err.is in
    inr (set-refused netlist c.args.horizon (with_name names c.args.row.now) c.in-Err.cause found ∙ ap Some (sym c.refused.ensures))

pub returns-then-row-horizon : goal.returns-then-row-horizon
returns-then-row-horizon c = λ netlist names before are has.
    let found = sym (input-at netlist names c.args.inputs.now c.args.row.now _ are c.requires.name) ∙ c.in-Ok.is in
    inr (set-late netlist c.args.horizon (with_name names c.args.row.now) c.in-Ok.place found c.if-row-horizon.true ∙ ap Some (sym c.refused-then-row-horizon.ensures))

pub returns : goal.returns
returns c = λ netlist names before are has.
    let row = with_name names c.args.row.now in
    let found = sym (input-at netlist names c.args.inputs.now c.args.row.now _ are c.requires.name) ∙ c.in-Ok.is in
    let known = input-known netlist row.name c.in-Ok.place found in (
      set-passes netlist before row _ known.0 c.args.horizon known.1.2 c.if-row-horizon.false,
      sets-more netlist before row _ known.0 c.in-Ok.place c.args.settings.now.items c.index_mut.result.now c.push.new.self known.1.0 known.1.1 c.index_mut.ensures.value c.in_ok-push.ensures.items has,
    )
