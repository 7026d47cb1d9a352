use Rattle.std.proofs.Common.{◌≡◌, List, ◌++◌, take, sym, ap, ◌∙◌}
use Rattle.std.proofs.lemmas.List.{take_all}
use Rattle.query_lines.specs.declared.unit.Unit.{Unit as ScriptUnit}
use Rattle.query_lines.specs.Reading.{script_units}
use Rattle.query_lines.proofs.script.read_script.Goals as goal

pub returns : goal.returns
returns c =
    let whole : take c.loop-byte.byte-index c.args.script.now ≡ c.args.script.now = take_all _ c.args.script.now c.loop-byte-test.false in
    c.from_vec.ensures ∙ c.in_ok-append-2.ensures.items ∙ ap (λ (l : List ScriptUnit). c.loop-byte.units.items ++ l) c.into_vec-left.ensures
    ∙ sym (c.in_ok-end.ensures.whole _ _ _ c.loop-byte.invariant) ∙ ap (script_units c.args.horizon) whole
