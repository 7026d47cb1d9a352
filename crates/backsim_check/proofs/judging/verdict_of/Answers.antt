use Rattle.std.proofs.Common.{◌≡◌, subst, Some, slice_get, rules}
use Rattle.why_proofs.specs.Verdicts.{RightYes, IsTrueYes}
use Rattle.why_proofs.specs.declared.checker.Checked.TheVariants.{Yes}
use Rattle.backsim_check.proofs.Verdicts.{gives-yes}
use Rattle.backsim_check.proofs.judging.verdict_of.Goals as goal

pub returns-in_ok-line-in-Yes : goal.returns-in_ok-line-in-Yes
returns-in_ok-line-in-Yes c =
    let is : c.in_ok-signal.field-0 ≡ Yes c.in-Yes.signal c.in-Yes.time c.in-Yes.value = search rules in
    let name : slice_get c.args.design.now.netlist.names c.in-Yes.signal ≡ Some c.name_of-name.result.now = search rules in
    gives-yes c.args.design.now c.args.text.now c.in_ok-line-in-Yes.line.items c.name_of-name.result.now c.in-Yes.signal c.in-Yes.time c.in-Yes.value
    (subst (RightYes c.args.design.now c.args.text.now) is c.in_ok-signal.ensures.yes) (subst (IsTrueYes c.args.design.now) is c.in_ok-signal.ensures.sound) name c.in_ok-line-in-Yes.ensures
