use Rattle.std.proofs.Common.{ap, sym, ◌∙◌, ap₂}
use Rattle.std.proofs.lemmas.List.Elements.{recursion_from_All}
use Rattle.valid_intervals.specs.Spans.{from_to}
use Rattle.circuit_meaning.specs.Forward.{input_value}
use Rattle.circuit_meaning.specs.Cells.{input_start}
use Rattle.design.proofs.Ordered.{last-at, next-at}
use Rattle.design.proofs.cells.input_cell.Goals as goal

pub returns-in-None-clause-span : goal.returns-in-None-clause-span
returns-in-None-clause-span c =
    let at = c.passed_by-passed.ensures in
    let last = last-at c.args.time _ _ at.bound c.requires.order at.passed at.later ∙ sym c.last_setting.ensures ∙ c.in-None.is in
    let next = next-at c.args.time c.args.limit _ _ at.bound c.requires.order (recursion_from_All _ _ c.requires.settings) at.passed at.later ∙ sym c.next_time-end.ensures in
    c.span_of.ensures ∙ sym (ap₂ from_to (ap input_start last) next)

pub returns-in-None-clause-value : goal.returns-in-None-clause-value
returns-in-None-clause-value c =
    let at = c.passed_by-passed.ensures in
    let last = last-at c.args.time _ _ at.bound c.requires.order at.passed at.later ∙ sym c.last_setting.ensures ∙ c.in-None.is in
    sym (ap input_value last)

pub returns-in-Some-clause-span : goal.returns-in-Some-clause-span
returns-in-Some-clause-span c =
    let at = c.passed_by-passed.ensures in
    let last = last-at c.args.time _ _ at.bound c.requires.order at.passed at.later ∙ sym c.last_setting.ensures ∙ c.in-Some.is in
    let next = next-at c.args.time c.args.limit _ _ at.bound c.requires.order (recursion_from_All _ _ c.requires.settings) at.passed at.later ∙ sym c.next_time-end.ensures in
    c.span_of-in-Some.ensures ∙ sym (ap₂ from_to (ap input_start last) next)

pub returns-in-Some-clause-value : goal.returns-in-Some-clause-value
returns-in-Some-clause-value c =
    let at = c.passed_by-passed.ensures in
    let last = last-at c.args.time _ _ at.bound c.requires.order at.passed at.later ∙ sym c.last_setting.ensures ∙ c.in-Some.is in
    sym (ap input_value last)
