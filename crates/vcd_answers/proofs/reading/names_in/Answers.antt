use Rattle.std.proofs.Common.{rules, ◌≡◌, ◌∙◌, sym, ap, List}
use Rattle.texts.specs.Text.{lines}
use Rattle.vcd_answers.specs.Wires.{Wire}
use Rattle.vcd_answers.specs.inner.Reading.{with_names}
use Rattle.vcd_answers.proofs.ReadBack.{names_end, names_other}
use Rattle.vcd_answers.proofs.reading.names_in.Goals.{else-names-test, then-names-test+then-not-is_var}
use Rattle.vcd_answers.proofs.reading.names_in.Goals as goal

pub returns : goal.returns
returns c =
    let all : with_names c.names.wires.items (lines c.names.rest.now) ≡ (c.names.wires.items, lines c.names.rest.now) =
    elim c.names-test.branch [
      | else-names-test w ↦ names_end c.names.wires.items c.names.rest.now (search rules)
      | then-names-test+then-not-is_var w ↦ names_other c.names.wires.items (lines c.names.rest.now) w.next_line.result.0.now (lines w.next_line.result.1.now) w.next_line.ensures.cut (search rules)
    ] in
    ap (λ (l : List Wire). (l, lines c.names.rest.now)) c.from_vec.ensures ∙ sym all ∙ c.names.invariant
