use Rattle.std.proofs.Common.{◌∙◌, refl}
use Rattle.vcd_answers.proofs.Instants.{written_is}
use Rattle.vcd_answers.proofs.writing.vcd_text.Goals as goal

pub returns : goal.returns
returns c = written_is c.args.wires.now c.as_slice-wires.result.now c.deref.result.now c.push_events.new.text.items c.as_slice-wires.ensures (c.deref.ensures.value ∙ c.in_ok-events.ensures)
    (rw (c.in_ok-push_events.ensures, c.in_ok-extend_from_slice.ensures.items, c.in_ok-push_vars.ensures, c.in_ok-text.ensures.items) refl)
