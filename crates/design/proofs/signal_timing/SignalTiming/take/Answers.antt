use Rattle.std.proofs.Common.{refl, sym, ap, ◌∙◌}
use Rattle.std.proofs.lemmas.Result.{on_ok_weaker}
use Rattle.design.specs.Join.{number}
use Rattle.design.proofs.Rereads.{row-passes, takes-row}
use Rattle.design.proofs.signal_timing.SignalTiming.take.Goals as goal

pub returns : goal.returns
returns c = λ timing before knows has.
    let n = ap (number c.args.netlist.now) (sym c.bytes.ensures) ∙ sym c.id_of.ensures ∙ c.in-Some.is in
    takes-row c.args.netlist.now timing before c.args.row.now c.keep.new.self c.keep.result
    (row-passes c.args.netlist.now timing c.args.row.now c.in-Some.signal n c.cause_of.result (c.cause_of.ensures timing knows) c.in_default.is)
    (on_ok_weaker c.keep.result (λ f. f c.args.netlist.now timing before c.args.row.now knows n refl has) c.keep.ensures.ok) c.keep.ensures.err
