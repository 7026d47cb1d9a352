use Rattle.std.proofs.Common.{rules, ◌∙◌, ap, set, List}
use Rattle.std.proofs.lemmas.Result.{on_ok_weaker}
use Rattle.vcd_answers.specs.Wires.{Wire}
use Rattle.vcd_answers.proofs.Places.{with_run, put_set}
use Rattle.vcd_answers.proofs.wire.WireList.push_change.Goals as goal

pub returns : goal.returns
returns c = on_ok_weaker c.push.result (λ pushed.
    ap (set c.self.inside.wires.items c.args.place) pushed
    ∙ ap (λ (l : List Wire). set l c.args.place (with_run c.index_mut.result.now c.args.run)) c.self.view_is
    ∙ put_set c.args.self.now c.args.place c.args.run c.index_mut.result.now c.requires (search rules)) c.push.ensures
