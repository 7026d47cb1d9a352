use Rattle.std.proofs.Common.{arith}
use Rattle.vcd_answers.proofs.Instants.{vars_more}
use Rattle.vcd_answers.proofs.writing.push_vars.Goals as goal

pub loop-wire-preserved : goal.loop-wire-preserved
loop-wire-preserved c = (
  omega (arith, c.loop-wire.invariant.0),
  vars_more c.loop-wire.text.items c.push_var.new.text.items c.loop-wire.code c.loop-wire.wire-index c.args.wires.now c.wire-item.result c.name.result.now _ (omega arith) c.wire-item.is c.name.ensures c.in_ok-push_var.ensures c.loop-wire.invariant.1,
)
