use Rattle.std.proofs.Common.{◌∙◌, arith}
use Rattle.vcd_answers.proofs.Places.{goes_end}
use Rattle.vcd_answers.proofs.wire.goes_on.Goals as goal

pub returns : goal.returns
returns c = goes_end c.loop-run.last c.args.rest.now c.loop-run.run-index (omega (arith, c.loop-run-test.false)) ∙ c.loop-run.invariant
