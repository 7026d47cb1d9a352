use Rattle.std.proofs.Common.{◌+◌, ◌<◌, arith}
use Rattle.circuit_meaning.proofs.flip_flop.flop_span.Goals as goal

pub returns-in-None-clause-inside : goal.returns-in-None-clause-inside
returns-in-None-clause-inside c =
    let before : c.args.t < c.args.clock.now.first + c.args.delay = let first = c.in-None.ensures.last 0 in omega arith in
    grind (arith, before)
