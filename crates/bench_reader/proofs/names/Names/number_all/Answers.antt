use Rattle.std.proofs.Common.{[], refl, arith}
use Rattle.bench_reader.proofs.Keys.{all_step, adds_none, adds_all}
use Rattle.bench_reader.proofs.names.Names.number_all.Goals as goal

pub loop-name-init : goal.loop-name-init
loop-name-init c = record { keys = refl; numbers = adds_none c.args.self.now c.args.numbers.now.items; grows = omega arith; room = omega arith }

pub loop-name-preserved : goal.loop-name-preserved
loop-name-preserved c =
    let step = all_step c.args.self.now c.loop-name.self c.number.new.self c.args.numbers.now.items c.loop-name.numbers.items c.push.new.self.items c.args.listed.now c.loop-name.name-index (record { ref_ptr = (0, 0); now = [] }) c.in_ok-number.field-0 c.loop-name-test.true
    c.loop-name.invariant.keys c.loop-name.invariant.numbers c.in_ok-number.ensures.keys c.in_ok-number.ensures.place c.in_ok-push.ensures.items in
    record { keys = step.0; numbers = step.1; grows = omega (arith, c.in_ok-number.ensures.grows, c.loop-name.invariant.grows); room = omega (arith, c.in_ok-number.ensures.room, c.loop-name.invariant.room) }

pub returns-clause-numbers : goal.returns-clause-numbers
returns-clause-numbers c = adds_all c.loop-name.self c.args.numbers.now.items c.loop-name.numbers.items c.args.listed.now c.loop-name.name-index (omega arith) c.loop-name.invariant.numbers
