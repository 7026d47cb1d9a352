use Rattle.std.proofs.Common.{arith}
use Rattle.worker_gate.proofs.InTurn.{free-shards, new-unused, new-none, new-numbered, bare, booked-none}
use Rattle.worker_gate.proofs.in_turn.make_turns.Goals as goal

pub run_in_turn-requires-clause-shards : goal.run_in_turn-requires-clause-shards
run_in_turn-requires-clause-shards g c = free-shards g.B.BatchName.batch g.B.BatchName.opening c.args.shards.now c.know_all.ensures c.requires.named c.requires.order c.requires.empty

pub run_in_turn-requires-clause-strands : goal.run_in_turn-requires-clause-strands
run_in_turn-requires-clause-strands g c = new-unused c.args.strands.now c.requires.new

pub returns-clause-numbers : goal.returns-clause-numbers
returns-clause-numbers g c = new-numbered c.args.strands.now c.run_in_turn.new.strands c.requires.new c.run_in_turn.ensures.numbers

pub returns-clause-counted : goal.returns-clause-counted
returns-clause-counted g c =
    let all = c.run_in_turn.ensures.counted in
    let made = new-none c.args.strands.now c.requires.new in
    let booked = booked-none c.args.shards.now c.requires.empty in
    omega arith

pub returns-clause-heard : goal.returns-clause-heard
returns-clause-heard g c = c.run_in_turn.ensures.heard (bare c.args.shards.now c.requires.empty)
