use Rattle.std.proofs.Common.{◌≡◌, ◌≢◌, subst, rules}
use Rattle.plan_machine.specs.declared.Turned.TheVariants as comes
use Rattle.plan_core.specs.inner.InTurn.{TakesOne}
use Rattle.plan_core.proofs.InTurn.{run-first, begins, turn-falls, run-more, run-fresh, run-heard, within-first, within-more}
use Rattle.plan_core.proofs.in_turn.run_one.Goals as goal

pub turns-init : goal.turns-init
turns-init g c = record {
  run = run-first g.B.BatchName.batch c.requires.lawful g.B.BatchName.opening c.args.strand.now c.facts.ensures c.requires.unused c.args.shards.now c.requires.order c.requires.fresh;
  within = within-first c.args.left.now _;
}

pub returns-then-eq-clause-fresh : goal.returns-then-eq-clause-fresh
returns-then-eq-clause-fresh g c = λ _.
    let ends : c.in_ok-turn.field-0 ≡ comes.NotReady = search rules in
    run-fresh g.B.BatchName.batch g.B.BatchName.opening c.args.strand.now c.args.shards.now c.turns.strand c.turns.shards c.turns.invariant.run c.turn.new.strand c.turn.new.shards c.in_ok-turn.field-0 c.in_ok-turn.ensures ends c.requires.fresh

pub returns-then-eq-clause-heard : goal.returns-then-eq-clause-heard
returns-then-eq-clause-heard g c = λ _ unspent old.
    let ends : c.in_ok-turn.field-0 ≡ comes.NotReady = search rules in
    run-heard g.B.BatchName.batch g.B.BatchName.opening c.args.strand.now c.args.shards.now c.turns.strand c.turns.shards c.turns.invariant.run c.turn.new.strand c.turn.new.shards c.in_ok-turn.field-0 c.in_ok-turn.ensures ends
    (begins g.B.BatchName.batch c.requires.lawful g.B.BatchName.opening c.args.strand.now c.facts.ensures c.requires.unused c.args.shards.now c.requires.order c.requires.fresh) unspent old

pub turns-smaller : goal.turns-smaller
turns-smaller g c =
    let goes : c.in_ok-turn.field-0 ≢ comes.NotReady = search rules in
    turn-falls g.B.BatchName.batch g.B.BatchName.opening c.args.strand.now c.args.shards.now c.turns.strand c.turns.shards c.turns.invariant.run c.turn.new.strand c.turn.new.shards c.in_ok-turn.field-0 c.in_ok-turn.ensures goes

pub turns-preserved : goal.turns-preserved
turns-preserved g c =
    let goes : c.in_ok-turn.field-0 ≢ comes.NotReady = search rules in
    record {
      run = run-more g.B.BatchName.batch g.B.BatchName.opening c.args.strand.now c.args.shards.now c.turns.strand c.turns.shards c.turns.invariant.run c.turn.new.strand c.turn.new.shards c.in_ok-turn.field-0 c.in_ok-turn.ensures goes;
      within = within-more c.args.left.now c.turns.left c.takes_turn.new.left _ _ _ c.turns.invariant.within (subst (TakesOne c.turns.left c.takes_turn.new.left) c.turns-test.true c.takes_turn.ensures) c.in_ok-turn.ensures.one;
    }
