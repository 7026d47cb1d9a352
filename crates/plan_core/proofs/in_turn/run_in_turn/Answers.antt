use Rattle.std.proofs.Common.{◌≡◌, ◌∙◌, ◌<◌, All, false, true, length, get_or, refl, arith, rules}
use Rattle.std.proofs.Math.ListN.{length-set}
use Rattle.std.proofs.lemmas.Option.{slice_get-get_or}
use Rattle.demand_points.specs.Demands.{Demand}
use Rattle.plan_core.proofs.InTurn.{within-first, numbers-kept, tasks-kept, sums-counted, sums-within, next-run, next-heard, none-run, none-heard, all-run, all-heard, shards-fresh, lawful-known}
use Rattle.plan_core.proofs.in_turn.run_in_turn.Goals as goal

pub loop-number-init : goal.loop-number-init
loop-number-init g c =
    let b = g.B.BatchName.batch in
    let o = g.B.BatchName.opening in
    let strands = c.args.strands.now in
    let shards = c.args.shards.now in
    record {
      many = refl;
      numbers = refl;
      tasks = refl;
      count = refl;
      order = c.requires.shards.order;
      counted = refl;
      within = within-first c.args.most _;
      run = none-run b o strands shards (shards-fresh b o shards c.requires.shards c.know_all.ensures) c.requires.strands;
      heard = none-heard b o strands shards;
    }

pub run_one-requires-clause-lawful : goal.run_one-requires-clause-lawful
run_one-requires-clause-lawful g c = lawful-known g.B.BatchName.batch g.B.BatchName.opening c.args.shards.now c.know_all.ensures c.requires.some

pub run_one-requires-clause-unused : goal.run_one-requires-clause-unused
run_one-requires-clause-unused g c =
    let low : c.loop-number.number < length c.loop-number.strands = omega arith in
    c.loop-number.invariant.run.later c.loop-number.number _ (omega arith) (slice_get-get_or c.loop-number.strands c.loop-number.number c.index-strands-number.result low)

pub returns-in_err-run_one-clause-numbers : goal.returns-in_err-run_one-clause-numbers
returns-in_err-run_one-clause-numbers g c =
    let low : c.loop-number.number < length c.loop-number.strands = omega arith in
    let at = slice_get-get_or c.loop-number.strands c.loop-number.number c.index-strands-number.result low in
    numbers-kept g.B.BatchName.batch g.B.BatchName.opening c.loop-number.number c.loop-number.strands _ c.run_one.new.strand at c.run_one.ensures.task ∙ c.loop-number.invariant.numbers

pub returns-in_err-run_one-clause-tasks : goal.returns-in_err-run_one-clause-tasks
returns-in_err-run_one-clause-tasks g c =
    let low : c.loop-number.number < length c.loop-number.strands = omega arith in
    let at = slice_get-get_or c.loop-number.strands c.loop-number.number c.index-strands-number.result low in
    tasks-kept g.B.BatchName.batch g.B.BatchName.opening c.loop-number.number c.loop-number.strands _ c.run_one.new.strand at c.run_one.ensures.task ∙ c.loop-number.invariant.tasks

pub returns-then-not-branch-clause-numbers : goal.returns-then-not-branch-clause-numbers
returns-then-not-branch-clause-numbers g c =
    let low : c.loop-number.number < length c.loop-number.strands = omega arith in
    let at = slice_get-get_or c.loop-number.strands c.loop-number.number c.index-strands-number.result low in
    numbers-kept g.B.BatchName.batch g.B.BatchName.opening c.loop-number.number c.loop-number.strands _ c.run_one.new.strand at c.run_one.ensures.task ∙ c.loop-number.invariant.numbers

pub returns-then-not-branch-clause-tasks : goal.returns-then-not-branch-clause-tasks
returns-then-not-branch-clause-tasks g c =
    let low : c.loop-number.number < length c.loop-number.strands = omega arith in
    let at = slice_get-get_or c.loop-number.strands c.loop-number.number c.index-strands-number.result low in
    tasks-kept g.B.BatchName.batch g.B.BatchName.opening c.loop-number.number c.loop-number.strands _ c.run_one.new.strand at c.run_one.ensures.task ∙ c.loop-number.invariant.tasks

pub loop-number-preserved : goal.loop-number-preserved
loop-number-preserved g c =
    let b = g.B.BatchName.batch in
    let o = g.B.BatchName.opening in
    let next = c.loop-number.number in
    let strands = c.loop-number.strands in
    let s = get_or strands next c.index-strands-number.result in
    let r = c.run_one.new.strand in
    let now = c.loop-number.shards in
    let then = c.run_one.new.shards in
    let old = c.loop-number.invariant in
    let low : next < length strands = omega arith in
    let at = slice_get-get_or strands next c.index-strands-number.result low in
    let ended : c.in_ok-run_one.field-0 ≡ true = search rules in
    record {
      many = length-set strands next r ∙ old.many;
      numbers = numbers-kept b o next strands s r at c.run_one.ensures.task ∙ old.numbers;
      tasks = tasks-kept b o next strands s r at c.run_one.ensures.task ∙ old.tasks;
      count = c.run_one.ensures.count ∙ old.count;
      order = c.run_one.ensures.order;
      counted = sums-counted b o next strands s r at c.args.shards.now now then _ old.counted c.run_one.ensures.counted;
      within = sums-within b o next strands s r at c.args.most c.loop-number.left c.run_one.new.left _ old.within c.run_one.ensures.within;
      run = next-run b o next strands s r at now then old.run (c.in_ok-run_one.ensures.ended ended) (c.in_ok-run_one.ensures.fresh ended);
      heard = λ bare. next-heard b o next strands s r at now then (old.heard bare) (c.in_ok-run_one.ensures.heard ended);
    }

pub returns-clause-ended : goal.returns-clause-ended
returns-clause-ended g c = λ _. all-run g.B.BatchName.batch g.B.BatchName.opening c.loop-number.strands c.loop-number.shards c.loop-number.number c.loop-number.invariant.run (omega arith)

pub returns-clause-heard : goal.returns-clause-heard
returns-clause-heard g c = λ bare e.
    let unspent : All (λ (s : Demand). s.strand.spent ≡ false) c.loop-number.strands = search rules in
    all-heard g.B.BatchName.batch g.B.BatchName.opening c.loop-number.strands c.loop-number.shards c.loop-number.number (c.loop-number.invariant.heard bare) unspent
