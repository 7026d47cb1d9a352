use Rattle.std.proofs.Common.{◌≡◌, List, length, sym, subst}
use Rattle.std.specs.List.{AllZip, refill}
use Rattle.plan_machine.specs.Strands.{after_answer}
use Rattle.demand_points.specs.Demands.{Demand, TakesStep}
use Rattle.memo_shards.proofs.Hearing.{all-done, refill-same}
use Rattle.memo_shards.proofs.wake.hear_all.Goals as goal

pub returns : goal.returns
returns g c =
    let xs = c.args.list.now.items in
    let ys = c.loop-s.s-items in
    let old = c.as_mut_slice-s-items.result.now in
    let long : length ys ≡ length old = c.loop-s.auto.s-items in
    let done : AllZip (TakesStep after_answer) old ys = all-done (TakesStep after_answer) old ys c.loop-s.s-index c.loop-s-test.false long c.loop-s.invariant in
    let there : AllZip (TakesStep after_answer) xs ys = subst (λ (l : List Demand). AllZip (TakesStep after_answer) l ys) c.as_mut_slice-s-items.ensures.value done in
    let longer : length ys ≡ length xs = subst (λ (l : List Demand). length ys ≡ length l) c.as_mut_slice-s-items.ensures.value long in
    subst (λ n. AllZip (TakesStep after_answer) xs (refill n xs ys)) (sym c.args.list.now.ok.0)
    (subst (λ (l : List Demand). AllZip (TakesStep after_answer) xs l) (sym (refill-same xs ys longer)) there)
