use Rattle.std.proofs.Common.{rules, ◌≡◌, arith, length}
use Rattle.std.proofs.lemmas.List.Sums.{sum_by_push}
use Rattle.plan_core.specs.InTurn.{booked_by}
use Rattle.worker_gate.proofs.Places.{places_more}
use Rattle.worker_gate.proofs.run.take_all.Goals as goal

pub loop-i-preserved : goal.loop-i-preserved
loop-i-preserved g c =
    let h = c.take_shard-booked.result in
    let old = c.loop-i.invariant in
    let items = c.in_ok-push.ensures.items in
    let e = sum_by_push booked_by c.loop-i.shards.items h.shard in
    record {
      count = search rules;
      amount = rw items (omega (arith, e, old.amount, h.amount, c.sum_of_both-total.ensures));
      numbers = let n : length c.loop-i.shards.items ≡ c.loop-i.i = search rules in rw items (places_more (λ s k. s.number ≡ k) c.loop-i.shards.items h.shard c.loop-i.i n old.numbers c.take_shard-booked.ensures);
    }
