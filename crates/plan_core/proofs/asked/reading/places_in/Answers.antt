use Rattle.std.proofs.Common.{◌+◌, ◌∷◌, [], length, length-append, ap, subst, ◌∙◌}
use Rattle.memo_shards.specs.KeptShards.{KeptShard}
use Rattle.plan_core.specs.declared.asked.places.Places.{Places}
use Rattle.plan_core.specs.asked.inner.Places.{ArePlaces}
use Rattle.plan_core.proofs.AskedPairs.{each-more}
use Rattle.plan_core.proofs.asked.reading.places_in.Goals as goal

pub loop-shard-preserved : goal.loop-shard-preserved
loop-shard-preserved g c =
    let was = c.loop-shard.invariant in
    let old = c.loop-shard.places.items in
    let m = c.shard-item.result in
    let x = c.in_ok-read.read in
    let wanted = c.args.wanted.now in
    let more = c.in_ok-push.ensures.items in
    record {
      count = ap length more ∙ length-append old (x ∷ []) ∙ ap (λ k. k + 1) was.count;
      each = each-more (λ (s : KeptShard) (t : Places). ArePlaces s.shard.journal wanted t.last.items t.noted.items) c.args.shards.now old c.push.new.self.items c.loop-shard.shard-index m x more was.count c.loop-shard-test.true c.shard-item.is
          (subst (λ l. ArePlaces l wanted x.last.items x.noted.items) c.journal.ensures c.in_ok-read.ensures) was.each;
    }
