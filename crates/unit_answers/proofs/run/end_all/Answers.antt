use Rattle.std.proofs.Common.{◌∙◌}
use Rattle.unit_answers.proofs.Opening.{closes-first, closes-free, closes-more, closes-lists, closes-stores}
use Rattle.unit_answers.proofs.run.end_all.Goals as goal

pub loop-shard-init : goal.loop-shard-init
loop-shard-init g c =
    let k = c.into_iter-shard-iterator.ensures.into_iter_gives in
    (tt, tt, closes-first g.B.BatchName.batch.capacity c.args.shards.items _ c.new-lists.result.items c.new-stores.result.items _ c.new-lists.ensures.items c.new-stores.ensures.items k.0 (k.1 ∙ c.args.shards.ok.0) c.requires)

pub end_batch-store-requires : goal.end_batch-store-requires
end_batch-store-requires g c =
    closes-free g.B.BatchName.batch.capacity c.args.shards.items c.loop-shard.lists.items c.loop-shard.stores.items _ _ c.loop-shard.invariant.2 c.in-Some.shard _ c.in-Some.ensures.steps.0

pub loop-shard-preserved : goal.loop-shard-preserved
loop-shard-preserved g c = (
  tt,
  tt,
  closes-more g.B.BatchName.batch.capacity c.args.shards.items c.loop-shard.lists.items c.loop-shard.stores.items _ _ c.loop-shard.invariant.2 c.in-Some.shard _ _ c.from_vec.result c.end_batch-store.result.0 c.push.new.self.items
      c.push-in-loop-shard.new.self.items c.in-Some.ensures.steps.0 c.in-Some.ensures.steps.1 (c.from_vec.ensures ∙ c.end_batch-store.ensures.journal) c.end_batch-store.ensures.store c.in_ok-push.ensures.items c.in_ok-push-2.ensures.items,
)

pub returns : goal.returns
returns g c = record {
  lists_are = closes-lists g.B.BatchName.batch.capacity c.args.shards.items c.loop-shard.lists.items c.loop-shard.stores.items _ _ c.loop-shard.invariant.2 c.in-None.ensures.steps.0;
  stores_are = closes-stores g.B.BatchName.batch.capacity c.args.shards.items c.loop-shard.lists.items c.loop-shard.stores.items _ _ c.loop-shard.invariant.2 c.in-None.ensures.steps.0;
}
