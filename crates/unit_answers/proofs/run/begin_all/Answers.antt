use Rattle.std.proofs.Common.{◌≡◌, ◌<◌, length, ◌∙◌, arith}
use Rattle.unit_answers.proofs.Opening.{opens-first, opens-within, opens-store, opens-more, opens-all}
use Rattle.unit_answers.proofs.run.begin_all.Goals as goal

pub loop-store-init : goal.loop-store-init
loop-store-init g c =
    let k = c.into_iter-store-iterator.ensures.into_iter_gives in
    (tt, tt, opens-first c.args.stores.items _ c.new-shards.result.items _ c.new-shards.ensures.items k.0 (k.1 ∙ c.args.stores.ok.0))

pub overflow_cast-number : goal.overflow_cast-number
overflow_cast-number g c =
    let number : c.len-number.result ≡ length c.loop-store.shards.items = c.len-number.ensures ∙ c.loop-store.shards.ok.0 in
    let low : c.len-number.result < length c.args.stores.items = opens-within c.args.stores.items c.loop-store.shards.items _ _ c.loop-store.invariant.2 c.in-Some.store _ c.in-Some.ensures.steps.0 c.len-number.result number in
    omega (arith, c.requires.most)

pub begin-requires : goal.begin-requires
begin-requires g c =
    let number : c.len-number.result ≡ length c.loop-store.shards.items = c.len-number.ensures ∙ c.loop-store.shards.ok.0 in
    let low : c.len-number.result < length c.args.stores.items = opens-within c.args.stores.items c.loop-store.shards.items _ _ c.loop-store.invariant.2 c.in-Some.store _ c.in-Some.ensures.steps.0 c.len-number.result number in
    let within : c.len-number.result < g.B.BatchName.batch.shards = omega (arith, c.requires.count) in
    record {
      lawful = c.requires.lawful;
      number = within;
      opening = opens-store c.args.stores.items c.loop-store.shards.items _ _ c.loop-store.invariant.2 c.in-Some.store _ c.in-Some.ensures.steps.0 c.len-number.result number g.B.BatchName.batch g.B.BatchName.opening c.requires;
      right = c.requires.right c.len-number.result within;
    }

pub loop-store-preserved : goal.loop-store-preserved
loop-store-preserved g c =
    let number : c.len-number.result ≡ length c.loop-store.shards.items = c.len-number.ensures ∙ c.loop-store.shards.ok.0 in (
      tt,
      tt,
      opens-more c.args.stores.items c.loop-store.shards.items _ _ c.loop-store.invariant.2 c.in-Some.store _ c.in-Some.ensures.steps.0 c.len-number.result number c.begin.result c.push.new.self.items _ (g.B.BatchName.opening c.len-number.result)
          c.begin.ensures c.in_ok-push.ensures.items c.in-Some.ensures.steps.1,
    )

pub returns : goal.returns
returns g c = opens-all c.args.stores.items c.loop-store.shards.items _ _ c.loop-store.invariant.2 c.in-None.ensures.steps.0
