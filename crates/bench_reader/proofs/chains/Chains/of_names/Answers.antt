use Rattle.std.proofs.Common.{◌∙◌, ap, length, arith}
use Rattle.std.proofs.lemmas.List.{length-set}
use Rattle.bench_reader.specs.inner.Chains.{bucket_in}
use Rattle.bench_reader.proofs.Chained.{chained-next}
use Rattle.bench_reader.proofs.chains.Chains.of_names.Goals as goal

pub loop-number-preserved : goal.loop-number-preserved
loop-number-preserved c = record {
  chained = chained-next c.args.names.now c.get.result.now c.loop-number.all.latest.items c.loop-number.all.earlier.items c.link.new.self.latest.items c.link.new.self.earlier.items c.loop-number.number c.args.count c.bucket_of.result
      c.loop-number.invariant.chained c.loop-number.invariant.latest c.loop-number.invariant.earlier (omega (arith, c.requires.room, c.loop-number-test.true, c.len-number-end.ensures)) c.get.ensures (c.bucket_of.ensures.bucket ∙ ap (bucket_in c.args.count) c.hash_of.ensures) c.bucket_of.ensures.within c.link.ensures.latest c.link.ensures.earlier;
  latest = ap length c.link.ensures.latest ∙ length-set _ _ _ ∙ c.loop-number.invariant.latest;
  earlier = ap length c.link.ensures.earlier ∙ length-set _ _ _ ∙ c.loop-number.invariant.earlier;
}
