use Rattle.std.proofs.Common.{unwrap_or, ap, ◌∙◌, arith, rules}
use Rattle.std.specs.BTreeMap.Entry.{map_with_value}
use Rattle.std.proofs.lemmas.List.{length-set}
use Rattle.bench_reader.proofs.Chained.{got}
use Rattle.bench_reader.proofs.Keying.{keyed-next}
use Rattle.bench_reader.proofs.keyed.Keyed.of_names.Goals as goal

pub loop-number-preserved : goal.loop-number-preserved
loop-number-preserved c =
    let names = c.args.names.now in
    let n = c.loop-number.number in
    record {
      keyed = keyed-next names c.get.result.now n c.sip_hash.result c.or_insert-last.result.now c.replace.result c.replace.new.dest c.loop-number.latest (map_with_value c.in_ok-latest.field-0 c.replace.new.dest) _ c.loop-number.earlier.items c.loop-number.invariant.keyed
          (omega (arith, c.loop-number-test.true, c.len-number-end.ensures, c.loop-number.invariant.long)) (got names n c.get.result.now c.get.ensures) c.sip_hash.ensures (c.or_insert-last.ensures.value ∙ ap (λ o. unwrap_or o 0) c.in_ok-latest.ensures.value) c.replace.ensures.value
          (omega (arith, c.replace.ensures.after)) (c.in_ok-latest.ensures.update.0 c.replace.new.dest) (search rules);
      long = length-set c.loop-number.earlier.items n c.replace.result ∙ c.loop-number.invariant.long;
    }
