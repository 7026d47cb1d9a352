use Rattle.std.proofs.Common.{◌≡◌, length}
use Rattle.bench_reader.specs.inner.Chains.{bucket_of, bucket_at, IsChained}
use Rattle.bench_reader.proofs.chains.Chains.of_names.Given as goal

abbrev pub invariant-loop-number : goal.invariant-loop-number
invariant-loop-number l = record {
  chained : IsChained (bucket_at (bucket_of l.count) l.names) l.number l.all.latest.items l.all.earlier.items;
  latest : length l.all.latest.items ≡ l.count;
  earlier : length l.all.earlier.items ≡ l.count;
}
