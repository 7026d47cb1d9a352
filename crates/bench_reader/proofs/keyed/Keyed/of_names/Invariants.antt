use Rattle.std.proofs.Common.{◌≡◌, ◌+◌, length}
use Rattle.bench_reader.specs.inner.Chains.{bucket_at}
use Rattle.bench_reader.specs.inner.Keyed.{IsKeyed}
use Rattle.bench_reader.specs.inner.Sip.{sip_hash}
use Rattle.bench_reader.proofs.keyed.Keyed.of_names.Given as goal

abbrev pub invariant-loop-number : goal.invariant-loop-number
invariant-loop-number l = record {
  keyed : IsKeyed (bucket_at sip_hash l.names) l.number l.latest l.earlier.items;
  long : length l.earlier.items ≡ length l.names + 1;
}
