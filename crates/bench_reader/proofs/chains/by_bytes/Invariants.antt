use Rattle.std.proofs.Common.{◌≡◌, drop}
use Rattle.std.specs.List.{fold}
use Rattle.bench_reader.specs.inner.Chains.{mixed_hash}
use Rattle.bench_reader.proofs.chains.by_bytes.Given as goal

abbrev pub invariant-loop-byte : goal.invariant-loop-byte
invariant-loop-byte l = fold mixed_hash l.hash (drop l.byte-index l.name) ≡ fold mixed_hash 0 l.name
