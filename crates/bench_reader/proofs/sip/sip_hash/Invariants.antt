use Rattle.std.proofs.Common.{◌≡◌, drop}
use Rattle.std.specs.List.{fold}
use Rattle.bench_reader.specs.inner.Sip.{start, with_bytes}
use Rattle.bench_reader.proofs.sip.sip_hash.Given as goal

abbrev pub invariant-loop-word : goal.invariant-loop-word
invariant-loop-word l = fold with_bytes l.state (drop l.word-index l.words) ≡ fold with_bytes start l.words
