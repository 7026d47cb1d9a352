use Rattle.std.proofs.Common.{ℕ, List, length, ap, ◌∙◌, arith}
use Rattle.bench_reader.specs.inner.Sip.{finish, last_word}
use Rattle.bench_reader.proofs.Hashing.{hashed}
use Rattle.bench_reader.proofs.sip.sip_hash.Goals as goal

pub returns : goal.returns
returns c =
    c.finish.ensures ∙ ap finish c.with_word.ensures
    ∙ hashed c.args.bytes.now _ c.loop-word.word-index c.last_word.result c.loop-word.state c.as_chunks.ensures.front (c.last_word.ensures ∙ ap (λ (l : List ℕ). last_word l (length c.args.bytes.now)) c.as_chunks.ensures.back) c.loop-word.invariant (omega (arith, c.loop-word-test.false))
