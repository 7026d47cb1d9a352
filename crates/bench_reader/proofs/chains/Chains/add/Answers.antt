use Rattle.std.proofs.Common.{◌≡◌, ℕ, ◌+◌, List, length, get_or, set, ap, subst, sym, ◌∙◌, arith}
use Rattle.bench_reader.specs.inner.Chains.{bucket_in, bucket_of, IsEachOnce}
use Rattle.bench_reader.proofs.Numbering.{numbered-new}
use Rattle.bench_reader.proofs.chains.Chains.add.Goals as goal

pub returns-in_err-push-clause-chained : goal.returns-in_err-push-clause-chained
returns-in_err-push-clause-chained c = subst (λ (t : List (List ℕ)). IsEachOnce t c.args.self.now.latest.items c.args.self.now.earlier.items) (sym c.in_err-push.ensures.unchanged) c.requires.chained

pub returns-clause-chained : goal.returns-clause-chained
returns-clause-chained c =
    let latest = c.args.self.now.latest.items in
    let buckets : c.len.result ≡ length latest = omega (arith, c.len.ensures) in
    subst (λ (t : List (List ℕ)). IsEachOnce t c.link.new.self.latest.items c.link.new.self.earlier.items) (sym c.in_ok-push.ensures.added)
    (numbered-new c.args.names.now c.args.name.now latest c.args.self.now.earlier.items c.link.new.self.latest.items c.link.new.self.earlier.items c.bucket_of-bucket.result c.requires.chained.chains c.requires.chained.distinct
    c.requires.fresh c.requires.room
    (c.bucket_of-bucket.ensures.bucket ∙ ap (bucket_in c.len.result) c.requires.hash ∙ ap (λ (n : ℕ). bucket_of n c.args.name.now) buckets) (omega (arith, c.bucket_of-bucket.ensures.within, buckets))
    (c.link.ensures.latest ∙ ap (λ (n : ℕ). set latest c.bucket_of-bucket.result (n + 1)) c.len-number.ensures)
    (c.link.ensures.earlier ∙ ap (λ (n : ℕ). set c.args.self.now.earlier.items n (get_or latest c.bucket_of-bucket.result 0)) c.len-number.ensures))
