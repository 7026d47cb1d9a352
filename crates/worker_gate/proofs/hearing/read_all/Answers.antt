use Rattle.std.proofs.Common.{◌≡◌, ◌+◌, ◌<◌, ◌/◌, ◌%◌, List, min, length, get_or, Ok, IfOk, sym, ap, subst, ◌∙◌, arith, rules}
use Rattle.std.proofs.lemmas.List.{length-map, get_or-map}
use Rattle.std.proofs.lemmas.Result.{IfOk-weaker}
use Rattle.memo_shards.specs.KeptShards.{KeptShard}
use Rattle.plan_core.specs.asked.FillCounts.{HaveCounted}
use Rattle.plan_core.specs.asked.Memos.{entries_of}
use Rattle.worker_gate.specs.Said.{AreJoined}
use Rattle.worker_gate.proofs.Joined.{chunks-cover, chunks-counted}
use Rattle.worker_gate.proofs.hearing.read_all.Goals as goal

pub returns : goal.returns
returns g c =
    let shards = c.args.shards.now in
    let size = c.max-size.result in
    let parts = c.in_ok-parts.parts.items in
    let some : 0 < size = search rules in
    IfOk-weaker c.joined.result (λ said. AreJoined parts said.fills.items) _ (λ said are.
    let all = are.all in
    let many : length parts ≡ length all = ap length are.read ∙ length-map all (λ s. Ok s) in
    let count : length all ≡ length shards / size + min 1 (length shards % size) = omega (arith, many, c.in_ok-parts.ensures.len, c.in_ok-parts.parts.ok.0) in
    subst (HaveCounted (entries_of shards)) (sym are.counts) (chunks-counted size all shards (λ n d low.
    let call = (c.in_ok-parts.ensures.each n (Ok d) (omega (arith, low, many, c.in_ok-parts.parts.ok.0))).1 in
    let one : get_or parts n (Ok d) ≡ Ok (get_or all n d) = ap (λ l. get_or l n (Ok d)) are.read ∙ get_or-map (λ s. Ok s) all n d (Ok d) low in
    let made : IfOk (get_or parts n (Ok d)) (λ s. HaveCounted (entries_of call.argument.now) s.fills.items) = let posted = call.call in search rules in
    subst (λ (ms : List KeptShard). HaveCounted (entries_of ms) (get_or all n d).fills.items) call.argument_is.value (subst (λ r. IfOk r (λ s. HaveCounted (entries_of call.argument.now) s.fills.items)) one made)) (chunks-cover (length all) (length shards) size some count))) c.joined.ensures
