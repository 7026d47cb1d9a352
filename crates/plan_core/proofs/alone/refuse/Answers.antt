use Rattle.std.proofs.Common.{◌≡◌, ◌∙◌, length, sym, refl, true≢false, ◌%◌, ap}
use Rattle.journal_meaning.specs.Batches.{shard_number}
use Rattle.plan_core.specs.inner.Parts.{plan_at}
use Rattle.plan_core.proofs.Refusing.{refused-spent, refused-asks, refused-here, refused-open, refused-end}
use Rattle.plan_core.proofs.Resting.{unplaced-waits}
use Rattle.plan_core.proofs.alone.refuse.Goals as goal

pub spend-requires-clause-spent : goal.spend-requires-clause-spent
spend-requires-clause-spent g c =
    let b = g.B.BatchName.batch in
    let o = g.B.BatchName.opening in
    let places = c.args.places.now in
    let shards = c.args.shards.now.items in
    let slot_is : c.shard_number-home.result ≡ c.args.p.signal % length shards = c.shard_number-home.ensures.number ∙ ap (shard_number c.args.p.signal) (c.len.ensures ∙ c.args.shards.now.ok.0) in
    refused-spent b o places shards c.requires.parts c.args.number c.in-Some.strand.now c.in-Some.ensures.some c.args.p c.shard_number-home.result slot_is c.index_mut.result.now c.index_mut.ensures.value c.requires.refused

pub spend-requires-clause-refused : goal.spend-requires-clause-refused
spend-requires-clause-refused g c =
    let b = g.B.BatchName.batch in
    let o = g.B.BatchName.opening in
    let places = c.args.places.now in
    let shards = c.args.shards.now.items in
    let slot_is : c.shard_number-home.result ≡ c.args.p.signal % length shards = c.shard_number-home.ensures.number ∙ ap (shard_number c.args.p.signal) (c.len.ensures ∙ c.args.shards.now.ok.0) in
    refused-asks b o places shards c.requires.parts c.args.number c.in-Some.strand.now c.in-Some.ensures.some c.args.p c.shard_number-home.result slot_is c.index_mut.result.now c.index_mut.ensures.value c.requires.refused

pub spend-requires-clause-here : goal.spend-requires-clause-here
spend-requires-clause-here g c =
    let b = g.B.BatchName.batch in
    let o = g.B.BatchName.opening in
    let places = c.args.places.now in
    let shards = c.args.shards.now.items in
    let slot_is : c.shard_number-home.result ≡ c.args.p.signal % length shards = c.shard_number-home.ensures.number ∙ ap (shard_number c.args.p.signal) (c.len.ensures ∙ c.args.shards.now.ok.0) in
    refused-here b o places shards c.requires.parts c.args.number c.in-Some.strand.now c.in-Some.ensures.some c.args.p c.shard_number-home.result slot_is c.index_mut.result.now c.index_mut.ensures.value c.requires.refused

pub spend-requires-clause-unfound : goal.spend-requires-clause-unfound
spend-requires-clause-unfound g c =
    let b = g.B.BatchName.batch in
    let o = g.B.BatchName.opening in
    let places = c.args.places.now in
    let shards = c.args.shards.now.items in
    let slot_is : c.shard_number-home.result ≡ c.args.p.signal % length shards = c.shard_number-home.ensures.number ∙ ap (shard_number c.args.p.signal) (c.len.ensures ∙ c.args.shards.now.ok.0) in
    refused-open b o places shards c.requires.parts c.args.number c.in-Some.strand.now c.in-Some.ensures.some c.args.p c.shard_number-home.result slot_is c.index_mut.result.now c.index_mut.ensures.value c.requires.refused

pub unreachable-requires : goal.unreachable-requires
unreachable-requires g c =
    let r = c.requires.refused in
    let k = unplaced-waits g.B.BatchName.batch g.B.BatchName.opening c.args.places.now c.args.shards.now.items c.requires.parts c.args.number (plan_at c.args.places.now c.args.shards.now.items) refl (λ s at. c.in-None.ensures.none refl s at) r.strand r.at in
    true≢false (sym k ∙ r.awake)

pub returns : goal.returns
returns g c =
    let b = g.B.BatchName.batch in
    let o = g.B.BatchName.opening in
    let places = c.args.places.now in
    let shards = c.args.shards.now.items in
    let slot_is : c.shard_number-home.result ≡ c.args.p.signal % length shards = c.shard_number-home.ensures.number ∙ ap (shard_number c.args.p.signal) (c.len.ensures ∙ c.args.shards.now.ok.0) in
    refused-end b o places shards c.requires.parts c.args.number c.in-Some.strand.now c.in-Some.ensures.some c.args.p c.shard_number-home.result slot_is c.index_mut.result.now c.index_mut.ensures.value c.requires.refused c.spend.new.shard c.spend.ensures.known c.spend.result c.spend.ensures.ok c.spend.ensures.err
