use Rattle.std.proofs.Common.{◌%◌, length, ap, sym, ◌∙◌, subst, get_or, Ok}
use Rattle.memo_shards.specs.Steps.{OfStep}
use Rattle.plan_core.proofs.AloneTurns.{alone-heard, turn-heard, may-step, told, claims, refused, filled, dropped, never-taken}
use Rattle.plan_core.proofs.in_turn.turn.Goals as goal

pub step-requires-clause-stands : goal.step-requires-clause-stands
step-requires-clause-stands g c =
    let b = g.B.BatchName.batch in
    let w = c.next_step-next.new.self in
    let alone = alone-heard b g.B.BatchName.opening c.args.strand.now w c.args.shards.now c.next_step-next.ensures.steps c.requires.alone in
    let point = c.in-Some.ensures.some in
    let slot = c.shard_number-home.ensures.number ∙ ap (λ p. p.signal % length c.args.shards.now) point.1 in
    may-step b g.B.BatchName.opening w c.args.shards.now alone c.facts.ensures c.next_step-next.result (sym c.next_step-next.ensures.next) point.0 c.shard_number-home.result slot c.index-shards-home.result

pub returns-in-Heard : goal.returns-in-Heard
returns-in-Heard g c =
    let b = g.B.BatchName.batch in
    let w = c.next_step-next.new.self in
    let alone = alone-heard b g.B.BatchName.opening c.args.strand.now w c.args.shards.now c.next_step-next.ensures.steps c.requires.alone in
    let point = c.in-Some.ensures.some in
    let slot = c.shard_number-home.ensures.number ∙ ap (λ p. p.signal % length c.args.shards.now) point.1 in
    let h0 = get_or c.args.shards.now c.shard_number-home.result c.index-shards-home.result in
    let f = subst (λ o. OfStep b h0 c.step.new.self c.next_step-next.result w c.step.new.strand (Ok o)) c.in-Heard.is c.in_ok-step.ensures in
    turn-heard b g.B.BatchName.opening c.args.strand.now w c.args.shards.now c.next_step-next.ensures.steps _ _ _
    (told b g.B.BatchName.opening w c.args.shards.now alone c.facts.ensures c.next_step-next.result (sym c.next_step-next.ensures.next) point.0 c.shard_number-home.result slot c.index-shards-home.result c.step.new.strand c.step.new.self f.0 f.1)

pub returns-in-Holds : goal.returns-in-Holds
returns-in-Holds g c =
    let b = g.B.BatchName.batch in
    let w = c.next_step-next.new.self in
    let alone = alone-heard b g.B.BatchName.opening c.args.strand.now w c.args.shards.now c.next_step-next.ensures.steps c.requires.alone in
    let point = c.in-Some.ensures.some in
    let slot = c.shard_number-home.ensures.number ∙ ap (λ p. p.signal % length c.args.shards.now) point.1 in
    let h0 = get_or c.args.shards.now c.shard_number-home.result c.index-shards-home.result in
    let f = subst (λ o. OfStep b h0 c.step.new.self c.next_step-next.result w c.step.new.strand (Ok o)) c.in-Holds.is c.in_ok-step.ensures in
    turn-heard b g.B.BatchName.opening c.args.strand.now w c.args.shards.now c.next_step-next.ensures.steps _ _ _
    (claims b g.B.BatchName.opening w c.args.shards.now alone c.facts.ensures c.next_step-next.result (sym c.next_step-next.ensures.next) point.0 c.shard_number-home.result slot c.index-shards-home.result c.step.new.strand c.step.new.self f.0 f.1)

pub unreachable-requires : goal.unreachable-requires
unreachable-requires g c =
    let b = g.B.BatchName.batch in
    let w = c.next_step-next.new.self in
    let alone = alone-heard b g.B.BatchName.opening c.args.strand.now w c.args.shards.now c.next_step-next.ensures.steps c.requires.alone in
    let point = c.in-Some.ensures.some in
    let slot = c.shard_number-home.ensures.number ∙ ap (λ p. p.signal % length c.args.shards.now) point.1 in
    let h0 = get_or c.args.shards.now c.shard_number-home.result c.index-shards-home.result in
    let f = subst (λ o. OfStep b h0 c.step.new.self c.next_step-next.result w c.step.new.strand (Ok o)) c.in-Taken.is c.in_ok-step.ensures in
    never-taken b g.B.BatchName.opening w c.args.shards.now alone c.facts.ensures c.next_step-next.result (sym c.next_step-next.ensures.next) point.0 c.shard_number-home.result slot c.index-shards-home.result c.step.new.strand c.step.new.self f.0 f.1

pub returns-in-Refused : goal.returns-in-Refused
returns-in-Refused g c =
    let b = g.B.BatchName.batch in
    let w = c.next_step-next.new.self in
    let alone = alone-heard b g.B.BatchName.opening c.args.strand.now w c.args.shards.now c.next_step-next.ensures.steps c.requires.alone in
    let point = c.in-Some.ensures.some in
    let slot = c.shard_number-home.ensures.number ∙ ap (λ p. p.signal % length c.args.shards.now) point.1 in
    let h0 = get_or c.args.shards.now c.shard_number-home.result c.index-shards-home.result in
    let f = subst (λ o. OfStep b h0 c.step.new.self c.next_step-next.result w c.step.new.strand (Ok o)) c.in-Refused.is c.in_ok-step.ensures in
    turn-heard b g.B.BatchName.opening c.args.strand.now w c.args.shards.now c.next_step-next.ensures.steps _ _ _
    (refused b g.B.BatchName.opening w c.args.shards.now alone c.facts.ensures c.next_step-next.result (sym c.next_step-next.ensures.next) point.0 c.shard_number-home.result slot c.index-shards-home.result c.step.new.strand c.step.new.self f.0 f.1)

pub returns-in-Filled : goal.returns-in-Filled
returns-in-Filled g c =
    let b = g.B.BatchName.batch in
    let w = c.next_step-next.new.self in
    let alone = alone-heard b g.B.BatchName.opening c.args.strand.now w c.args.shards.now c.next_step-next.ensures.steps c.requires.alone in
    let point = c.in-Some.ensures.some in
    let slot = c.shard_number-home.ensures.number ∙ ap (λ p. p.signal % length c.args.shards.now) point.1 in
    let h0 = get_or c.args.shards.now c.shard_number-home.result c.index-shards-home.result in
    let f = subst (λ o. OfStep b h0 c.step.new.self c.next_step-next.result w c.step.new.strand (Ok o)) c.in-Filled.is c.in_ok-step.ensures in
    turn-heard b g.B.BatchName.opening c.args.strand.now w c.args.shards.now c.next_step-next.ensures.steps _ _ _
    (filled b g.B.BatchName.opening w c.args.shards.now alone c.facts.ensures c.next_step-next.result (sym c.next_step-next.ensures.next) point.0 c.shard_number-home.result slot c.index-shards-home.result c.step.new.strand c.step.new.self c.in-Filled.field-0.items f.0 f.1)

pub returns : goal.returns
returns g c =
    let b = g.B.BatchName.batch in
    let w = c.next_step-next.new.self in
    let alone = alone-heard b g.B.BatchName.opening c.args.strand.now w c.args.shards.now c.next_step-next.ensures.steps c.requires.alone in
    let point = c.in-Some.ensures.some in
    let slot = c.shard_number-home.ensures.number ∙ ap (λ p. p.signal % length c.args.shards.now) point.1 in
    let h0 = get_or c.args.shards.now c.shard_number-home.result c.index-shards-home.result in
    let f = subst (λ o. OfStep b h0 c.step.new.self c.next_step-next.result w c.step.new.strand (Ok o)) c.in-Dropped.is c.in_ok-step.ensures in
    turn-heard b g.B.BatchName.opening c.args.strand.now w c.args.shards.now c.next_step-next.ensures.steps _ _ _
    (dropped b g.B.BatchName.opening w c.args.shards.now alone c.facts.ensures c.next_step-next.result (sym c.next_step-next.ensures.next) point.0 c.shard_number-home.result slot c.index-shards-home.result c.step.new.strand c.step.new.self c.in-Dropped.field-0.items f.0 f.1)
