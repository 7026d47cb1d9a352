use Rattle.std.proofs.Common.{◌+◌, true, false, List, OnSome, refl, sym, ap, subst, ◌∙◌, inl}
use Rattle.circuit_meaning.specs.Circuit.{Circuit}
use Rattle.circuit_meaning.specs.Need.{IsEvaluable}
use Rattle.journal_meaning.specs.Batches.{Batch}
use Rattle.memo_shards.specs.KeptShards.{KeptShard}
use Rattle.plan_core.specs.Parts.{shards_in}
use Rattle.plan_core.specs.asked.Asked.{AsksOn, Nothing}
use Rattle.plan_core.proofs.Callers.{none-of, asks-then}
use Rattle.query_answers.specs.asking.inner.AskedMemos.{AskedMemo}
use Rattle.query_answers.specs.stuck.Asks.{Neither, is_session}
use Rattle.design.specs.Joined.{Joined}
use Rattle.query_answers.specs.stuck.inner.Both.{IsAsked, Rests}
use Rattle.plan_machine.specs.Strands.{started_strand}
use Rattle.query_answers.specs.stuck.inner.Steps.{IsAfterStep}
use Rattle.query_answers.proofs.Resting.{asks-begin, ends-rest, ends-covered, ends-heard, leaves-heard, hears, gives-flag}
use Rattle.query_answers.proofs.Steps.{session-kept, extends-none, extends-then}
use Rattle.query_answers.proofs.stuck.root.hear_root.Goals as goal

pub returns-in-Some-clause-asks : goal.returns-in-Some-clause-asks
returns-in-Some-clause-asks g c =
    let b = g.B.BatchName.batch in
    let question = c.args.question in
    let ms = c.args.memos.now.session.memo in
    let m = c.args.memos.now.own in
    let never = subst (λ (z : Circuit). IsEvaluable z question.query.signal c.args.time → ⊥) c.requires.asked.stuck
    (subst (λ o. OnSome o (IsEvaluable c.args.held.design.now.circuit question.query.signal c.args.time → ⊥)) c.in-Some.is c.base.ensures.some) in
    hears b g.B.BatchName.opening question c.args.time ms m c.args.memos.now.filled c.requires.rests ms m Neither Nothing (extends-none m.shard.journal)
    (leaves-heard b g.B.BatchName.opening question c.args.time ms m c.args.memos.now.filled c.requires.rests (inl (inl never))) false refl

pub steps-init : goal.steps-init
steps-init g c = record {
  query = refl;
  asks = asks-begin g.B.BatchName.batch g.B.BatchName.opening c.args.question c.args.time c.args.memos.now.session.memo c.args.memos.now.own c.args.memos.now.filled c.requires.rests c.start-strand.result
      c.start-strand.ensures.from c.start-strand.ensures.to
      (c.start-strand.ensures.strand ∙ ap (λ (z : Batch). started_strand z.circuit (record { query = c.args.question.query; start = c.args.time; stop = c.args.time + 1; budget = c.args.question.query.budget; charged = c.args.memos.now.filled })) c.requires.asked.own_is);
  kept_session = λ e h. h;
  extends = extends-none c.args.memos.now.own.shard.journal;
  session_asks = Nothing;
  design = refl;
}

pub steps-preserved : goal.steps-preserved
steps-preserved g c =
    let b = g.B.BatchName.batch in
    let after = subst (IsAfterStep b g.B.BatchName.opening g.H.BatchName.batch c.args.question c.args.time c.steps.memos.session.memo c.take_step.new.memos.session.memo c.take_step.new.memos.own c.steps.strand c.take_step.new.strand) c.in-GoesOn.is c.in_ok-take_step.ensures.after in
    let k = c.steps.invariant in
    record {
      query = c.take_step.ensures.query ∙ k.query;
      asks = after.1.asks;
      kept_session = λ e h. c.in_ok-take_step.ensures.kept_session e (k.kept_session e h);
      extends = extends-then c.args.memos.now.own.shard.journal c.steps.memos.own.shard.journal c.take_step.new.memos.own.shard.journal k.extends c.in_ok-take_step.ensures.extends;
      session_asks = asks-then b g.B.BatchName.opening c.args.question.query (shards_in c.args.memos.now.session.memo) false (shards_in c.steps.memos.session.memo) (shards_in c.take_step.new.memos.session.memo) false k.session_asks after.0;
      design = c.take_step.ensures.design ∙ k.design;
    }

-- the design is the same
pub take_step-requires-clause-asked : goal.take_step-requires-clause-asked
take_step-requires-clause-asked g c =
    subst (λ (d : Joined). IsAsked g.B.BatchName.batch g.H.BatchName.batch c.args.question d.circuit c.args.held.design.now.circuit) (sym c.steps.invariant.design) c.requires.asked

pub drop_all-requires-clause-asked : goal.drop_all-requires-clause-asked
drop_all-requires-clause-asked g c =
    subst (λ (d : Joined). IsAsked g.B.BatchName.batch g.H.BatchName.batch c.args.question d.circuit c.args.held.design.now.circuit)
    (sym (c.design.ensures ∙ c.take_step.ensures.design ∙ c.steps.invariant.design)) c.requires.asked

pub unreachable-requires : goal.unreachable-requires
unreachable-requires g c =
    let b = g.B.BatchName.batch in
    let asked = c.requires.asked in
    let e = subst (λ (z : Circuit). IsEvaluable z c.args.question.query.signal c.args.time) asked.stuck (none-of c.base.result (IsEvaluable c.args.held.design.now.circuit c.args.question.query.signal c.args.time) c.base.ensures.none c.in_default.is) in
    let ended = (subst (IsAfterStep b g.B.BatchName.opening g.H.BatchName.batch c.args.question c.args.time c.steps.memos.session.memo c.take_step.new.memos.session.memo c.take_step.new.memos.own c.steps.strand c.take_step.new.strand) c.in-Ended.is c.in_ok-take_step.ensures.after).1 in
    ends-heard b g.B.BatchName.opening c.args.question c.args.time c.take_step.new.memos.session.memo c.take_step.new.memos.own c.take_step.new.strand ended.asks c.facts.ensures.charge ended.done e
    g.H.BatchName.batch (ap (λ (z : Batch). z.circuit) asked.own_is) c.facts.ensures (sym c.last.ensures.last ∙ c.in_default-last.is)

pub returns-in-Ended-clause-kept_session : goal.returns-in-Ended-clause-kept_session
returns-in-Ended-clause-kept_session g c = λ e h. c.in_ok-take_step.ensures.kept_session e (c.steps.invariant.kept_session e h)

pub returns-in-Ended-clause-extends : goal.returns-in-Ended-clause-extends
returns-in-Ended-clause-extends g c =
    extends-then c.args.memos.now.own.shard.journal c.steps.memos.own.shard.journal c.take_step.new.memos.own.shard.journal c.steps.invariant.extends c.in_ok-take_step.ensures.extends

pub returns-in-Ended-clause-rests : goal.returns-in-Ended-clause-rests
returns-in-Ended-clause-rests g c =
    let b = g.B.BatchName.batch in
    let ended = (subst (IsAfterStep b g.B.BatchName.opening g.H.BatchName.batch c.args.question c.args.time c.steps.memos.session.memo c.take_step.new.memos.session.memo c.take_step.new.memos.own c.steps.strand c.take_step.new.strand) c.in-Ended.is c.in_ok-take_step.ensures.after).1 in
    subst (Rests b g.B.BatchName.opening c.args.question c.take_step.new.memos.session.memo c.take_step.new.memos.own) (sym c.charge-memos.ensures.charged)
    (ends-rest b g.B.BatchName.opening c.args.question c.args.time c.take_step.new.memos.session.memo c.take_step.new.memos.own c.take_step.new.strand ended.asks c.facts.ensures.charge ended.done)

pub returns-in-Ended-clause-covered : goal.returns-in-Ended-clause-covered
returns-in-Ended-clause-covered g c =
    let b = g.B.BatchName.batch in
    let ended = (subst (IsAfterStep b g.B.BatchName.opening g.H.BatchName.batch c.args.question c.args.time c.steps.memos.session.memo c.take_step.new.memos.session.memo c.take_step.new.memos.own c.steps.strand c.take_step.new.strand) c.in-Ended.is c.in_ok-take_step.ensures.after).1 in
    ends-covered b g.B.BatchName.opening c.args.question c.args.time c.take_step.new.memos.session.memo c.take_step.new.memos.own c.take_step.new.strand ended.asks c.facts.ensures.charge ended.done

pub returns-in-Ended-clause-asks : goal.returns-in-Ended-clause-asks
returns-in-Ended-clause-asks g c =
    let b = g.B.BatchName.batch in
    let opening = g.B.BatchName.opening in
    let question = c.args.question in
    let ms = c.args.memos.now.session.memo in
    let m = c.args.memos.now.own in
    let new_ms = c.take_step.new.memos.session.memo in
    let new = c.take_step.new.memos.own in
    let after = subst (IsAfterStep b opening g.H.BatchName.batch question c.args.time c.steps.memos.session.memo new_ms new c.steps.strand c.take_step.new.strand) c.in-Ended.is c.in_ok-take_step.ensures.after in
    let strand = c.take_step.new.strand in
    let asks = after.1.asks in
    hears b opening question c.args.time ms m c.args.memos.now.filled c.requires.rests new_ms new Neither
    (asks-then b opening question.query (shards_in ms) false (shards_in c.steps.memos.session.memo) (shards_in new_ms) false c.steps.invariant.session_asks after.0)
    (extends-then m.shard.journal c.steps.memos.own.shard.journal new.shard.journal c.steps.invariant.extends c.in_ok-take_step.ensures.extends)
    (leaves-heard b opening question c.args.time new_ms new strand.strand.charged (ends-rest b opening question c.args.time new_ms new strand asks c.facts.ensures.charge after.1.done)
    (ends-covered b opening question c.args.time new_ms new strand asks c.facts.ensures.charge after.1.done)) false refl

pub drop_all-requires-clause-gives_up : goal.drop_all-requires-clause-gives_up
drop_all-requires-clause-gives_up g c =
    let after = subst (IsAfterStep g.B.BatchName.batch g.B.BatchName.opening g.H.BatchName.batch c.args.question c.args.time c.steps.memos.session.memo c.take_step.new.memos.session.memo c.take_step.new.memos.own c.steps.strand c.take_step.new.strand) c.in-Refused.is c.in_ok-take_step.ensures.after in
    (after.0, after.2)

pub returns-in-Refused-clause-kept_session : goal.returns-in-Refused-clause-kept_session
returns-in-Refused-clause-kept_session g c = λ e h.
    session-kept c.take_step.new.memos.session.memo c.drop_all.new.memos.session.memo (ap (λ (a : AskedMemo). a.memo) c.drop_all.ensures.session) e (c.in_ok-take_step.ensures.kept_session e (c.steps.invariant.kept_session e h))

pub returns-in-Refused-clause-extends : goal.returns-in-Refused-clause-extends
returns-in-Refused-clause-extends g c =
    let was = c.args.memos.now.own.shard.journal in
    let mid = c.steps.memos.own.shard.journal in
    let refused = c.take_step.new.memos.own.shard.journal in
    extends-then was refused c.drop_all.new.memos.own.shard.journal (extends-then was mid refused c.steps.invariant.extends c.in_ok-take_step.ensures.extends) c.drop_all.ensures.extends

pub returns-in-Refused-clause-asks : goal.returns-in-Refused-clause-asks
returns-in-Refused-clause-asks g c =
    let b = g.B.BatchName.batch in
    let opening = g.B.BatchName.opening in
    let question = c.args.question in
    let ms = c.args.memos.now.session.memo in
    let m = c.args.memos.now.own in
    let mid = c.take_step.new.memos.session.memo in
    let new_ms = c.drop_all.new.memos.session.memo in
    let new = c.drop_all.new.memos.own in
    let after = subst (IsAfterStep b opening g.H.BatchName.batch question c.args.time c.steps.memos.session.memo mid c.take_step.new.memos.own c.steps.strand c.take_step.new.strand) c.in-Refused.is c.in_ok-take_step.ensures.after in
    let who = after.0 in
    let session = asks-then b opening question.query (shards_in ms) false (shards_in c.steps.memos.session.memo) (shards_in mid) (is_session who) c.steps.invariant.session_asks after.1 in
    let was = m.shard.journal in
    let refused = c.take_step.new.memos.own.shard.journal in
    hears b opening question c.args.time ms m c.args.memos.now.filled c.requires.rests new_ms new who
    (subst (λ (z : List KeptShard). AsksOn b opening question.query (shards_in ms) false (shards_in z) (is_session who)) (sym (ap (λ (a : AskedMemo). a.memo) c.drop_all.ensures.session)) session)
    (extends-then was refused new.shard.journal (extends-then was c.steps.memos.own.shard.journal refused c.steps.invariant.extends c.in_ok-take_step.ensures.extends) c.drop_all.ensures.extends)
    (c.drop_all.ensures.leaves who after.2) true (gives-flag b opening question c.args.time mid c.take_step.new.memos.own c.take_step.new.strand who after.2)
