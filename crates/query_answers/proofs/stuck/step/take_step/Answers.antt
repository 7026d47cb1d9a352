use Rattle.std.proofs.Common.{◌<◌, length, sym, ap, subst, ◌∙◌, true≢false}
use Rattle.circuit_meaning.specs.Circuit.{Circuit}
use Rattle.circuit_meaning.specs.Need.{IsInCone}
use Rattle.plan_core.specs.asked.Asked.{Nothing}
use Rattle.query_answers.specs.asking.inner.AskedMemos.{AskedMemo}
use Rattle.query_answers.proofs.Steps.{step-asks, step-same, asks-same, ok-of, session-kept, extends-none, own-extends}
use Rattle.query_answers.proofs.stuck.step.take_step.Goals as goal

pub step_own-requires-clause-asks : goal.step_own-requires-clause-asks
step_own-requires-clause-asks g c = asks-same g.B.BatchName.batch g.B.BatchName.opening c.args.question c.args.time c.args.memos.now.session.memo c.args.memos.now.own c.args.strand.now c.next_step.new.self c.next_step.ensures.steps c.requires.asks

pub is_reached-requires-clause-site : goal.is_reached-requires-clause-site
is_reached-requires-clause-site g c =
    subst (λ (z : Circuit). c.args.question.site < length z.drivers) (sym c.requires.asked.circuit) c.requires.asked.signal

pub is_reached-requires-clause-signal : goal.is_reached-requires-clause-signal
is_reached-requires-clause-signal g c =
    let asks = asks-same g.B.BatchName.batch g.B.BatchName.opening c.args.question c.args.time c.args.memos.now.session.memo c.args.memos.now.own c.args.strand.now c.next_step.new.self c.next_step.ensures.steps c.requires.asks in
    let k = (step-asks g.B.BatchName.batch g.H.BatchName.batch g.B.BatchName.opening c.args.question c.args.design.now.circuit c.args.held.design.now.circuit c.requires.asked
    c.args.time c.args.memos.now.session.memo c.args.memos.now.own c.next_step.new.self asks c.facts.ensures c.in-Ask.p (sym c.next_step.ensures.next ∙ c.in-Ask.is)).signal in
    subst (λ (z : Circuit). c.in-Ask.p.signal < length z.drivers) (sym c.requires.asked.circuit) k

pub step_own-requires-then-is_reached-clause-asks : goal.step_own-requires-then-is_reached-clause-asks
step_own-requires-then-is_reached-clause-asks g c = asks-same g.B.BatchName.batch g.B.BatchName.opening c.args.question c.args.time c.args.memos.now.session.memo c.args.memos.now.own c.args.strand.now c.next_step.new.self c.next_step.ensures.steps c.requires.asks

pub step_own-requires-then-is_reached-clause-own : goal.step_own-requires-then-is_reached-clause-own
step_own-requires-then-is_reached-clause-own g c free =
    free (subst (λ (z : Circuit). IsInCone z c.in-Ask.p.signal c.args.question.site) c.requires.asked.circuit (c.in_ok-is_reached-in-Ask.ensures.reached.0 c.if-is_reached.true))

pub ask_session-requires-clause-asks : goal.ask_session-requires-clause-asks
ask_session-requires-clause-asks g c = asks-same g.B.BatchName.batch g.B.BatchName.opening c.args.question c.args.time c.args.memos.now.session.memo c.args.memos.now.own c.args.strand.now c.next_step.new.self c.next_step.ensures.steps c.requires.asks

pub ask_session-requires-clause-free : goal.ask_session-requires-clause-free
ask_session-requires-clause-free g c cone =
    true≢false (sym (c.in_ok-is_reached-in-Ask.ensures.reached.1 (subst (λ (z : Circuit). IsInCone z c.in-Ask.p.signal c.args.question.site) (sym c.requires.asked.circuit) cone)) ∙ c.if-is_reached.false)

pub returns-in-Done-clause-after : goal.returns-in-Done-clause-after
returns-in-Done-clause-after g c = (
  Nothing,
  record {
    asks = asks-same g.B.BatchName.batch g.B.BatchName.opening c.args.question c.args.time c.args.memos.now.session.memo c.args.memos.now.own c.args.strand.now c.next_step.new.self c.next_step.ensures.steps c.requires.asks;
    done = sym c.next_step.ensures.next ∙ c.in-Done.is;
  },
)

pub returns-then-is_reached-clause-kept_session : goal.returns-then-is_reached-clause-kept_session
returns-then-is_reached-clause-kept_session g c = ok-of c.step_own-then-is_reached.result _ (session-kept c.args.memos.now.session.memo c.step_own-then-is_reached.new.memos.session.memo (ap (λ (a : AskedMemo). a.memo) c.step_own-then-is_reached.ensures.session))

pub returns-in-Fill-clause-kept_session : goal.returns-in-Fill-clause-kept_session
returns-in-Fill-clause-kept_session g c = ok-of c.step_own.result _ (session-kept c.args.memos.now.session.memo c.step_own.new.memos.session.memo (ap (λ (a : AskedMemo). a.memo) c.step_own.ensures.session))

pub returns-in-Fill-clause-after : goal.returns-in-Fill-clause-after
returns-in-Fill-clause-after g c = step-same g.B.BatchName.batch g.B.BatchName.opening g.H.BatchName.batch c.args.question c.args.time c.args.memos.now.session.memo c.step_own.new.memos.session.memo c.step_own.new.memos.own c.args.strand.now c.next_step.new.self c.step_own.new.strand c.next_step.ensures.steps c.step_own.result c.step_own.ensures.after

pub returns-then-is_reached-clause-after : goal.returns-then-is_reached-clause-after
returns-then-is_reached-clause-after g c = step-same g.B.BatchName.batch g.B.BatchName.opening g.H.BatchName.batch c.args.question c.args.time c.args.memos.now.session.memo c.step_own-then-is_reached.new.memos.session.memo c.step_own-then-is_reached.new.memos.own c.args.strand.now c.next_step.new.self c.step_own-then-is_reached.new.strand c.next_step.ensures.steps c.step_own-then-is_reached.result c.step_own-then-is_reached.ensures.after

pub returns-else-is_reached-clause-after : goal.returns-else-is_reached-clause-after
returns-else-is_reached-clause-after g c = step-same g.B.BatchName.batch g.B.BatchName.opening g.H.BatchName.batch c.args.question c.args.time c.args.memos.now.session.memo c.ask_session.new.memos.session.memo c.ask_session.new.memos.own c.args.strand.now c.next_step.new.self c.ask_session.new.strand c.next_step.ensures.steps c.ask_session.result c.ask_session.ensures.after

pub returns-else-is_reached-clause-extends : goal.returns-else-is_reached-clause-extends
returns-else-is_reached-clause-extends g c = ok-of c.ask_session.result _ (own-extends c.args.memos.now.own c.ask_session.new.memos.own c.ask_session.ensures.own)

pub returns-in-Done-clause-extends : goal.returns-in-Done-clause-extends
returns-in-Done-clause-extends g c = extends-none c.args.memos.now.own.shard.journal
