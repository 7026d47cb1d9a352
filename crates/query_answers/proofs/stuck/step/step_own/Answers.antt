use Rattle.std.proofs.Common.{subst, Ok}
use Rattle.memo_shards.specs.Steps.{OfStep}
use Rattle.plan_core.specs.asked.Asked.{Nothing}
use Rattle.query_answers.specs.stuck.Asks.{Own}
use Rattle.query_answers.proofs.Steps.{own-heard, own-holds, own-filled, own-waits, own-spent}
use Rattle.query_answers.proofs.stuck.step.step_own.Goals as goal
use Rattle.query_answers.proofs.stuck.step.step_own.Goals.{in-Heard, in-Holds, in-Filled, in-Refused+in-Some+in_ok-spend-in-Refused}

pub unreachable-requires-in-Taken : goal.unreachable-requires-in-Taken
unreachable-requires-in-Taken g c =
    own-waits g.B.BatchName.batch g.H.BatchName.batch g.B.BatchName.opening c.args.question c.args.design.now.circuit c.args.held.design.now.circuit c.requires.asked
    c.args.time c.args.memos.now.session.memo c.args.memos.now.own c.args.strand.now c.requires.asks c.facts.ensures c.args.next c.requires.next c.requires.own
    c.step.new.self c.step.new.strand (subst (λ z. OfStep g.H.BatchName.batch c.args.memos.now.own c.step.new.self c.args.next c.args.strand.now c.step.new.strand (Ok z)) c.in-Taken.is c.in_ok-step.ensures)

pub returns-clause-after : goal.returns-clause-after
returns-clause-after g c = elim c.match-branch-2.branch [
  | in-Heard w ↦ rw (w.memos-is, w.result-is) (
    Nothing,
    (own-heard g.B.BatchName.batch g.H.BatchName.batch g.B.BatchName.opening c.args.question c.args.design.now.circuit c.args.held.design.now.circuit c.requires.asked
        c.args.time c.args.memos.now.session.memo c.args.memos.now.own c.args.strand.now c.requires.asks c.facts.ensures c.args.next c.requires.next c.requires.own
        c.step.new.self c.step.new.strand (subst (λ z. OfStep g.H.BatchName.batch c.args.memos.now.own c.step.new.self c.args.next c.args.strand.now c.step.new.strand (Ok z)) w.in-Heard.is c.in_ok-step.ensures)).0,
  )
  | in-Holds w ↦ rw (w.memos-is, w.result-is) (
    Nothing,
    (own-holds g.B.BatchName.batch g.H.BatchName.batch g.B.BatchName.opening c.args.question c.args.design.now.circuit c.args.held.design.now.circuit c.requires.asked
        c.args.time c.args.memos.now.session.memo c.args.memos.now.own c.args.strand.now c.requires.asks c.facts.ensures c.args.next c.requires.next c.requires.own
        c.step.new.self c.step.new.strand (subst (λ z. OfStep g.H.BatchName.batch c.args.memos.now.own c.step.new.self c.args.next c.args.strand.now c.step.new.strand (Ok z)) w.in-Holds.is c.in_ok-step.ensures)).0,
  )
  | in-Filled w ↦ rw (w.memos-is, w.result-is) (
    Nothing,
    (own-filled g.B.BatchName.batch g.H.BatchName.batch g.B.BatchName.opening c.args.question c.args.design.now.circuit c.args.held.design.now.circuit c.requires.asked
        c.args.time c.args.memos.now.session.memo c.args.memos.now.own c.args.strand.now c.requires.asks c.facts.ensures c.args.next c.requires.next c.requires.own
        c.step.new.self c.step.new.strand w.in-Filled.field-0.items (subst (λ z. OfStep g.H.BatchName.batch c.args.memos.now.own c.step.new.self c.args.next c.args.strand.now c.step.new.strand (Ok z)) w.in-Filled.is c.in_ok-step.ensures)).0,
  )
  | in-Refused+in-Some+in_ok-spend-in-Refused w ↦ rw (w.memos-is, w.result-is) (
    Own w.in-Some.p,
    Nothing,
    (own-spent g.B.BatchName.batch g.H.BatchName.batch g.B.BatchName.opening c.args.question c.args.design.now.circuit c.args.held.design.now.circuit c.requires.asked
        c.args.time c.args.memos.now.session.memo c.args.memos.now.own c.args.strand.now c.requires.asks c.facts.ensures c.args.next c.requires.next c.requires.own
        c.step.new.self c.step.new.strand (subst (λ z. OfStep g.H.BatchName.batch c.args.memos.now.own c.step.new.self c.args.next c.args.strand.now c.step.new.strand (Ok z)) w.in-Refused.is c.in_ok-step.ensures) w.in-Some.p w.in-Some.ensures.some.1 w.spend.new.self w.in_ok-spend-in-Refused.ensures.ok).0,
  )
]

pub returns-clause-extends : goal.returns-clause-extends
returns-clause-extends g c = elim c.match-branch-2.branch [
  | in-Heard w ↦ rw (w.memos-is, w.result-is) ((own-heard g.B.BatchName.batch g.H.BatchName.batch g.B.BatchName.opening c.args.question c.args.design.now.circuit c.args.held.design.now.circuit c.requires.asked
      c.args.time c.args.memos.now.session.memo c.args.memos.now.own c.args.strand.now c.requires.asks c.facts.ensures c.args.next c.requires.next c.requires.own
      c.step.new.self c.step.new.strand (subst (λ z. OfStep g.H.BatchName.batch c.args.memos.now.own c.step.new.self c.args.next c.args.strand.now c.step.new.strand (Ok z)) w.in-Heard.is c.in_ok-step.ensures)).1)
  | in-Holds w ↦ rw (w.memos-is, w.result-is) ((own-holds g.B.BatchName.batch g.H.BatchName.batch g.B.BatchName.opening c.args.question c.args.design.now.circuit c.args.held.design.now.circuit c.requires.asked
      c.args.time c.args.memos.now.session.memo c.args.memos.now.own c.args.strand.now c.requires.asks c.facts.ensures c.args.next c.requires.next c.requires.own
      c.step.new.self c.step.new.strand (subst (λ z. OfStep g.H.BatchName.batch c.args.memos.now.own c.step.new.self c.args.next c.args.strand.now c.step.new.strand (Ok z)) w.in-Holds.is c.in_ok-step.ensures)).1)
  | in-Filled w ↦ rw (w.memos-is, w.result-is) ((own-filled g.B.BatchName.batch g.H.BatchName.batch g.B.BatchName.opening c.args.question c.args.design.now.circuit c.args.held.design.now.circuit c.requires.asked
      c.args.time c.args.memos.now.session.memo c.args.memos.now.own c.args.strand.now c.requires.asks c.facts.ensures c.args.next c.requires.next c.requires.own
      c.step.new.self c.step.new.strand w.in-Filled.field-0.items (subst (λ z. OfStep g.H.BatchName.batch c.args.memos.now.own c.step.new.self c.args.next c.args.strand.now c.step.new.strand (Ok z)) w.in-Filled.is c.in_ok-step.ensures)).1)
  | in-Refused+in-Some+in_ok-spend-in-Refused w ↦ rw (w.memos-is, w.result-is) ((own-spent g.B.BatchName.batch g.H.BatchName.batch g.B.BatchName.opening c.args.question c.args.design.now.circuit c.args.held.design.now.circuit c.requires.asked
      c.args.time c.args.memos.now.session.memo c.args.memos.now.own c.args.strand.now c.requires.asks c.facts.ensures c.args.next c.requires.next c.requires.own
      c.step.new.self c.step.new.strand (subst (λ z. OfStep g.H.BatchName.batch c.args.memos.now.own c.step.new.self c.args.next c.args.strand.now c.step.new.strand (Ok z)) w.in-Refused.is c.in_ok-step.ensures) w.in-Some.p w.in-Some.ensures.some.1 w.spend.new.self w.in_ok-spend-in-Refused.ensures.ok).1)
]
