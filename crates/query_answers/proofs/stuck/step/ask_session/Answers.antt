use Rattle.std.proofs.Common.{◌≡◌, true, false, sym, subst, ◌∙◌}
use Rattle.valid_intervals.specs.declared.Cell.{Cell}
use Rattle.circuit_meaning.specs.Cells.{cell_at}
use Rattle.plan_machine.specs.Settle.{charge_of, child_start}
use Rattle.plan_core.specs.Parts.{shards_in}
use Rattle.plan_core.specs.asked.Asked.{HasAsked}
use Rattle.plan_core.specs.asked.Memos.{entries_of, is_missing}
use Rattle.plan_core.proofs.Callers.{some-of}
use Rattle.query_answers.specs.stuck.Asks.{Session}
use Rattle.query_answers.proofs.AskedOn.{asked-by, starts-by}
use Rattle.query_answers.proofs.Steps.{step-asks, step-starts, step-cell, step-session, step-kept, step-heard, step-refused}
use Rattle.query_answers.proofs.stuck.step.ask_session.Goals as goal

pub cell-requires-clause-point : goal.cell-requires-clause-point
cell-requires-clause-point g c =
    let asks = step-asks g.B.BatchName.batch g.H.BatchName.batch g.B.BatchName.opening c.args.question g.B.BatchName.batch.circuit c.args.held.design.now.circuit c.requires.asked
    c.args.time c.args.memos.now.session.memo c.args.memos.now.own c.args.strand.now c.requires.asks c.facts.ensures c.args.p c.requires.next in
    record { signal = asks.signal; time = asks.time }

pub cell-requires-clause-start : goal.cell-requires-clause-start
cell-requires-clause-start g c = λ e.
    starts-by g.B.BatchName.batch g.B.BatchName.opening c.args.memos.now.session c.args.p c.args.question.query c.requires.query
    (step-starts g.B.BatchName.batch g.H.BatchName.batch g.B.BatchName.opening c.args.question g.B.BatchName.batch.circuit c.args.held.design.now.circuit c.requires.asked
    c.args.time c.args.memos.now.session.memo c.args.memos.now.own c.args.strand.now c.requires.asks c.facts.ensures c.args.p c.requires.next c.requires.free e)

pub hear-requires : goal.hear-requires
hear-requires g c = record {
  answer = (
    c.args.p,
    c.requires.next,
    some-of (λ (x : Cell). x ≡ cell_at g.B.BatchName.batch.circuit c.args.p) c.in_ok-cell.field-0 c.in-Some.cell c.in_ok-cell.ensures.cell c.in-Some.is
        ∙ sym (step-cell g.B.BatchName.batch g.H.BatchName.batch g.B.BatchName.opening c.args.question g.B.BatchName.batch.circuit c.args.held.design.now.circuit c.requires.asked
        c.args.time c.args.memos.now.session.memo c.args.memos.now.own c.args.strand.now c.requires.asks c.facts.ensures c.args.p c.requires.next c.requires.free),
  );
}

pub returns-in-Some-clause-after : goal.returns-in-Some-clause-after
returns-in-Some-clause-after g c =
    let b = g.B.BatchName.batch in
    let q = c.args.question.query in
    let mid = c.args.memos.now.session in
    let new = c.cell.new.self in
    let h = subst (λ o. HasAsked b g.B.BatchName.opening (child_start q c.args.p (charge_of (entries_of mid.memo) q)) (shards_in mid.memo) (shards_in new.memo) (is_missing o)) c.in-Some.is
    (asked-by b g.B.BatchName.opening mid (shards_in new.memo) (is_missing c.in_ok-cell.field-0) c.args.p q c.requires.query c.in_ok-cell.ensures.asked) in (
      step-session g.B.BatchName.batch g.H.BatchName.batch g.B.BatchName.opening c.args.question g.B.BatchName.batch.circuit c.args.held.design.now.circuit c.requires.asked
          c.args.time c.args.memos.now.session.memo c.args.memos.now.own c.args.strand.now c.requires.asks c.facts.ensures c.args.p c.requires.next c.requires.free new.memo false h,
      step-heard g.B.BatchName.batch g.H.BatchName.batch g.B.BatchName.opening c.args.question g.B.BatchName.batch.circuit c.args.held.design.now.circuit c.requires.asked
          c.args.time c.args.memos.now.session.memo c.args.memos.now.own c.args.strand.now c.requires.asks c.facts.ensures c.args.p c.requires.next c.requires.free new.memo h c.hear.new.self c.hear.ensures,
    )

pub returns-in-None-clause-after : goal.returns-in-None-clause-after
returns-in-None-clause-after g c =
    let b = g.B.BatchName.batch in
    let q = c.args.question.query in
    let mid = c.args.memos.now.session in
    let new = c.cell.new.self in
    let h = subst (λ o. HasAsked b g.B.BatchName.opening (child_start q c.args.p (charge_of (entries_of mid.memo) q)) (shards_in mid.memo) (shards_in new.memo) (is_missing o)) c.in-None.is
    (asked-by b g.B.BatchName.opening mid (shards_in new.memo) (is_missing c.in_ok-cell.field-0) c.args.p q c.requires.query c.in_ok-cell.ensures.asked) in (
      Session,
      step-session g.B.BatchName.batch g.H.BatchName.batch g.B.BatchName.opening c.args.question g.B.BatchName.batch.circuit c.args.held.design.now.circuit c.requires.asked
          c.args.time c.args.memos.now.session.memo c.args.memos.now.own c.args.strand.now c.requires.asks c.facts.ensures c.args.p c.requires.next c.requires.free new.memo true h,
      step-refused g.B.BatchName.batch g.H.BatchName.batch g.B.BatchName.opening c.args.question g.B.BatchName.batch.circuit c.args.held.design.now.circuit c.requires.asked
          c.args.time c.args.memos.now.session.memo c.args.memos.now.own c.args.strand.now c.requires.asks c.facts.ensures c.args.p c.requires.next c.requires.free new.memo h c.give_up.new.self c.give_up.ensures,
    )

pub returns-in-Some-clause-kept_session : goal.returns-in-Some-clause-kept_session
returns-in-Some-clause-kept_session g c =
    let b = g.B.BatchName.batch in
    let q = c.args.question.query in
    let mid = c.args.memos.now.session in
    let new = c.cell.new.self in
    let h = subst (λ o. HasAsked b g.B.BatchName.opening (child_start q c.args.p (charge_of (entries_of mid.memo) q)) (shards_in mid.memo) (shards_in new.memo) (is_missing o)) c.in-Some.is
    (asked-by b g.B.BatchName.opening mid (shards_in new.memo) (is_missing c.in_ok-cell.field-0) c.args.p q c.requires.query c.in_ok-cell.ensures.asked) in
    step-kept g.B.BatchName.batch g.H.BatchName.batch g.B.BatchName.opening c.args.question g.B.BatchName.batch.circuit c.args.held.design.now.circuit c.requires.asked
    c.args.time c.args.memos.now.session.memo c.args.memos.now.own c.args.strand.now c.requires.asks c.facts.ensures c.args.p c.requires.next c.requires.free new.memo false h

pub returns-in-None-clause-kept_session : goal.returns-in-None-clause-kept_session
returns-in-None-clause-kept_session g c =
    let b = g.B.BatchName.batch in
    let q = c.args.question.query in
    let mid = c.args.memos.now.session in
    let new = c.cell.new.self in
    let h = subst (λ o. HasAsked b g.B.BatchName.opening (child_start q c.args.p (charge_of (entries_of mid.memo) q)) (shards_in mid.memo) (shards_in new.memo) (is_missing o)) c.in-None.is
    (asked-by b g.B.BatchName.opening mid (shards_in new.memo) (is_missing c.in_ok-cell.field-0) c.args.p q c.requires.query c.in_ok-cell.ensures.asked) in
    step-kept g.B.BatchName.batch g.H.BatchName.batch g.B.BatchName.opening c.args.question g.B.BatchName.batch.circuit c.args.held.design.now.circuit c.requires.asked
    c.args.time c.args.memos.now.session.memo c.args.memos.now.own c.args.strand.now c.requires.asks c.facts.ensures c.args.p c.requires.next c.requires.free new.memo true h
