use Rattle.std.proofs.Common.{List, sym, subst}
use Rattle.journal_meaning.specs.declared.Entry.{Entry}
use Rattle.journal_meaning.specs.Sections.{of_batch}
use Rattle.circuit_meaning.specs.Circuit.{Circuit}
use Rattle.plan_machine.specs.Settle.{entries_in}
use Rattle.plan_core.specs.Parts.{shards_in}
use Rattle.query_lines.specs.declared.line.Asks.TheVariants as kinds
use Rattle.reply_lines.specs.declared.reply.QuestionReply.TheVariants as told
use Rattle.session_meaning.specs.declared.Verdict.TheVariants.{Ask}
use Rattle.session_meaning.specs.FirstTimes.{IsFirstOutcome}
use Rattle.session_meaning.specs.Explanations.{IsExplained}
use Rattle.unit_answers.proofs.Asking.{right-by, memo-by, one-time, why-outcome}
use Rattle.unit_answers.proofs.question.ask.Goals as goal

pub explain-requires-clause-window : goal.explain-requires-clause-window
explain-requires-clause-window g c = one-time c.args.design.now c.args.question.now c.args.asked.query c.requires.asked.query c.in-Why.is c.requires.suits

pub returns-in_ok-found-in-First-clause-right : goal.returns-in_ok-found-in-First-clause-right
returns-in_ok-found-in-First-clause-right g c =
    let d = c.args.design.now in
    let value = c.in-First.value in
    let found = c.in_ok-found-in-First.found in
    let es : List Entry = entries_in (shards_in found.shards.items) in
    right-by d c.args.question.now (kinds.First value) c.in-First.is (Ask c.args.asked.query) c.requires.asked.query es (of_batch c.new.result.items) (told.First found.outcome)
    (subst (λ (z : Circuit). IsFirstOutcome z es value (Ask c.args.asked.query) found.outcome) (sym c.requires.design) c.in_ok-found-in-First.ensures.outcome)

pub returns-in_ok-found-in-First-clause-memo : goal.returns-in_ok-found-in-First-clause-memo
returns-in_ok-found-in-First-clause-memo g c =
    memo-by c.args.design.now c.args.question.now (kinds.First c.in-First.value) c.in-First.is (Ask c.args.asked.query) c.requires.asked.query c.new.result.items c.new.ensures.items

pub returns-in_ok-found-in-Why-clause-right : goal.returns-in_ok-found-in-Why-clause-right
returns-in_ok-found-in-Why-clause-right g c =
    let d = c.args.design.now in
    let question = c.args.question.now in
    let q = c.args.asked.query in
    let is = c.requires.asked.query in
    let found = c.in_ok-found-in-Why.found in
    let es : List Entry = entries_in (shards_in found.shards.items) in
    right-by d question kinds.Why c.in-Why.is (Ask q) is es (of_batch c.new-in-Why.result.items) (told.Why found.outcome)
    (why-outcome d question q is es (one-time d question q is c.in-Why.is c.requires.suits) found.outcome
    (subst (λ (z : Circuit). IsExplained z es (Ask q) found.outcome) (sym c.requires.design) c.in_ok-found-in-Why.ensures.outcome))

pub returns-in_ok-found-in-Why-clause-memo : goal.returns-in_ok-found-in-Why-clause-memo
returns-in_ok-found-in-Why-clause-memo g c =
    memo-by c.args.design.now c.args.question.now kinds.Why c.in-Why.is (Ask c.args.asked.query) c.requires.asked.query c.new-in-Why.result.items c.new-in-Why.ensures.items
