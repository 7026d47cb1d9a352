use Rattle.plan_core.proofs.Callers.{numbered}
use Rattle.unit_answers.specs.Stores.{setup_of}
use Rattle.unit_answers.proofs.Questions.{question-done}
use Rattle.unit_answers.proofs.Running.{fresh-free}
use Rattle.unit_answers.proofs.question.run_question.Goals as goal

pub ask-requires-clause-numbers : goal.ask-requires-clause-numbers
ask-requires-clause-numbers g c = numbered c.in_ok-begun.begun.items c.in_ok-begun.ensures.order

pub end_all-requires : goal.end_all-requires
end_all-requires g c = fresh-free g.B.BatchName.batch g.B.BatchName.opening c.in_ok-answered.answered.shards.items c.in_ok-answered.ensures.fresh

pub returns-clause-done : goal.returns-clause-done
returns-clause-done g c =
    let answered = c.in_ok-answered.answered in
    let right = c.in_ok-answered.ensures in
    question-done (setup_of c.args.design.now c.args.sizes) c.args.question.now answered.reply answered.own_lists.items g.B.BatchName.batch g.B.BatchName.opening c.args.stores.items c.requires.stores.sized c.requires.named
    answered.shards.items c.in_ok-lists.lists.items c.in_ok-lists.stores.items right.fresh right.memo right.right c.in_ok-lists.ensures
