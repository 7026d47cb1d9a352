use Rattle.std.proofs.Common.{◌≡◌, IfSome, sym, subst, ◌∙◌}
use Rattle.design.specs.Joined.{Joined}
use Rattle.unit_answers.specs.Done.{IsQuestionDone}
use Rattle.unit_answers.specs.Stores.{setup_of, AreStores}
use Rattle.session_loop.proofs.question.ask.Goals as goal

-- the design that is asked is the session's
pub answer_question-requires : goal.answer_question-requires
answer_question-requires c = record { suits = c.requires.suits; stores = subst (λ (d : Joined). AreStores (setup_of d c.args.service.now.sizes) c.args.stores.items) (sym c.new-design.ensures) c.requires.stores }

pub returns-clause-done : goal.returns-clause-done
returns-clause-done c =
    let done = c.in_ok-done.done in
    subst (λ (d : Joined). IsQuestionDone (setup_of d c.args.service.now.sizes) c.args.question.now c.args.stores.items
    done.reply done.lists.items done.own_lists.items done.stores.items) c.new-design.ensures c.in_ok-done.ensures.done

pub returns-clause-site : goal.returns-clause-site
returns-clause-site c =
    subst (λ (d : Joined). IfSome c.into_last.result (λ (last : Joined). last ≡ d)) (c.answer_question.ensures.design ∙ c.new-design.ensures) c.into_last.ensures
