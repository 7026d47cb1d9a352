use Rattle.std.proofs.Common.{refl, subst, ◌∙◌, ap, map}
use Rattle.design.specs.Joined.{Joined, IsDesign}
use Rattle.unit_answers.specs.Stores.{setup_of}
use Rattle.unit_answers.specs.inner.Asked.{IsAsked, IsUnasked}
use Rattle.unit_answers.proofs.Asking.{question-lawful}
use Rattle.unit_answers.proofs.Questions.{none_for, unasked-done}
use Rattle.unit_answers.proofs.question.answer_question.Goals as goal

pub run_question-requires-clause-named : goal.run_question-requires-clause-named
run_question-requires-clause-named c =
    let question = c.args.question.now in
    record {
      batch = refl;
      opens = refl;
      lawful = question-lawful (setup_of c.args.design.now c.args.sizes) question c.in-Ask.asked
          (subst (λ (d : Joined). IsAsked d question c.in-Ask.asked) c.design-plain.ensures c.in-Ask.ensures) (subst IsDesign c.design-plain.ensures c.facts.ensures) c.requires.stores.sized;
    }

-- nothing is asked
pub returns-in_ok-lists-in-Tell-clause-done : goal.returns-in_ok-lists-in-Tell-clause-done
returns-in_ok-lists-in-Tell-clause-done c =
    let question = c.args.question.now in
    unasked-done (setup_of c.args.design.now c.args.sizes) question c.args.stores.items c.in-Tell.reply c.in_ok-lists-in-Tell.lists.items c.new.result.items c.requires.stores
    (subst (λ (d : Joined). IsUnasked d question c.in-Tell.reply) c.design-plain.ensures c.in-Tell.ensures)
    (c.in_ok-lists-in-Tell.ensures ∙ ap (map none_for) c.deref.ensures.value) c.new.ensures.items
