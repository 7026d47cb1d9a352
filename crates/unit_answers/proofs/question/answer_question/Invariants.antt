use Rattle.session_meaning.specs.Session.{question_batch}
use Rattle.unit_answers.specs.Stores.{setup_of, cells_of}
use Rattle.unit_answers.proofs.question.answer_question.Given as goal

abbrev pub ghosts-run_question : goal.ghosts-run_question
ghosts-run_question a = record { batch = question_batch (setup_of a.design.now a.sizes) a.question.now; opening = cells_of a.stores.items }
