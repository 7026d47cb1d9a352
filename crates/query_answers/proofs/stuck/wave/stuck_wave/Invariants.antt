use Rattle.std.proofs.Common.{[]}
use Rattle.session_meaning.specs.StuckSignals.{held_batch}
use Rattle.query_answers.specs.stuck.inner.Both.{site_in}
use Rattle.query_answers.proofs.stuck.wave.stuck_wave.Given as goal

abbrev pub ghosts-answer : goal.ghosts-answer
ghosts-answer g a = record { batch = held_batch g.B.BatchName.batch.circuit (site_in a.question) a.question.query; opening = λ _. [] }
