use Rattle.unit_answers.specs.Stores.{setup_of, cells_of}
use Rattle.unit_answers.specs.inner.Runs.{asks}
use Rattle.unit_answers.proofs.batch.answer_batch.Given as goal

abbrev pub ghosts-run_batch : goal.ghosts-run_batch
ghosts-run_batch g a = record { batch = asks (setup_of a.design.now a.sizes) a.queries.now; opening = cells_of a.stores.items }
