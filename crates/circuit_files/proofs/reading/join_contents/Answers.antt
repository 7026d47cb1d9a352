use Rattle.std.proofs.lemmas.Result.{err_from_is_err_and}
use Rattle.circuit_files.proofs.Contents.{refuses}
use Rattle.circuit_files.proofs.Designed.{join_refused}
use Rattle.circuit_files.proofs.reading.join_contents.Goals as goal

pub returns-in_err-join-clause-answer : goal.returns-in_err-join-clause-answer
returns-in_err-join-clause-answer c =
    let p = err_from_is_err_and c.from_residual.result c.from_residual.ensures.1 in
    rw p.1 (refuses _ _ p.0 _ p.2 (join_refused _ _ _ c.in_err-join.field-0.0 c.in_err-join.ensures))
