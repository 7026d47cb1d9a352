use Rattle.std.proofs.Common.{sym, ◌∙◌}
use Rattle.std.proofs.lemmas.Slice.Eq.{slice_eq-Decides}
use Rattle.worker_gate.proofs.Places.{task_eq}
use Rattle.worker_gate.proofs.run.whole_board.Goals as goal

pub returns-then-is_whole-clause-tasks : goal.returns-then-is_whole-clause-tasks
returns-then-is_whole-clause-tasks g c =
    let d = slice_eq-Decides task_eq _ _ _ c.eq.ensures in
    let same = d.0 c.if-eq.true in
    sym (c.as_slice.ensures.value) ∙ same
