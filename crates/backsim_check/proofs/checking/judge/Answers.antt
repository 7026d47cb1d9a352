use Rattle.std.proofs.Common.{List, ℕ, subst}
use Rattle.backsim_check.specs.inner.Judged.{IsJudged}
use Rattle.backsim_check.proofs.Judged.{read-judged, stop-judged}
use Rattle.backsim_check.proofs.checking.judge.Goals as goal

pub returns-in-Ok-clause-judges : goal.returns-in-Ok-clause-judges
returns-in-Ok-clause-judges g c =
    read-judged _ _ _ c.in-Ok.inputs c.verdict_of.result c.in-Ok.ensures.reads (subst (λ (l : List ℕ). IsJudged c.in-Ok.inputs.design l c.verdict_of.result) c.deref.ensures.value c.verdict_of.ensures)

pub returns-in-Err-clause-judges : goal.returns-in-Err-clause-judges
returns-in-Err-clause-judges g c = stop-judged _ _ _ c.in-Err.stop c.verdict_on_stop.result c.in-Err.ensures.reads c.verdict_on_stop.ensures
