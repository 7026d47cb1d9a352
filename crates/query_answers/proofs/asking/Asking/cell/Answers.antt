use Rattle.plan_core.specs.Parts.{shards_in}
use Rattle.plan_core.specs.asked.Memos.{is_missing}
use Rattle.query_answers.proofs.AskedOn.{asked-as}
use Rattle.query_answers.proofs.asking.Asking.cell.Goals as goal

pub returns-in-Ok-clause-asked : goal.returns-in-Ok-clause-asked
returns-in-Ok-clause-asked g c =
    asked-as g.B.BatchName.batch g.B.BatchName.opening c.self.inside.memo c.self.inside.query c.self.inside.charge c.args.self.now c.self.view_is c.self.invariant.counts
    c.in-Some.memo c.in-Some.is (shards_in c.reach.new.memo) (is_missing c.in-Ok.found) c.args.p c.in-Ok.ensures.asked
