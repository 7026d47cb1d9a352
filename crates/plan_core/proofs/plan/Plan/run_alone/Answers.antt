use Rattle.std.proofs.Common.{refl}
use Rattle.plan_machine.proofs.Callers.{alone-start}
use Rattle.plan_core.proofs.plan.Plan.run_alone.Goals as goal

pub turns-init : goal.turns-init
turns-init g c = record {
  count = refl;
  runs = λ a h. alone-start g.B.BatchName.batch c.facts.ensures.lawful g.B.BatchName.opening c.args.number a c.args.self.now h.sound h.free h.at;
}
