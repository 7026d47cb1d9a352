use Rattle.std.proofs.Common.{◌+◌, subst, sym}
use Rattle.plan_core.proofs.Chains.{IsDoubled, doubled-more, doubled-same}
use Rattle.plan_core.proofs.asked.places.chains_for.Goals as goal
use Rattle.plan_core.proofs.asked.places.chains_for.Goals.{then-chains-entries, else-chains-entries}

pub loop-step-preserved : goal.loop-step-preserved
loop-step-preserved c =
    let entries = c.args.entries in
    let step = c.loop-step._step in
    let chains = c.loop-step.chains in
    elim c.if-chains-entries.branch [
      | then-chains-entries w ↦ subst (IsDoubled entries (step + 1)) (sym w.chains-is) (doubled-more entries step chains c.loop-step.invariant w.if-chains-entries.true)
      | else-chains-entries w ↦ subst (IsDoubled entries (step + 1)) (sym w.chains-is) (doubled-same entries step chains c.loop-step.invariant w.if-chains-entries.false)
    ]
