use Rattle.std.proofs.Common.{◌∙◌, sym, ap}
use Rattle.workload.specs.Draws.{next_state}
use Rattle.workload.proofs.States.{state-next}
use Rattle.workload.proofs.draws.Draws.next.Goals as goal

pub invariant_of-self-clause-stands : goal.invariant_of-self-clause-stands
invariant_of-self-clause-stands c =
    c.next_state-state.ensures.next
    ∙ ap next_state c.args.self.now.stands
    ∙ sym (state-next c.args.self.now.seed c.args.self.now.made)
