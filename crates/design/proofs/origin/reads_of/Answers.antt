use Rattle.std.proofs.Common.{ap, sym, subst, ◌∙◌}
use Rattle.circuit_meaning.specs.Circuit.{read_by}
use Rattle.design.specs.inner.KeptDesigns.{FitsFrom, driver_seen}
use Rattle.design.proofs.Answered.{signals-pins_with}
use Rattle.design.proofs.origin.reads_of.Goals as goal

pub returns-in-Gate : goal.returns-in-Gate
returns-in-Gate c =
    let fits = subst FitsFrom c.in-Gate.is c.requires in
    sym (ap (λ v. read_by (driver_seen v)) c.in-Gate.is ∙ signals-pins_with c.in-Gate.signals.now c.in-Gate.delays.now fits.0)

pub returns-in-Flop : goal.returns-in-Flop
returns-in-Flop c =
    let fits = subst FitsFrom c.in-Flop.is c.requires in
    fits ∙ sym (ap (λ v. read_by (driver_seen v)) c.in-Flop.is)
