use Rattle.std.proofs.Common.{ap₂, List}
use Rattle.design.specs.declared.held.HeldSignal.{HeldSignal}
use Rattle.design.specs.Joined.{Joined}
use Rattle.design.specs.inner.HeldSignals.{held_design}
use Rattle.design.proofs.design.Design.of.Goals as goal

pub returns : goal.returns
returns c = ap₂ (λ (j : Joined) (xs : List HeldSignal). held_design j xs) c.in_ok-new.ensures.ok c.new-2.ensures.items
