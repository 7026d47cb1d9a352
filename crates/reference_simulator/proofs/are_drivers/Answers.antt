use Rattle.std.proofs.Common.{refl, arith}
use Rattle.reference_simulator.proofs.Elements.{drivers-fit, driver-fits}
use Rattle.reference_simulator.proofs.are_drivers.Goals as goal

pub returns-then-not-is_driver : goal.returns-then-not-is_driver
returns-then-not-is_driver c = (
  λ e. absurd (cc e),
  λ ok.
      let fits = driver-fits c.args.horizon c.args.elements.now c.loop-element.element-index c.element-item.result (omega arith) c.element-item.is ok in
      let yes = c.is_driver.ensures.1 fits in
      let no = c.if-not-is_driver.true in
      absurd (cc (yes, no)),
)

pub returns : goal.returns
returns c = (λ e. drivers-fit c.args.horizon c.args.elements.now (λ k d l. c.loop-element.invariant k d (omega arith)), λ ok. refl)
