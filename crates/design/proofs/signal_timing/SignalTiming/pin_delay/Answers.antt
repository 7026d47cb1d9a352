use Rattle.std.proofs.Common.{ap, ◌∙◌}
use Rattle.std.specs.Prelude.{unwrap_or}
use Rattle.design.proofs.signal_timing.SignalTiming.pin_delay.Goals as goal

pub returns : goal.returns
returns c = λ netlist timing has. c.unwrap_or.ensures ∙ ap (λ o. unwrap_or o c.args.of_gate) (c.stated_pin.ensures ∙ has.pins c.args.signal c.args.place)
