use Rattle.std.proofs.Common.{refl, sym, ◌∙◌, ap}
use Rattle.design.specs.Join.{delay_said, pin_said, initial_said, clock_said, clock_named}
use Rattle.design.proofs.Rereads.{say-same, say-more, say-pin}
use Rattle.design.proofs.signal_timing.SignalTiming.keep.Goals as goal

pub returns-in_ok-state-in-Delay-clause-ok : goal.returns-in_ok-state-in-Delay-clause-ok
returns-in_ok-state-in-Delay-clause-ok c = λ netlist timing before row knows number is old.
    let w = is ∙ c.in-Delay.is in
    record {
      delays = λ s. say-more netlist before row c.args.signal number _ w s delay_said _ refl _ _ (c.in_ok-state-in-Delay.ensures s) (old.delays s);
      pins = λ s k. say-same netlist before row c.args.signal number _ w s (pin_said k) refl _ (old.pins s k);
      initials = λ s. say-same netlist before row c.args.signal number _ w s initial_said refl _ (old.initials s);
      clocks = λ s. say-same netlist before row c.args.signal number _ w s (clock_said timing) refl _ (old.clocks s);
    }

pub returns-in_ok-state-in-Init-clause-ok : goal.returns-in_ok-state-in-Init-clause-ok
returns-in_ok-state-in-Init-clause-ok c = λ netlist timing before row knows number is old.
    let w = is ∙ c.in-Init.is in
    record {
      delays = λ s. say-same netlist before row c.args.signal number _ w s delay_said refl _ (old.delays s);
      pins = λ s k. say-same netlist before row c.args.signal number _ w s (pin_said k) refl _ (old.pins s k);
      initials = λ s. say-more netlist before row c.args.signal number _ w s initial_said _ refl _ _ (c.in_ok-state-in-Init.ensures s) (old.initials s);
      clocks = λ s. say-same netlist before row c.args.signal number _ w s (clock_said timing) refl _ (old.clocks s);
    }

pub returns-in_ok-insert-in-Pin-clause-ok : goal.returns-in_ok-insert-in-Pin-clause-ok
returns-in_ok-insert-in-Pin-clause-ok c = λ netlist timing before row knows number is old.
    let w = is ∙ c.in-Pin.is in
    record {
      delays = λ s. say-same netlist before row c.args.signal number _ w s delay_said refl _ (old.delays s);
      pins = λ s k. say-pin netlist before row c.args.signal number _ w s k (pin_said k) c.in-Pin.place _ refl _ _ (c.in_ok-insert-in-Pin.ensures.updates.0 (s, k)) (old.pins s k);
      initials = λ s. say-same netlist before row c.args.signal number _ w s initial_said refl _ (old.initials s);
      clocks = λ s. say-same netlist before row c.args.signal number _ w s (clock_said timing) refl _ (old.clocks s);
    }

pub returns-in_ok-state-in-Clocked-clause-ok : goal.returns-in_ok-state-in-Clocked-clause-ok
returns-in_ok-state-in-Clocked-clause-ok c = λ netlist timing before row knows number is old.
    let w = is ∙ c.in-Clocked.is in
    record {
      delays = λ s. say-same netlist before row c.args.signal number _ w s delay_said refl _ (old.delays s);
      pins = λ s k. say-same netlist before row c.args.signal number _ w s (pin_said k) refl _ (old.pins s k);
      initials = λ s. say-same netlist before row c.args.signal number _ w s initial_said refl _ (old.initials s);
      clocks = λ s. say-more netlist before row c.args.signal number _ w s (clock_said timing) _ (ap (clock_named timing) (sym c.bytes.ensures) ∙ sym (c.named.ensures timing knows) ∙ c.in-Some.is) _ _ (c.in_ok-state-in-Clocked.ensures s) (old.clocks s);
    }

pub returns-in_default-clause-ok : goal.returns-in_default-clause-ok
returns-in_default-clause-ok c = λ netlist timing before row knows number is old.
    let w = is ∙ c.in-Clocked.is in
    record {
      delays = λ s. say-same netlist before row c.args.signal number _ w s delay_said refl _ (old.delays s);
      pins = λ s k. say-same netlist before row c.args.signal number _ w s (pin_said k) refl _ (old.pins s k);
      initials = λ s. say-same netlist before row c.args.signal number _ w s initial_said refl _ (old.initials s);
      clocks = λ s. say-same netlist before row c.args.signal number _ w s (clock_said timing) (ap (clock_named timing) (sym c.bytes.ensures) ∙ sym (c.named.ensures timing knows) ∙ c.in_default.is) _ (old.clocks s);
    }
