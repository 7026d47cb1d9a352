use Rattle.std.proofs.Common.{◌++◌, ◌∷◌, [], ap, ap₂, ◌∙◌, sym, arith, List, ℕ, append_assoc}
use Rattle.std.specs.Prelude.{unwrap_or}
use Rattle.std.proofs.lemmas.List.FromFn.{map-range_with_len_more}
use Rattle.design.specs.Join.{pin_delay, pin_said, rows_say}
use Rattle.design.proofs.signal_timing.SignalTiming.push_pin_delays.Goals as goal

pub loop-place-preserved : goal.loop-place-preserved
loop-place-preserved c = λ netlist has.
    let timing = c.args.timing.now in
    let place = c.loop-place.place in
    let before = c.args.delays.now.items in
    let own = rows_say netlist timing.rows c.args.signal (pin_said place) in
    let is = c.pin_delay.ensures netlist timing has ∙ ap (unwrap_or own) (c.delay_of-of_gate.ensures netlist has) in
    c.in_ok-push.ensures.items ∙ ap₂ (λ (xs : List ℕ) (x : ℕ). xs ++ x ∷ []) (c.loop-place.invariant netlist has) is ∙ append_assoc before _ _
    ∙ ap (λ xs. before ++ xs) (sym (map-range_with_len_more (pin_delay netlist timing c.args.signal c.args.kind) 0 place place (omega arith)))
