use Rattle.std.proofs.Common.{◌++◌, ◌∷◌, [], sym, ap, ap₂, ◌∙◌, arith, ℕ}
use Rattle.design.specs.Join.{pin_delays}
use Rattle.design.specs.declared.rows.Row.TheVariants as row
use Rattle.design.specs.declared.signal_timing.Rows.{Rows}
use Rattle.design.specs.inner.Said.{least_of}
use Rattle.design.proofs.Places.{appended-is, inputs-few}
use Rattle.design.proofs.Rowed.{keeps-input, keeps-flop, keeps-gate}
use Rattle.design.proofs.signal_timing.SignalTiming.keep_row.Goals as goal
use Rattle.design.proofs.signal_timing.SignalTiming.keep_row.Goals.{in-Input, in-Gate+in_ok-place-in-Gate+in_ok-push-in-Gate, in-Gate-2+in_ok-start-in-Gate-2+in_ok-push_pin_delays-in-Gate-2}

pub overflow_add-kept : goal.overflow_add-kept
overflow_add-kept c =
    let before = c.requires.rows.inputs in
    let most = inputs-few c.args.netlist.now c.args.signal in
    let few = c.facts.ensures.few in
    let l = c.requires.signal in
    omega (arith, before, most, few, l)

pub returns : goal.returns
returns c =
    let netlist = c.args.netlist.now in
    let timing = c.args.timing.now in
    let s = c.args.signal in
    let old = c.args.kept.now in
    let made = c.match-row_at.kept in
    let is = c.match-row_at.row in
    let new : Rows = record { inputs = made.inputs; rows = c.push-2.new.self; delays = made.delays; flops = made.flops } in
    elim c.match-row_at.branch [
      | in-Input w ↦
          keeps-input netlist timing s old new c.requires.rows is (c.in_ok-push.ensures.items ∙ ap (λ (k : Rows). k.rows.items ++ is ∷ []) w.kept-is)
          (sym w.in-Input.ensures.driver) w.row-is (ap (λ (k : Rows). k.inputs) w.kept-is) (ap (λ (k : Rows). k.delays.items) w.kept-is) (ap (λ (k : Rows). k.flops.items) w.kept-is)
      | in-Gate+in_ok-place-in-Gate+in_ok-push-in-Gate w ↦
          keeps-flop netlist timing s old new c.requires.rows is (c.in_ok-push.ensures.items ∙ ap (λ (k : Rows). k.rows.items ++ is ∷ []) w.kept-is)
          w.in-Gate.kind w.in-Gate.pins.now (sym w.in-Gate.ensures.driver) (ap (λ (k : Rows). k.inputs) w.kept-is) (sym w.is_dff.ensures ∙ w.if-is_dff.true) w.in_ok-place-in-Gate.place w.row-is
          (w.in_ok-place-in-Gate.ensures ∙ w.len.ensures ∙ old.flops.ok.0) (ap (λ (k : Rows). k.delays.items) w.kept-is)
          (ap (λ (k : Rows). k.flops.items) w.kept-is ∙ w.in_ok-push-in-Gate.ensures.items ∙ ap (λ f. old.flops.items ++ f ∷ []) (w.flop_of.ensures netlist c.requires.stated))
      | in-Gate-2+in_ok-start-in-Gate-2+in_ok-push_pin_delays-in-Gate-2 w ↦
          let kind = w.in-Gate.kind in
          let pins = w.in-Gate.pins.now in
          let start = w.in_ok-start-in-Gate-2.ensures ∙ w.len-in-Gate-2.ensures ∙ old.delays.ok.0 in
          let delays = w.in_ok-push_pin_delays-in-Gate-2.ensures netlist c.requires.stated in
          let last = appended-is w.deref.result.now old.delays.items (pin_delays netlist timing s kind pins) w.in_ok-start-in-Gate-2.start start (w.deref.ensures.value ∙ delays) in
          keeps-gate netlist timing s old new c.requires.rows is (c.in_ok-push.ensures.items ∙ ap (λ (k : Rows). k.rows.items ++ is ∷ []) w.kept-is)
          kind pins (sym w.in-Gate.ensures.driver) (ap (λ (k : Rows). k.inputs) w.kept-is) (sym w.is_dff.ensures ∙ w.if-is_dff.false)
          (w.row-is ∙ ap₂ (λ (least : ℕ) (place : ℕ). row.Gate kind least place) (w.least_of-least.ensures ∙ ap least_of last) start) (ap (λ (k : Rows). k.delays.items) w.kept-is ∙ delays)
          (ap (λ (k : Rows). k.flops.items) w.kept-is)
    ]
