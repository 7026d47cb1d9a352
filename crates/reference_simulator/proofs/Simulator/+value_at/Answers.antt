use Rattle.std.proofs.Common.{◌≡◌, Some, None, ap, ◌∙◌, arith, [], ◌∷◌, ◌<◌, length, get_or, length-set}
use Rattle.circuit_meaning.specs.Forward.{value, seen_value}
use Rattle.reference_simulator.proofs.Elements.{at-input, at-flop, flop-calls, at-gate, few-pins, see-more, see-all, seen-late, seen-early}
use Rattle.gate_values.specs.Gates.{only}
use Rattle.reference_simulator.proofs.Simulator.+value_at.Goals as goal
use Rattle.reference_simulator.proofs.Simulator.+value_at.Goals.{then-pin-time, else-pin-time}

pub returns-in-None : goal.returns-in-None
returns-in-None t c =
    at-input c.args.self.now c.element.ensures.circuit c.args.signal c.args.time c.element.result.now c.element.ensures.driver
    c.in-Input.settings c.in-Input.is c.deref.result.now c.deref.ensures.value c.setting_at.result None c.setting_at.ensures c.in-None.is

pub returns-in-Some : goal.returns-in-Some
returns-in-Some t c =
    at-input c.args.self.now c.element.ensures.circuit c.args.signal c.args.time c.element.result.now c.element.ensures.driver
    c.in-Input.settings c.in-Input.is c.deref.result.now c.deref.ensures.value c.setting_at.result (Some c.in-Some.s) c.setting_at.ensures c.in-Some.is

pub returns-in-None-shown_edge : goal.returns-in-None-shown_edge
returns-in-None-shown_edge t c =
    at-flop c.args.self.now c.element.ensures.circuit c.args.signal c.args.time c.element.result.now c.element.ensures.driver
    c.in-Flop.f c.in-Flop.is c.shown_edge.result None c.shown_edge.ensures c.in-None-shown_edge.is

pub returns-in-Some-shown_edge : goal.returns-in-Some-shown_edge
returns-in-Some-shown_edge t c =
    c.eval_all-in-Some-shown_edge.ensures ∙ ap (λ v. only (v ∷ [])) c.value_at-in-Some-shown_edge.ensures
    ∙ at-flop c.args.self.now c.element.ensures.circuit c.args.signal c.args.time c.element.result.now c.element.ensures.driver
    c.in-Flop.f c.in-Flop.is c.shown_edge.result (Some c.in-Some-shown_edge.e) c.shown_edge.ensures c.in-Some-shown_edge.is

pub value_at-requires-in-Some-shown_edge : goal.value_at-requires-in-Some-shown_edge
value_at-requires-in-Some-shown_edge t c =
    let k = flop-calls c.args.self.now c.element.ensures.circuit c.args.signal c.args.time c.element.result.now c.element.ensures.driver
    c.in-Flop.f c.in-Flop.is c.in-Some-shown_edge.e c.shown_edge.result c.shown_edge.ensures c.in-Some-shown_edge.is in
    (omega (arith, k.0), k.1)

pub loop-i-preserved : goal.loop-i-preserved
loop-i-preserved t c =
    let v = value c.args.self.now in
    let pins = c.in-Gate.pins.items in
    let pin = c.index-pin.result.now in
    let short : c.loop-i.i < length pins = omega arith in
    let few = few-pins c.args.self.now c.element.ensures.circuit c.args.signal c.args.time c.element.result.now c.element.ensures.driver c.in-Gate.kind c.in-Gate.pins c.in-Gate.is in
    let room : c.loop-i.i < length c.loop-i.seen = omega arith in
    let w : c.if-pin-time.seen ≡ seen_value v c.args.time (get_or pins c.loop-i.i pin) =
    elim c.if-pin-time.branch [
      | then-pin-time w ↦ w.seen-is ∙ seen-late v c.args.time pins c.loop-i.i pin c.index-pin.ensures w.if-pin-time.true w.value_at.result w.value_at.ensures
      | else-pin-time w ↦ w.seen-is ∙ seen-early v c.args.time pins c.loop-i.i pin c.index-pin.ensures w.if-pin-time.false
    ] in
    record {
      long = length-set c.loop-i.seen c.loop-i.i c.if-pin-time.seen ∙ c.loop-i.invariant.long;
      same = see-more (seen_value v c.args.time) c.loop-i.seen pins c.loop-i.i c.if-pin-time.seen pin room short c.loop-i.invariant.same w;
    }

pub returns-after-loop-i : goal.returns-after-loop-i
returns-after-loop-i t c =
    let v = value c.args.self.now in
    let all = see-all (seen_value v c.args.time) c.loop-i.seen c.in-Gate.pins.items c.loop-i.i c.len.result c.loop-i.invariant.same (omega arith) (omega arith) in
    c.eval_all.ensures ∙ at-gate c.args.self.now c.element.ensures.circuit c.args.signal c.args.time c.element.result.now c.element.ensures.driver
    c.in-Gate.kind c.in-Gate.pins c.in-Gate.is _ all
