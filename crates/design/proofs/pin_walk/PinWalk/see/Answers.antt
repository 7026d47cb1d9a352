use Rattle.std.proofs.Common.{◌≡◌, ◌<◌, ◌+◌, ◌∙◌, ap, sym, subst, length, nat_eq, get_or, rules, None, IfSome}
use Rattle.valid_intervals.specs.Spans.{meet}
use Rattle.circuit_meaning.specs.Looks.{sees}
use Rattle.design.specs.PinWalks.{IsPoint, looked_at, next_point}
use Rattle.design.proofs.PinWalkLemmas.{pin-below, few-looked, heard-there, heard-value, some-time, looks-on, sees-more, done-first, done-last, over, on, on-below, on-source}
use Rattle.design.proofs.pin_walk.PinWalk.see.Goals as goal
use Rattle.design.proofs.pin_walk.PinWalk.see.Goals.{then-decides, else-decides, then-done, else-done}

pub pin_span-interval-requires-clause-pin : goal.pin_span-interval-requires-clause-pin
pin_span-interval-requires-clause-pin c = pin-below c.args.design.now.circuit c.facts.ensures.circuit c.args.self.now c.requires.walk c.requires.looking

pub pin_span-interval-requires-clause-heard : goal.pin_span-interval-requires-clause-heard
pin_span-interval-requires-clause-heard c = c.heard_there-value.ensures.span ∙ heard-there c.args.design.now.circuit c.facts.ensures.circuit c.args.self.now c.requires.walk c.requires.looking c.args.heard c.requires.heard

pub overflow_add-looked : goal.overflow_add-looked
overflow_add-looked c = let few : c.args.self.now.looked < 64 = few-looked c.args.design.now.circuit c.facts.ensures.circuit c.args.self.now c.requires.walk c.requires.looking in search rules

pub source_of-source-requires-clause-pin : goal.source_of-source-requires-clause-pin
source_of-source-requires-clause-pin c =
    let d = c.args.design.now.circuit in
    let f = c.args.self.now in
    let ok = c.facts.ensures.circuit in
    let seen : c.heard_there-value.result.0 ≡ sees d (next_point d f) = c.heard_there-value.ensures.value ∙ heard-value d (next_point d f) c.args.heard c.requires.heard in
    let done : c.if-decides.done ≡ nat_eq (f.looked + 1) (length (looked_at d f.point)) = elim c.if-decides.branch [
      | then-decides w ↦ w.done-is ∙ w.if-decides.true ∙ done-first d ok f c.requires.walk c.requires.looking c.heard_there-value.result.0 seen (sym c.decides.ensures ∙ w.if-decides.true)
      | else-decides w ↦ w.done-is ∙ done-last d ok f c.requires.walk c.requires.looking c.heard_there-value.result.0 seen (sym c.decides.ensures ∙ w.if-decides.false) (length c.gate_of.result.1.now) (ap length c.gate_of.ensures.pins)
    ] in
    subst (λ xs. f.looked + 1 < length xs) (sym c.gate_of.ensures.pins) (on-below d ok f c.requires.walk (on d ok f c.requires.walk c.requires.looking c.if-decides.done done c.if-done.false))

pub common-self-requires : goal.common-self-requires
common-self-requires c = some-time c.args.design.now.circuit c.facts.ensures.circuit c.args.self.now c.requires.walk c.facts.ensures.limits.horizon c.pin_span-interval.result c.pin_span-interval.ensures

pub returns : goal.returns
returns c =
    let d = c.args.design.now.circuit in
    let f = c.args.self.now in
    let ok = c.facts.ensures.circuit in
    let seen : c.heard_there-value.result.0 ≡ sees d (next_point d f) = c.heard_there-value.ensures.value ∙ heard-value d (next_point d f) c.args.heard c.requires.heard in
    let done : c.if-decides.done ≡ nat_eq (f.looked + 1) (length (looked_at d f.point)) = elim c.if-decides.branch [
      | then-decides w ↦ w.done-is ∙ w.if-decides.true ∙ done-first d ok f c.requires.walk c.requires.looking c.heard_there-value.result.0 seen (sym c.decides.ensures ∙ w.if-decides.true)
      | else-decides w ↦ w.done-is ∙ done-last d ok f c.requires.walk c.requires.looking c.heard_there-value.result.0 seen (sym c.decides.ensures ∙ w.if-decides.false) (length c.gate_of.result.1.now) (ap length c.gate_of.ensures.pins)
    ] in
    let source : (c.if-done.source ≡ get_or (looked_at d f.point) (f.looked + 1) None) × IfSome c.if-done.source (IsPoint d) = elim c.if-done.branch [
      | then-done w ↦ (w.source-is ∙ over d ok f c.requires.walk c.requires.looking c.if-decides.done done w.if-done.true, subst (λ o. IfSome o (IsPoint d)) (sym w.source-is) tt)
      | else-done w ↦ (
        w.source-is ∙ w.source_of-source.ensures.source ∙ on-source d ok f c.requires.walk (on d ok f c.requires.walk c.requires.looking c.if-decides.done done w.if-done.false),
        subst (λ o. IfSome o (IsPoint d)) (sym w.source-is) w.source_of-source.ensures.point,
      )
    ] in
    looks-on d ok f c.requires.walk c.requires.looking c.see-self.result c.heard_there-value.result.0 c.common-self.result c.if-decides.done c.if-done.source seen c.see-self.ensures.kind
    (sees-more d ok f c.requires.walk c.requires.looking c.see-self.result c.heard_there-value.result.0 c.see-self.ensures.seen) (c.common-self.ensures ∙ ap (meet f.interval) c.pin_span-interval.ensures)
    done source.0 source.1
