use Rattle.std.proofs.Common.{rules, ◌≡◌, ◌<◌, length, sym, ◌∙◌, eqb-true}
use Rattle.std.specs.BTreeMap.{get}
use Rattle.valid_intervals.specs.Cells.{point_cmp}
use Rattle.why_proofs.specs.Justified.{answer}
use Rattle.design.specs.PinWalks.{looked_at}
use Rattle.why_proofs.proofs.Sound.{answer-right}
use Rattle.why_proofs.proofs.Sources.{ruled, unruled}
use Rattle.why_proofs.proofs.KnownLemmas.{index-right}
use Rattle.why_proofs.proofs.known.KnownCells.rule.Goals as goal

pub returns-then-is_done-clause-rules : goal.returns-then-is_done-clause-rules
returns-then-is_done-clause-rules c = λ lines i.
    let d = c.args.design.now.circuit in
    let ok = c.facts.ensures.circuit in
    let right = answer-right d ok lines (index-right d ok (get point_cmp c.args.self.now.cells) c.requires.cells lines i) in
    let done : c.pins.walk.looked ≡ length (looked_at d c.pins.walk.point) = eqb-true c.pins.walk.looked (length (looked_at d c.pins.walk.point)) (sym (c.is_done.ensures d c.pins.invariant.walk) ∙ c.if-is_done.true) in
    ruled d ok (answer d lines) right c.pins.walk c.args.p c.cell.result c.pins.invariant.point done (c.pins.invariant.known lines i) c.cell.ensures

pub returns-in-None-clause-rules : goal.returns-in-None-clause-rules
returns-in-None-clause-rules c = λ lines i.
    let d = c.args.design.now.circuit in
    let ok = c.facts.ensures.circuit in
    let right = answer-right d ok lines (index-right d ok (get point_cmp c.args.self.now.cells) c.requires.cells lines i) in
    let looking : c.pins.walk.looked < length (looked_at d c.pins.walk.point) = search rules in
    unruled d ok (answer d lines) right c.pins.walk c.args.p c.pins.invariant.point looking (c.in-None.ensures.known lines i)
