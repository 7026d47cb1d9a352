use Rattle.std.proofs.Common.{rules, ◌≡◌, ◌<◌, ◌≤◌, length, true}
use Rattle.std.specs.BTreeMap.{get}
use Rattle.valid_intervals.specs.Cells.{point_cmp}
use Rattle.valid_intervals.specs.declared.Point.{Point}
use Rattle.circuit_meaning.specs.Need.{IsEvaluable}
use Rattle.why_proofs.proofs.Judging.{justified, unjustified}
use Rattle.why_proofs.proofs.known.KnownCells.judge.Goals as goal

pub returns-then-says-clause-judged : goal.returns-then-says-clause-judged
returns-then-says-clause-judged c = λ lines i.
    let d = c.args.design.now.circuit in
    let p : Point = record { signal = c.signal.result; time = c.start.result } in
    let within : p.signal < length d.drivers = search rules in
    let until : p.time ≤ d.horizon = search rules in
    let evaluable : IsEvaluable d p.signal p.time = search rules in
    justified d c.facts.ensures.circuit (get point_cmp c.args.self.now.cells) c.requires lines i c.args.line.now p c.signal.ensures c.start.ensures c.in_ok-cell.cell (c.in_ok-cell.ensures.rules lines i) within until evaluable (c.says.ensures.0 c.if-says.true)

pub returns-else-says-clause-judged : goal.returns-else-says-clause-judged
returns-else-says-clause-judged c = λ lines i.
    let d = c.args.design.now.circuit in
    let p : Point = record { signal = c.signal.result; time = c.start.result } in
    unjustified d c.facts.ensures.circuit (get point_cmp c.args.self.now.cells) c.requires lines i c.args.line.now p c.signal.ensures c.start.ensures c.in_ok-cell.cell (c.in_ok-cell.ensures.rules lines i)
    (λ same. let yes : c.says.result ≡ true = c.says.ensures.1 same in cc (yes, c.if-says.false))
