use Rattle.why_proofs.specs.Justified.{line_at}
use Rattle.std.proofs.Common.{◌∙◌}
use Rattle.why_proofs.proofs.KnownLemmas.{base-some, base-none}
use Rattle.why_proofs.proofs.known.KnownCells.answer.Goals as goal

pub returns-in-Some-clause-answer : goal.returns-in-Some-clause-answer
returns-in-Some-clause-answer c = λ lines i.
    base-some c.args.design.now.circuit c.facts.ensures.circuit c.args.p.signal c.args.p.time c.in-Some.cell c.in-Some.ensures.cell c.in-Some.ensures.some (line_at lines c.args.p.signal c.args.p.time)

pub returns-in-None-clause-answer : goal.returns-in-None-clause-answer
returns-in-None-clause-answer c = λ lines i.
    let d = c.args.design.now.circuit in
    c.find.ensures.line d lines c.facts.ensures.circuit c.requires.cells i ∙ base-none d c.facts.ensures.circuit c.args.p.signal c.args.p.time c.in-None.ensures.none (line_at lines c.args.p.signal c.args.p.time)
