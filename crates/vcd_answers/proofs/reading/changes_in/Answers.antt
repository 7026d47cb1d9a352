use Rattle.std.proofs.Common.{rules, ◌∙◌, sym}
use Rattle.vcd_answers.proofs.ReadBack.{changes_end}
use Rattle.vcd_answers.proofs.reading.changes_in.Goals as goal

pub returns : goal.returns
returns c = sym (changes_end c.lines.wires c.lines.time c.lines.rest.now (search rules)) ∙ c.lines.invariant
