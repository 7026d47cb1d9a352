use Rattle.std.proofs.Common.{rules}
use Rattle.vcd_answers.proofs.Places.{lines_none}
use Rattle.vcd_answers.proofs.reading.after_line.Goals as goal

pub returns-then-is_empty : goal.returns-then-is_empty
returns-then-is_empty c = lines_none c.args.text.now (search rules)
