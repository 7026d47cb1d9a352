use Rattle.std.proofs.Common.{length}
use Rattle.texts.proofs.Lines.{Progress}
use Rattle.texts.proofs.line_faults.reader.read_lines.Given as goal

abbrev pub invariant-loop-rest : goal.invariant-loop-rest
invariant-loop-rest g l = Progress g.R.LineReader.cause_of g.R.LineReader.has_read g.R.LineReader.line_of l.fn.text l.reader l.number l.rest

abbrev pub decreases-loop-rest : goal.decreases-loop-rest
decreases-loop-rest g l = length l.rest
