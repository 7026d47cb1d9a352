use Rattle.std.proofs.Common.{ap, sym, ◌∙◌, Ok}
use Rattle.std.proofs.lemmas.Result.{err_from_is_err_and}
use Rattle.timing_file.proofs.Loop.{fault_answers, said}
use Rattle.timing_file.proofs.Within.{timing-within}
use Rattle.timing_file.proofs.reader.read_timing.Goals as goal

pub returns-in_err-reader : goal.returns-in_err-reader
returns-in_err-reader c = let p = err_from_is_err_and c.from_residual.result c.from_residual.ensures.1 in rw (p.1, p.2) (fault_answers c.args.text.now c.in_err-reader.field-0.0 c.in_err-reader.ensures)

pub new-requires-3 : goal.new-requires-3
new-requires-3 c = timing-within c.args.text.now _ (said c.args.text.now c.in_ok-reader.reader c.in_ok-reader.ensures)

pub returns : goal.returns
returns c = said c.args.text.now c.in_ok-reader.reader c.in_ok-reader.ensures ∙ ap Ok (sym c.new-3.ensures)
