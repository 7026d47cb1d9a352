use Rattle.std.proofs.Common.{inr, ap, sym, ◌∙◌, Ok}
use Rattle.std.proofs.lemmas.Result.{err_from_is_err_and}
use Rattle.stimulus_file.proofs.Loop.{fault_answers, said}
use Rattle.stimulus_file.proofs.Within.{stimulus-within}
use Rattle.stimulus_file.proofs.reader.read_stimulus.Goals as goal

pub returns-in_err-reader : goal.returns-in_err-reader
returns-in_err-reader c = let p = err_from_is_err_and c.from_residual.result c.from_residual.ensures.1 in rw (p.1, p.2) (fault_answers c.args.text.now c.in_err-reader.field-0.0 c.in_err-reader.ensures)

pub returns-in-None : goal.returns-in-None
returns-in-None c = inr (said c.args.text.now c.in_ok-reader.reader _ c.in_ok-reader.ensures c.in-None.is)

pub returns : goal.returns
returns c = said c.args.text.now c.in_ok-reader.reader _ c.in_ok-reader.ensures c.in-Some.is ∙ ap Ok (sym c.new-in-Some.ensures)

pub new-requires-in-Some : goal.new-requires-in-Some
new-requires-in-Some c = record {
  ranges = stimulus-within c.args.text.now _ (said c.args.text.now c.in_ok-reader.reader _ c.in_ok-reader.ensures c.in-Some.is);
  places = c.in_ok-reader.ensures.1.names.placed;
}
