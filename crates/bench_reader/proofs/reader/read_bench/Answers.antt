use Rattle.std.proofs.Common.{Ok, inl, inr, sym, ap, subst, ◌∙◌}
use Rattle.std.proofs.lemmas.Result.{err_from_is_err_and}
use Rattle.bench_reader.specs.inner.Reading.{first_missing}
use Rattle.bench_reader.specs.inner.KeptNetlists.{content, IsKeptName}
use Rattle.bench_reader.proofs.Loop.{fault_answers, undefined_said, netlist_said}
use Rattle.bench_reader.proofs.Whole.{held}
use Rattle.bench_reader.proofs.reader.read_bench.Goals as goal

pub returns-in_err-empty : goal.returns-in_err-empty
returns-in_err-empty c = let p = err_from_is_err_and c.from_residual.result c.from_residual.ensures.1 in rw (p.1, p.2) (inl c.in_err-empty.ensures.memory)

pub returns-in_err-whole : goal.returns-in_err-whole
returns-in_err-whole c = let p = err_from_is_err_and c.from_residual-in_err-whole.result c.from_residual-in_err-whole.ensures.1 in rw (p.1, p.2) (fault_answers c.args.text.now c.in_err-whole.field-0.0 c.in_err-whole.ensures)

pub returns-in-Some : goal.returns-in-Some
returns-in-Some c = inr (undefined_said c.args.text.now c.in_ok-whole.whole.known c.in-Some.line c.in_ok-whole.ensures (ap first_missing (sym c.deref.ensures.value) ∙ sym c.in-Some.ensures))

pub returns : goal.returns
returns c =
    let known = c.in_ok-whole.whole.known in
    netlist_said c.args.text.now known c.in_ok-whole.ensures (ap first_missing (sym c.deref.ensures.value) ∙ sym c.in-None.ensures) ∙ ap (λ outputs. Ok (content known.names known.rows.items known.pins.items outputs)) (sym c.into_vec.ensures)

pub invariant_of-result : goal.invariant_of-result
invariant_of-result c =
    let known = c.in_ok-whole.whole.known in
    subst (IsKeptName known.names known.rows.items known.pins.items) (sym c.into_vec.ensures) (held _ known c.in_ok-whole.ensures.1.0 c.in_ok-whole.ensures.1.1)
