use Rattle.std.proofs.Common.{◌≡◌, ◌+◌, ◌-◌, refl, arith}
use Rattle.std.proofs.lemmas.List.{drop-set}
use Rattle.texts.proofs.Numbers.{number_len}
use Rattle.texts.proofs.fields.writing.write_number.Goals as goal

pub returns-clause-written : goal.returns-clause-written
returns-clause-written c =
    let w = c.write_digits-start in
    let long = number_len c.from.result (omega (arith, c.from.ensures)) in
    let e : w.result - 1 + 1 ≡ w.result = omega arith in
    rw (drop-set w.new.buf (w.result - 1) c.args.first (omega arith), e, w.ensures.written, ← c.from.ensures) refl
