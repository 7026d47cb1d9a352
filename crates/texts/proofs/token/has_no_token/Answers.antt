use Rattle.std.proofs.Common.{◌≡◌, ◌<◌, length, refl, sym, ◌∙◌, arith}
use Rattle.std.proofs.lemmas.Bool.{eqb-true, eqb-false}
use Rattle.texts.proofs.Tokens.{empty_left, some_left}
use Rattle.texts.proofs.token.has_no_token.Goals as goal

pub returns-then-is_empty : goal.returns-then-is_empty
returns-then-is_empty c =
    let none : length c.after_blanks-bytes.result.now ≡ 0 = eqb-true _ _ (sym c.is_empty.ensures ∙ c.if-is_empty.true) in
    rw (sym c.after_blanks-bytes.ensures.tokens) (rw (empty_left c.after_blanks-bytes.result.now none) refl)

pub returns : goal.returns
returns c =
    let some : 0 < length c.after_blanks-bytes.result.now = omega (arith, eqb-false (length c.after_blanks-bytes.result.now) 0 (sym c.is_empty.ensures ∙ c.if-is_empty.false)) in
    rw (sym c.after_blanks-bytes.ensures.tokens) (some_left c.after_blanks-bytes.result.now some (c.after_blanks-bytes.ensures.filled some))
