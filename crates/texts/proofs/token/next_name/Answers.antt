use Rattle.std.proofs.Common.{◌<◌, sym, ◌∙◌, arith}
use Rattle.texts.proofs.Tokens.{name_front, no_name_at, no_name_front}
use Rattle.texts.proofs.token.next_name.Goals as goal

pub returns-then-len-eq0 : goal.returns-then-len-eq0
returns-then-len-eq0 c = rw (sym c.after_blanks-bytes.ensures.tokens) (no_name_front c.after_blanks-bytes.result.now c.after_blanks-bytes.ensures.filled (sym c.if-len-eq0.true ∙ c.name_len-len.ensures.count))

pub returns-then-not-is_over : goal.returns-then-not-is_over
returns-then-not-is_over c =
    rw (sym c.after_blanks-bytes.ensures.tokens)
    (no_name_at c.after_blanks-bytes.result.now c.name_len-len.result c.is_over.result c.name_len-len.ensures.count c.is_over.ensures.end c.is_over.ensures.before c.if-not-is_over.true)

pub returns : goal.returns
returns c =
    let some : 0 < c.name_len-len.result = omega arith in
    let front = name_front c.after_blanks-bytes.result.now c.name_len-len.result c.name_len-len.ensures.count some c.name_len-len.ensures.within (λ lt. sym (c.is_over.ensures.before lt) ∙ c.if-not-is_over.false) in
    rw (sym c.after_blanks-bytes.ensures.tokens, c.split_at.ensures.front, c.split_at.ensures.back) front
